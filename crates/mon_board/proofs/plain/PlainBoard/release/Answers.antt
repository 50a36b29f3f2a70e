use Rattle.std.proofs.Common.{rules, ap}
use Rattle.mon_board.specs.declared.plain_view.PlainView.{PlainView}
use Rattle.mon_board.proofs.Keeping.{Knows}
use Rattle.mon_board.proofs.Keeping as keeping
use Rattle.mon_board.proofs.Steps.{releases}
use Rattle.mon_board.proofs.plain.PlainBoard.release.Goals as goal

pub load-requires : goal.load-requires
load-requires c = (search rules, search rules, releases _ _ _ _ _ c.requires)

pub invariant_of-self-2-clause-based : goal.invariant_of-self-2-clause-based
invariant_of-self-2-clause-based c = let v : PlainView = c.args.self.now.chair.me.0 in
    (keeping.released v c.load.new.seat.me.0 (ap (λ m. m.0) c.load.ensures.2) record { based = c.args.self.now.based; six = c.args.self.now.six }).based

pub invariant_of-self-2-clause-six : goal.invariant_of-self-2-clause-six
invariant_of-self-2-clause-six c = let v : PlainView = c.args.self.now.chair.me.0 in
    (keeping.released v c.load.new.seat.me.0 (ap (λ m. m.0) c.load.ensures.2) record { based = c.args.self.now.based; six = c.args.self.now.six }).six
