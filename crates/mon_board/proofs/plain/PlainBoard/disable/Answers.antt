use Rattle.std.proofs.Common.{rules, arith, ap, subst, ◌≡◌, ◌-◌}
use Rattle.mon_words.specs.Words.{Shows}
use Rattle.mon_words.specs.History.{cell_at}
use Rattle.mon_board.specs.Plain.{standing}
use Rattle.mon_board.specs.declared.plain_view.PlainView.{PlainView}
use Rattle.mon_board.proofs.Keeping.{Knows}
use Rattle.mon_board.proofs.Keeping as keeping
use Rattle.mon_board.proofs.Steps.{disables}
use Rattle.mon_board.proofs.plain.PlainBoard.disable.Goals as goal

pub fetch_and-requires : goal.fetch_and-requires
fetch_and-requires c = (search rules, search rules, disables _ _ _ _ c.args.location c.requires.mask.0 _ _ (omega arith) (omega arith) c.requires.running.0 c.requires.mask.1 c.requires.mask.2)

pub invariant_of-self-2-clause-based : goal.invariant_of-self-2-clause-based
invariant_of-self-2-clause-based c = let v : PlainView = c.args.self.now.chair.me.0 in let t = c.fetch_and.ensures.2 c.requires.mask.0 c.requires.mask.1 c.requires.mask.2 in
    (keeping.disabled v c.fetch_and.new.seat.me.0 _ _ _ _ c.requires.running.0 (ap (λ m. m.0) t.1) record { based = c.args.self.now.based; six = c.args.self.now.six }).based

pub invariant_of-self-2-clause-six : goal.invariant_of-self-2-clause-six
invariant_of-self-2-clause-six c = let v : PlainView = c.args.self.now.chair.me.0 in let t = c.fetch_and.ensures.2 c.requires.mask.0 c.requires.mask.1 c.requires.mask.2 in
    (keeping.disabled v c.fetch_and.new.seat.me.0 _ _ _ _ c.requires.running.0 (ap (λ m. m.0) t.1) record { based = c.args.self.now.based; six = c.args.self.now.six }).six

pub returns-clause-word : goal.returns-clause-word
returns-clause-word c = let t = c.fetch_and.ensures.2 c.requires.mask.0 c.requires.mask.1 c.requires.mask.2 in
    let spot : c.place-place.result - c.args.self.now.chair.me.0.threads - 7 ≡ c.args.location = omega arith in
    subst (λ z. Shows (cell_at (standing c.args.self.now.chair.me.0) z) c.fetch_and.result) spot t.0
