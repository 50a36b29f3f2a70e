use Rattle.mon_board.proofs.Seats.{clears}
use Rattle.mon_board.proofs.table.TableHandleHandle.disable.Goals as goal

pub returns-clause-told : goal.returns-clause-told
returns-clause-told c k low is = let s = c.args.self.now.seat in
    clears s.chair.me.0 c.disable.new.self.chair.me.0 s.number c.args.location k c.disable.result s.named c.disable.ensures.view (c.disable.ensures.seen k low is)
