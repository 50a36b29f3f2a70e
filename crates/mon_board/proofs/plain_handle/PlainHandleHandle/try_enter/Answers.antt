use Rattle.mon_board.proofs.Telling.{enters}
use Rattle.mon_board.proofs.plain_handle.PlainHandleHandle.try_enter.Goals as goal

pub returns-clause-told : goal.returns-clause-told
returns-clause-told c = let h = c.args.self.now in enters h.thread h.board.now.chair.me.0 c.enter.new.self.chair.me.0 c.enter.ensures.view
