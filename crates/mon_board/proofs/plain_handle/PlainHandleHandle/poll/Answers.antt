use Rattle.mon_board.proofs.Telling.{polls}
use Rattle.mon_board.proofs.plain_handle.PlainHandleHandle.poll.Goals as goal

pub returns-clause-told : goal.returns-clause-told
returns-clause-told c = let h = c.args.self.now in polls h.thread h.board.now.chair.me.0 c.poll.new.self.chair.me.0 c.poll.ensures.view
