use Rattle.mon_board.proofs.Telling.{loads_callbacks}
use Rattle.mon_board.proofs.plain_handle.PlainHandleHandle.callbacks.Goals as goal

pub returns-clause-told : goal.returns-clause-told
returns-clause-told c = let h = c.args.self.now in loads_callbacks h.thread h.board.now.chair.me.0 c.callbacks.new.self.chair.me.0 h.running.0 c.args.tool c.callbacks.result c.callbacks.ensures.view c.callbacks.ensures.word
