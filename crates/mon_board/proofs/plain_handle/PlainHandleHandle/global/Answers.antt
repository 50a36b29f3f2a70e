use Rattle.mon_board.proofs.Telling.{loads_global}
use Rattle.mon_board.proofs.plain_handle.PlainHandleHandle.global.Goals as goal

pub returns-clause-told : goal.returns-clause-told
returns-clause-told c = let h = c.args.self.now in loads_global h.thread h.board.now.chair.me.0 c.global.new.self.chair.me.0 h.running.0 c.global.result c.global.ensures.view c.global.ensures.word
