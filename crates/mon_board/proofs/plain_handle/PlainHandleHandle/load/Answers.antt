use Rattle.mon_board.specs.declared.plain_view.PlainView.{PlainView}
use Rattle.mon_board.proofs.Telling.{loads}
use Rattle.mon_board.proofs.plain_handle.PlainHandleHandle.load.Goals as goal

pub returns-clause-told : goal.returns-clause-told
returns-clause-told c = let h = c.args.self.now in let v : PlainView = h.board.now.chair.me.0 in
    loads h.thread v c.load.new.self.chair.me.0 h.running.0 c.args.location c.load.result h.board.now.based c.load.ensures.view c.load.ensures.word
