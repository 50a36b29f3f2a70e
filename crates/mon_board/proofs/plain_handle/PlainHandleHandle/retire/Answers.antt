use Rattle.mon_board.specs.declared.plain_view.PlainView.{PlainView}
use Rattle.mon_board.proofs.Telling.{retires}
use Rattle.mon_board.proofs.plain_handle.PlainHandleHandle.retire.Goals as goal

pub returns-clause-told : goal.returns-clause-told
returns-clause-told c = let h = c.args.self.now in let v : PlainView = h.board.now.chair.me.0 in let found = c.retire.ensures.answer in
    retires h.thread v c.retire.new.self.chair.me.0 h.running.0 c.args.location c.args.old found.0 c.retire.result c.retire.ensures.view found.1 found.2
