use Rattle.mon_board.proofs.Seats.{retires}
use Rattle.mon_board.proofs.table.TableHandleHandle.retire.Goals as goal

pub returns-clause-told : goal.returns-clause-told
returns-clause-told c = retires c.args.self.now.seat.chair.me.0 c.retire.new.self.chair.me.0 c.retire.ensures.seen c.args.location c.args.old c.retire.ensures.answer.0 c.retire.result c.retire.ensures.view c.retire.ensures.answer.1 c.retire.ensures.answer.2
