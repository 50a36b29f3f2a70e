use Rattle.mon_board.proofs.Seats.{loads_callbacks}
use Rattle.mon_board.proofs.table.TableHandleHandle.callbacks.Goals as goal

pub returns-clause-told : goal.returns-clause-told
returns-clause-told c = loads_callbacks c.args.self.now.seat.chair.me.0 c.callbacks.new.self.chair.me.0 c.callbacks.ensures.seen c.args.tool c.callbacks.result c.callbacks.ensures.view c.callbacks.ensures.word
