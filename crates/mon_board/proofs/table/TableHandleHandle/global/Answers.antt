use Rattle.mon_board.proofs.Seats.{loads_global}
use Rattle.mon_board.proofs.table.TableHandleHandle.global.Goals as goal

pub returns-clause-told : goal.returns-clause-told
returns-clause-told c = loads_global c.args.self.now.seat.chair.me.0 c.global.new.self.chair.me.0 c.global.ensures.seen c.global.result c.global.ensures.view c.global.ensures.word
