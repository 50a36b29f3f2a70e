use Rattle.mon_board.proofs.Seats.{loads}
use Rattle.mon_board.proofs.table.TableHandleHandle.load.Goals as goal

pub returns-clause-told : goal.returns-clause-told
returns-clause-told c = loads c.args.self.now.seat.chair.me.0 c.load.new.self.chair.me.0 c.load.ensures.seen c.args.location c.load.result c.load.ensures.view c.load.ensures.word
