use Rattle.std.proofs.Common.{ap}
use Rattle.mon_board.specs.Views.{told_of}
use Rattle.mon_board.proofs.table.TableHandleHandle.poll.Goals as goal

pub returns-clause-told : goal.returns-clause-told
returns-clause-told c = record { owns = c.poll.new.self.own; rest = ap told_of c.poll.ensures.view }
