use Rattle.std.proofs.Common.{rules, arith}
use Rattle.mon_board.proofs.Steps.{loads_global}
use Rattle.mon_board.proofs.plain.PlainBoard.global.Goals as goal

pub load-requires : goal.load-requires
load-requires c = (search rules, search rules, loads_global _ _ _ _ 0 _ (omega arith) (omega arith))

pub returns-clause-word : goal.returns-clause-word
returns-clause-word c = c.load.ensures.2.0.global (omega arith)
