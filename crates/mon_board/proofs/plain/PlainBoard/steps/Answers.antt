use Rattle.std.proofs.Common.{rules, arith}
use Rattle.mon_board.proofs.Steps.{notes}
use Rattle.mon_board.proofs.plain.PlainBoard.steps.Goals as goal

pub load-requires : goal.load-requires
load-requires c = (search rules, search rules, notes _ _ _ _ _ (omega arith))
