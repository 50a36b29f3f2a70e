use Rattle.std.proofs.Common.{rules}
use Rattle.mon_board.proofs.Steps.{enters}
use Rattle.mon_board.proofs.plain.PlainBoard.enter.Goals as goal

pub load-requires : goal.load-requires
load-requires c = (search rules, search rules, enters _ _ _ _ _)
