use Rattle.std.proofs.Common.{rules}
use Rattle.mon_board.proofs.Steps.{polls}
use Rattle.mon_board.proofs.plain.PlainBoard.poll.Goals as goal

pub load-requires : goal.load-requires
load-requires c = (search rules, search rules, polls _ _ _ _ _)
