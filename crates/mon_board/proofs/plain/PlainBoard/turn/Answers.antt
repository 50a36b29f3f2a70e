use Rattle.std.proofs.Common.{rules}
use Rattle.mon_board.proofs.Steps.{turns}
use Rattle.mon_board.proofs.plain.PlainBoard.turn.Goals as goal

pub load-requires : goal.load-requires
load-requires c = (search rules, search rules, turns _ _ _ _ _)
