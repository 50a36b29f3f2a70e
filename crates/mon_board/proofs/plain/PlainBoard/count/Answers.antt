use Rattle.std.proofs.Common.{rules, arith}
use Rattle.mon_board.proofs.Steps.{counts}
use Rattle.mon_board.proofs.plain.PlainBoard.count.Goals as goal

pub store-requires : goal.store-requires
store-requires c = (search rules, search rules, counts _ _ _ _ _ _ (omega arith) c.requires.running.1 c.requires.more)
