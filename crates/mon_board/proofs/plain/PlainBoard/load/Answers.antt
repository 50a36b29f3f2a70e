use Rattle.std.proofs.Common.{rules, arith, ◌+◌}
use Rattle.mon_board.proofs.Steps.{loads}
use Rattle.mon_board.proofs.plain.PlainBoard.load.Goals as goal

pub load-requires : goal.load-requires
load-requires c = (search rules, search rules, loads _ _ _ _ (7 + c.args.location) _ (omega arith) (omega arith))

pub returns-clause-word : goal.returns-clause-word
returns-clause-word c = c.load.ensures.2.0.location c.args.location (omega arith)
