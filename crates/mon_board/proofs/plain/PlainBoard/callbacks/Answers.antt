use Rattle.std.proofs.Common.{rules, arith, ◌+◌}
use Rattle.mon_board.proofs.Steps.{loads_callbacks}
use Rattle.mon_board.proofs.plain.PlainBoard.callbacks.Goals as goal

pub load-requires : goal.load-requires
load-requires c = (search rules, search rules, loads_callbacks _ _ _ _ (1 + c.args.tool) _ (omega arith) (omega arith))

pub returns-clause-word : goal.returns-clause-word
returns-clause-word c = c.load.ensures.2.0.callbacks c.args.tool (search rules) (omega arith)
