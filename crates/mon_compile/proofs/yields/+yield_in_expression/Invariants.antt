use Rattle.std.proofs.Common.{◌≡◌, ◌+◌, ◌*◌, map, drop}
use Rattle.mon_compile.specs.Earlier.{earlier}
use Rattle.mon_compile.specs.Faults.{least}
use Rattle.mon_compile.specs.Functions.{joined, yields_in}
use Rattle.mon_compile.specs.Nodes.{nodes, all_nodes}
use Rattle.mon_compile.proofs.yields.+yield_in_expression.Given as goal

abbrev pub invariant-yield_in_all-loop-expression : goal.invariant-yield_in_all-loop-expression
invariant-yield_in_all-loop-expression l = earlier l.line (least (joined (map yields_in (drop l.expression-index l.expressions)))) ≡ least (joined (map yields_in l.expressions))

abbrev pub decreases-yield_in_expression : goal.decreases-yield_in_expression
decreases-yield_in_expression l = 3 * nodes l.expression.now

abbrev pub decreases-yield_in_two : goal.decreases-yield_in_two
decreases-yield_in_two l = 3 * (nodes l.a.now + nodes l.b.now) + 1

abbrev pub decreases-yield_in_call : goal.decreases-yield_in_call
decreases-yield_in_call l = 3 * (nodes l.callee.now + all_nodes l.args.now) + 2

abbrev pub decreases-yield_in_all : goal.decreases-yield_in_all
decreases-yield_in_all l = 3 * all_nodes l.expressions.now + 1
