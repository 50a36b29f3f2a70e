use Rattle.std.proofs.Common.{◌≡◌, ◌+◌, ◌*◌, map, drop}
use Rattle.mon_compile.specs.Faults as spec
use Rattle.mon_compile.specs.Nodes.{nodes, all_nodes}
use Rattle.mon_compile.proofs.large.+has_large.Given as goal

abbrev pub invariant-any_large-loop-expression : goal.invariant-any_large-loop-expression
invariant-any_large-loop-expression l = spec.any_large (map spec.has_large l.expressions) ≡ spec.any_large (map spec.has_large (drop l.expression-index l.expressions))

abbrev pub decreases-has_large : goal.decreases-has_large
decreases-has_large l = 2 * nodes l.expression.now

abbrev pub decreases-any_large : goal.decreases-any_large
decreases-any_large l = 2 * all_nodes l.expressions.now + 1
