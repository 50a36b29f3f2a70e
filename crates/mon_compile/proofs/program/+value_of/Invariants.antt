use Rattle.std.proofs.Common.{◌≡◌, ◌+◌, ◌*◌, ◌++◌, map, drop}
use Rattle.mon_compile.specs.Modules as spec
use Rattle.mon_compile.specs.Nodes.{total}
use Rattle.mon_compile.proofs.Constants.{constant_nodes}
use Rattle.mon_compile.proofs.program.+value_of.Given as goal

abbrev pub invariant-values_of-loop-constant : goal.invariant-values_of-loop-constant
invariant-values_of-loop-constant l = l.values.items ++ map spec.constant_value (drop l.constant-index l.constants) ≡ map spec.constant_value l.constants

abbrev pub decreases-value_of : goal.decreases-value_of
decreases-value_of l = 2 * constant_nodes l.constant.now

abbrev pub decreases-values_of : goal.decreases-values_of
decreases-values_of l = 2 * total (map constant_nodes l.constants.now) + 1
