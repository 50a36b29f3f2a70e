use Rattle.std.proofs.Common.{◌≡◌, ◌++◌, length, map}
use Rattle.mon_compile.specs.Modules as spec
use Rattle.mon_compile.proofs.program.names.Given as goal

abbrev pub invariant-loop-item : goal.invariant-loop-item
invariant-loop-item l = l.names ++ map spec.function_name (spec.functions_of l.rest) ≡ map spec.function_name (spec.functions_of l.items)

abbrev pub decreases-loop-item : goal.decreases-loop-item
decreases-loop-item l = length l.rest
