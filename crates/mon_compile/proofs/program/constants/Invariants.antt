use Rattle.std.proofs.Common.{◌≡◌, ◌++◌, length}
use Rattle.mon_compile.specs.Modules as spec
use Rattle.mon_compile.proofs.program.constants.Given as goal

abbrev pub invariant-loop-item : goal.invariant-loop-item
invariant-loop-item l = l.constants ++ spec.module_constants l.rest ≡ spec.module_constants l.items

abbrev pub decreases-loop-item : goal.decreases-loop-item
decreases-loop-item l = length l.rest
