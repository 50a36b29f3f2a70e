use Rattle.std.proofs.Common.{◌≡◌, length}
use Rattle.mon_compile.specs.Faults.{has_twin}
use Rattle.mon_compile.proofs.scope.has_twin.Given as goal

abbrev pub invariant-loop-name : goal.invariant-loop-name
invariant-loop-name l = has_twin l.names ≡ has_twin l.rest

abbrev pub decreases-loop-name : goal.decreases-loop-name
decreases-loop-name l = length l.rest
