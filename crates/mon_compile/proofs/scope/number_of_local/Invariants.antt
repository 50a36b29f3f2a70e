use Rattle.std.proofs.Common.{◌≡◌, ◌+◌, drop}
use Rattle.mon_compile.specs.Expressions as spec
use Rattle.mon_compile.proofs.scope.number_of_local.Given as goal

abbrev pub invariant-loop-k : goal.invariant-loop-k
invariant-loop-k l = spec.number_of_local l.locals l.name ≡ l.k + spec.number_of_local (drop l.k l.locals) l.name
