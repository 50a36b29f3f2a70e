use Rattle.std.proofs.Common.{◌≡◌, drop}
use Rattle.mon_compile.specs.Expressions as spec
use Rattle.mon_compile.proofs.scope.is_local.Given as goal

abbrev pub invariant-loop-other : goal.invariant-loop-other
invariant-loop-other l = spec.is_local l.locals l.name ≡ spec.is_local (drop l.other-index l.locals) l.name
