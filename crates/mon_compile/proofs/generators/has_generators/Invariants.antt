use Rattle.std.proofs.Common.{◌≡◌, drop}
use Rattle.mon_compile.specs.Generators as spec
use Rattle.mon_compile.proofs.generators.has_generators.Given as goal

abbrev pub invariant-loop-base : goal.invariant-loop-base
invariant-loop-base l = spec.has_generators l.bases ≡ spec.has_generators (drop l.base-index l.bases)
