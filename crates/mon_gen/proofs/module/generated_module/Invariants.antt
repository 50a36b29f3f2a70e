use Rattle.std.proofs.Common.{◌≡◌}
use Rattle.mon_gen.specs.Generated.{loops}
use Rattle.mon_gen.proofs.module.generated_module.Given as goal

abbrev pub invariant-loop-number : goal.invariant-loop-number
invariant-loop-number l = l.items ≡ loops l.number
