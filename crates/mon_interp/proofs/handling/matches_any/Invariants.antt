use Rattle.std.proofs.Common.{◌≡◌, drop}
use Rattle.std.specs.Prelude.{Some}
use Rattle.mon_machine.specs.Operations.{matches_any, either}
use Rattle.mon_interp.proofs.handling.matches_any.Given as goal

abbrev pub invariant-loop-v : goal.invariant-loop-v
invariant-loop-v l = matches_any l.class l.of ≡ either (Some l.found) (matches_any l.class (drop l.v-index l.of))
