use Rattle.std.proofs.Common.{◌≡◌, ◌<◌, ◌^◌, drop}
use Rattle.mon_events.specs.Names.{with_digits}
use Rattle.mon_events.proofs.names.set_of_digits.Given as goal

abbrev pub invariant-loop-c : goal.invariant-loop-c
invariant-loop-c l = (with_digits l.value (drop l.c-index l.digits) ≡ with_digits 0 l.digits) × (l.value < 2 ^ 32)
