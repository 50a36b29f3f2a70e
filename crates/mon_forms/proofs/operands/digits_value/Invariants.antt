use Rattle.std.proofs.Common.{◌≡◌, ◌<◌, ◌^◌, drop}
use Rattle.mon_forms.specs.Operands.{value_behind}
use Rattle.mon_forms.proofs.operands.digits_value.Given as goal

abbrev pub invariant-loop-c : goal.invariant-loop-c
invariant-loop-c l =
    (value_behind l.value (drop l.c-index l.word) ≡ value_behind 0 l.word) × (l.value < 10 ^ l.c-index)
