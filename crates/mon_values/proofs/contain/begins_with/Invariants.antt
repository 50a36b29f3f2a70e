use Rattle.std.proofs.Common.{◌≡◌, ◌≤◌, length, drop}
use Rattle.mon_values.specs.Containing as spec
use Rattle.mon_values.proofs.contain.begins_with.Given as goal

abbrev pub invariant-loop-i : goal.invariant-loop-i
invariant-loop-i l = record {
  within : l.i ≤ length l.text;
  so_far : spec.begins_with (drop l.i l.part) (drop l.i l.text) ≡ spec.begins_with l.part l.text;
}
