use Rattle.std.proofs.Common.{◌≡◌, ◌≤◌, length, drop}
use Rattle.mon_values.specs.Comparing as spec
use Rattle.mon_values.proofs.compare.text_verdict.Given as goal

abbrev pub invariant-loop-i : goal.invariant-loop-i
invariant-loop-i l = record {
  within : l.i ≤ length l.b;
  so_far : spec.text_verdict l.a l.b ≡ spec.text_verdict (drop l.i l.a) (drop l.i l.b);
}
