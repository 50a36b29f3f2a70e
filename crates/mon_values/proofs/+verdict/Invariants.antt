use Rattle.std.proofs.Common.{◌≡◌, ◌≤◌, length, drop, map}
use Rattle.mon_values.specs.Comparing as spec
use Rattle.mon_values.proofs.+verdict.Given as goal

abbrev pub invariant-compare::tuple_verdict-loop-i : goal.invariant-compare::tuple_verdict-loop-i
invariant-compare::tuple_verdict-loop-i l = record {
  within : l.i ≤ length l.b;
  so_far : spec.tuple_verdict (map spec.verdict l.a) l.b ≡ spec.tuple_verdict (map spec.verdict (drop l.i l.a)) (drop l.i l.b);
}
