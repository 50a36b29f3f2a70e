use Rattle.std.proofs.Common.{◌≡◌, ◌≤◌, length, drop}
use Rattle.mon_code.specs.Programs as spec
use Rattle.mon_code.proofs.program.is_named.Given as goal

abbrev pub invariant-loop-i : goal.invariant-loop-i
invariant-loop-i l = record {
  within : l.i ≤ length l.bytes;
  so_far : spec.is_text l.text l.name ≡ spec.is_text (drop l.i l.text) (drop l.i l.bytes);
}
