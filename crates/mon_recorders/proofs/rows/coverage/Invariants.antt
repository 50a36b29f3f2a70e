use Rattle.std.proofs.Common.{◌≡◌}
use Rattle.std.specs.List.{fold}
use Rattle.mon_recorders.specs.Rows as spec
use Rattle.mon_recorders.proofs.rows.coverage.Given as goal

abbrev pub invariant-loop-key : goal.invariant-loop-key
invariant-loop-key l = fold spec.cover l.rows l.key-iterator ≡ spec.coverage l.tool l.threads
