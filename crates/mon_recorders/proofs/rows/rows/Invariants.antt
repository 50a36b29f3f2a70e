use Rattle.std.proofs.Common.{◌≡◌, ◌++◌, map}
use Rattle.mon_recorders.specs.Rows as spec
use Rattle.mon_recorders.proofs.rows.rows.Given as goal

abbrev pub invariant-loop-key : goal.invariant-loop-key
invariant-loop-key l = l.rows ++ map spec.row_of l.key-iterator ≡ spec.rows l.fn.counting l.tool l.threads
