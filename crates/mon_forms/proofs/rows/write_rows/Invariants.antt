use Rattle.std.proofs.Common.{◌≡◌, ◌++◌, drop, string_bytes}
use Rattle.mon_code.specs.Programs.{Parts}
use Rattle.mon_forms.specs.Rows.{rows_text}
use Rattle.mon_forms.specs.Texts.{AreNames}
use Rattle.mon_forms.proofs.rows.write_rows.Given as goal

abbrev pub invariant-loop-row : goal.invariant-loop-row
invariant-loop-row l = (p : Parts) → AreNames p l.names → string_bytes l.out ++ rows_text p l.line (drop l.row-index l.rows) ≡ string_bytes l.initial.out ++ rows_text p l.line l.rows
