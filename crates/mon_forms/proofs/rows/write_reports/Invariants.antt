use Rattle.std.proofs.Common.{◌≡◌, ◌++◌, drop, string_bytes}
use Rattle.mon_code.specs.Programs.{Parts}
use Rattle.mon_forms.specs.Rows.{reports_text}
use Rattle.mon_forms.specs.Texts.{AreNames}
use Rattle.mon_forms.proofs.rows.write_reports.Given as goal

abbrev pub invariant-loop-line : goal.invariant-loop-line
invariant-loop-line l = (p : Parts) → AreNames p l.names → string_bytes l.out ++ reports_text p l.threads (drop l.line-index l.asked) ≡ string_bytes l.initial.out ++ reports_text p l.threads l.asked
