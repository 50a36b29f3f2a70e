use Rattle.std.proofs.Common.{◌≡◌, ◌++◌, drop, string_bytes}
use Rattle.mon_code.specs.Programs.{Parts}
use Rattle.mon_forms.specs.Reports.{journal_text}
use Rattle.mon_forms.specs.Texts.{AreNames}
use Rattle.mon_forms.proofs.journal.write_lines.Given as goal

abbrev pub invariant-loop-line : goal.invariant-loop-line
invariant-loop-line l = (p : Parts) → AreNames p l.names → string_bytes l.out ++ journal_text p (drop l.line-index l.lines) ≡ string_bytes l.initial.out ++ journal_text p l.lines
