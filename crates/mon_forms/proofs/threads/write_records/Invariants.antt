use Rattle.std.proofs.Common.{◌≡◌, ◌++◌, drop, string_bytes}
use Rattle.mon_code.specs.Programs.{Parts}
use Rattle.mon_forms.specs.Reports.{records_text}
use Rattle.mon_forms.specs.Texts.{AreNames}
use Rattle.mon_forms.proofs.threads.write_records.Given as goal

abbrev pub invariant-loop-index : goal.invariant-loop-index
invariant-loop-index l = (p : Parts) → AreNames p l.names → string_bytes l.out ++ records_text p (drop l.index l.records) ≡ string_bytes l.initial.out ++ records_text p l.records
