use Rattle.std.proofs.Common.{◌≡◌, ◌++◌, drop, string_bytes}
use Rattle.mon_code.specs.Programs.{Parts}
use Rattle.mon_forms.specs.Reports.{operands_text}
use Rattle.mon_forms.specs.Texts.{AreNames}
use Rattle.mon_forms.proofs.journal.write_operands.Given as goal

abbrev pub invariant-loop-operand : goal.invariant-loop-operand
invariant-loop-operand l = (p : Parts) → AreNames p l.names → string_bytes l.out ++ operands_text p l.parts (drop l.operand-index l.operands) ≡ string_bytes l.initial.out ++ operands_text p l.parts l.operands
