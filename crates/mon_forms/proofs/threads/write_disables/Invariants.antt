use Rattle.std.proofs.Common.{◌≡◌, ◌++◌, drop, string_bytes}
use Rattle.mon_code.specs.Programs.{Parts}
use Rattle.mon_forms.specs.Reports.{disables_text}
use Rattle.mon_forms.specs.Texts.{AreNames}
use Rattle.mon_forms.proofs.threads.write_disables.Given as goal

abbrev pub invariant-loop-disabled : goal.invariant-loop-disabled
invariant-loop-disabled l = (p : Parts) → AreNames p l.names → string_bytes l.out ++ disables_text p (drop l.disabled-index l.disables) ≡ string_bytes l.initial.out ++ disables_text p l.disables
