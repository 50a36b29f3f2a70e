use Rattle.std.proofs.Common.{◌≡◌, ◌++◌, drop, string_bytes}
use Rattle.mon_forms.specs.Reports.{outs_text}
use Rattle.mon_forms.proofs.threads.write_outs.Given as goal

abbrev pub invariant-loop-text : goal.invariant-loop-text
invariant-loop-text l = string_bytes l.out ++ outs_text l.program (drop l.text-index l.printed) ≡ string_bytes l.initial.out ++ outs_text l.program l.printed
