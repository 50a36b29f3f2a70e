use Rattle.std.proofs.Common.{◌≡◌, ◌++◌, drop, string_bytes}
use Rattle.mon_forms.specs.Texts.{each_from}
use Rattle.mon_gen.specs.Summaries.{summary_line, summary_text}
use Rattle.mon_gen.proofs.summary.print_summary.Given as goal

abbrev pub invariant-loop-number : goal.invariant-loop-number
invariant-loop-number l = string_bytes l.out ++ each_from (summary_line l.program) l.number (drop l.number l.threads) ≡ summary_text l.program l.threads
