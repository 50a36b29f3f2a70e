use Rattle.std.proofs.Common.{◌≡◌, ◌++◌, drop, string_bytes}
use Rattle.mon_forms.specs.Reports.{thread_text, threads_text}
use Rattle.mon_forms.specs.Texts.{each_from}
use Rattle.mon_forms.proofs.threads.write_threads.Given as goal

abbrev pub invariant-loop-number : goal.invariant-loop-number
invariant-loop-number l = string_bytes l.out ++ each_from (thread_text l.program l.starts) l.number (drop l.number l.threads) ≡ string_bytes l.initial.out ++ threads_text l.program l.starts l.threads
