use Rattle.std.proofs.Common.{◌≡◌, length}
use Rattle.mon_run.proofs.threads_run.no_reports.Given as goal

abbrev pub invariant-loop-turn : goal.invariant-loop-turn
invariant-loop-turn l = length l.slots ≡ l._turn
