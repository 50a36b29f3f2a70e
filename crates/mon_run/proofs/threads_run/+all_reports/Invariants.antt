use Rattle.std.proofs.Common.{length}
use Rattle.mon_run.proofs.threads_run.+all_reports.Given as goal

abbrev pub decreases-all_reports : goal.decreases-all_reports
decreases-all_reports l = length l.slots
