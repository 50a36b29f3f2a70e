use Rattle.std.proofs.Common.{length}
use Rattle.mon_run.proofs.serial_run.+finish_all.Given as goal

abbrev pub decreases-finish_all : goal.decreases-finish_all
decreases-finish_all l = length l.threads.items
