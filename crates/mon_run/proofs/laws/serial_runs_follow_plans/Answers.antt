use Rattle.mon_run.proofs.Following.{serial_follows}
use Rattle.mon_run.proofs.laws.serial_runs_follow_plans.Goals as goal

pub returns : goal.returns
returns c = serial_follows
