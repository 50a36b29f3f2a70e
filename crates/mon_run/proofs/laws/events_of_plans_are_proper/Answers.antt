use Rattle.mon_run.proofs.Starting.{proper_plan}
use Rattle.mon_run.proofs.laws.events_of_plans_are_proper.Goals as goal

pub returns : goal.returns
returns c = proper_plan
