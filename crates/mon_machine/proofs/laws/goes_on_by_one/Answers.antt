use Rattle.mon_machine.proofs.Runs.{is_run}
use Rattle.mon_machine.proofs.laws.goes_on_by_one.Goals as goal

pub returns : goal.returns
returns c = is_run
