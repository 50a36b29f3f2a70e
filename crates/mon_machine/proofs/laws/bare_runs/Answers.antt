use Rattle.mon_machine.proofs.BareAdvances.{bare_runs}
use Rattle.mon_machine.proofs.laws.bare_runs.Goals as goal

pub returns : goal.returns
returns c = bare_runs
