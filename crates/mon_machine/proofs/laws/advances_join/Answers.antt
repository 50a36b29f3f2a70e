use Rattle.mon_machine.proofs.Advancing.{runs_join}
use Rattle.mon_machine.proofs.laws.advances_join.Goals as goal

pub returns : goal.returns
returns c = runs_join
