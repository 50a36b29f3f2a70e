use Rattle.mon_machine.proofs.Advancing.{runs_continue}
use Rattle.mon_machine.proofs.laws.advances_continue.Goals as goal

pub returns : goal.returns
returns c = runs_continue
