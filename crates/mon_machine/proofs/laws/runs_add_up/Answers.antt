use Rattle.mon_machine.proofs.Printed.{runs_add_up}
use Rattle.mon_machine.proofs.laws.runs_add_up.Goals as goal

pub returns : goal.returns
returns c = runs_add_up
