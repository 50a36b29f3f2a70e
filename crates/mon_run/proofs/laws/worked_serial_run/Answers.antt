use Rattle.mon_run.proofs.Examples.{worked}
use Rattle.mon_run.proofs.laws.worked_serial_run.Goals as goal

pub returns : goal.returns
returns c = worked
