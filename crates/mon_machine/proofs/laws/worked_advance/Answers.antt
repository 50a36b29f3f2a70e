use Rattle.mon_machine.proofs.AdvanceExamples.{worked}
use Rattle.mon_machine.proofs.laws.worked_advance.Goals as goal

pub returns : goal.returns
returns c = worked
