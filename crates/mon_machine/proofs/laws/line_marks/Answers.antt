use Rattle.mon_machine.proofs.Calls.{line_marks}
use Rattle.mon_machine.proofs.laws.line_marks.Goals as goal

pub returns : goal.returns
returns c = line_marks
