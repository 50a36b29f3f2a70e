use Rattle.mon_run.proofs.Rising.{legal_steps_rise}
use Rattle.mon_run.proofs.laws.steps_of_legal_reports_rise.Goals as goal

pub returns : goal.returns
returns c = legal_steps_rise
