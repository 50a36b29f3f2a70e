use Rattle.mon_machine.proofs.Advancing.{steps_add_up, staying, pausing}
use Rattle.mon_machine.proofs.laws.advances_add_up.Goals as goal

pub returns-clause-steps : goal.returns-clause-steps
returns-clause-steps c = steps_add_up

pub returns-clause-stays : goal.returns-clause-stays
returns-clause-stays c = staying

pub returns-clause-pauses : goal.returns-clause-pauses
returns-clause-pauses c = pausing
