use Rattle.mon_hear.proofs.Loops.{heard, disabled, heard_again, disabled_again}
use Rattle.mon_hear.proofs.laws.worked_loop.Goals as goal

pub returns-clause-heard : goal.returns-clause-heard
returns-clause-heard c = heard

pub returns-clause-disabled : goal.returns-clause-disabled
returns-clause-disabled c = disabled

pub returns-clause-heard_again : goal.returns-clause-heard_again
returns-clause-heard_again c = heard_again

pub returns-clause-disabled_again : goal.returns-clause-disabled_again
returns-clause-disabled_again c = disabled_again
