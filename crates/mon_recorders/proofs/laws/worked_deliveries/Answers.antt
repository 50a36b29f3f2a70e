use Rattle.mon_recorders.proofs.Examples.{heard, disabled, marked}
use Rattle.mon_recorders.proofs.laws.worked_deliveries.Goals as goal

pub returns-clause-heard : goal.returns-clause-heard
returns-clause-heard c = heard

pub returns-clause-disabled : goal.returns-clause-disabled
returns-clause-disabled c = disabled

pub returns-clause-marked : goal.returns-clause-marked
returns-clause-marked c = marked
