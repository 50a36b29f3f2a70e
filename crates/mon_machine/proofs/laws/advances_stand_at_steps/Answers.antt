use Rattle.mon_machine.proofs.Locating.{events_stand, loads_stand}
use Rattle.mon_machine.proofs.laws.advances_stand_at_steps.Goals as goal

pub returns-clause-events : goal.returns-clause-events
returns-clause-events c = events_stand

pub returns-clause-loads : goal.returns-clause-loads
returns-clause-loads c = loads_stand
