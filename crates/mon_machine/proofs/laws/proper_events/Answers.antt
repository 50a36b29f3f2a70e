use Rattle.mon_machine.proofs.Calls.{proper_events}
use Rattle.mon_machine.proofs.laws.proper_events.Goals as goal

pub returns : goal.returns
returns c = proper_events
