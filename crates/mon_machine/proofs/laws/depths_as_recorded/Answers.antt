use Rattle.mon_machine.proofs.Calls.{depths_as_recorded}
use Rattle.mon_machine.proofs.laws.depths_as_recorded.Goals as goal

pub returns : goal.returns
returns c = depths_as_recorded
