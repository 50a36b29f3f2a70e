use Rattle.mon_events.proofs.Listed.{name_back}
use Rattle.mon_events.proofs.laws.names_are_read.Goals as goal

pub returns : goal.returns
returns c = name_back
