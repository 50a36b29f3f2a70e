use Rattle.mon_machine.proofs.Naming.{events_name_codes}
use Rattle.mon_machine.proofs.laws.events_name_codes.Goals as goal

pub returns : goal.returns
returns c = events_name_codes
