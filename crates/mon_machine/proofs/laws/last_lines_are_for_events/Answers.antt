use Rattle.mon_machine.proofs.LastLines.{last_lines_are_for_events}
use Rattle.mon_machine.proofs.laws.last_lines_are_for_events.Goals as goal

pub returns : goal.returns
returns c = last_lines_are_for_events
