use Rattle.mon_machine.proofs.KeptLines.{lines_are_kept}
use Rattle.mon_machine.proofs.laws.lines_are_kept.Goals as goal

pub returns : goal.returns
returns c = lines_are_kept
