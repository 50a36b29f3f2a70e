use Rattle.mon_gate.proofs.Frames.{stopped_is_alone}
use Rattle.mon_gate.proofs.laws.stopped_is_alone.Goals as goal

pub returns : goal.returns
returns c = stopped_is_alone
