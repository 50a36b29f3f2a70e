use Rattle.std.proofs.Common.{rules}
use Rattle.mon_gate.proofs.Doors.{polls}
use Rattle.mon_gate.proofs.gate.Seat.poll.Goals as goal

pub load-requires : goal.load-requires
load-requires c = (search rules, search rules, polls _ _ _ _)
