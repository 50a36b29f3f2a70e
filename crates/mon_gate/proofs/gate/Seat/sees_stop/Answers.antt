use Rattle.std.proofs.Common.{rules}
use Rattle.mon_gate.proofs.Doors.{looks}
use Rattle.mon_gate.proofs.gate.Seat.sees_stop.Goals as goal

pub load-requires : goal.load-requires
load-requires c = (search rules, search rules, looks _ _ _ _)
