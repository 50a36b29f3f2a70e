use Rattle.std.proofs.Common.{rules, arith}
use Rattle.mon_gate.proofs.Words.{loads_global}
use Rattle.mon_gate.proofs.gate.Seat.global.Goals as goal

pub load-requires : goal.load-requires
load-requires c = (search rules, search rules, loads_global _ _ _ _ _ c.requires.attached (omega arith))
