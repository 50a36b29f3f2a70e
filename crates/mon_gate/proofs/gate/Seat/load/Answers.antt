use Rattle.std.proofs.Common.{rules, arith}
use Rattle.mon_gate.proofs.Words.{loads}
use Rattle.mon_gate.proofs.gate.Seat.load.Goals as goal

pub load-requires : goal.load-requires
load-requires c = (search rules, search rules, loads _ _ _ c.args.location _ _ c.requires.attached (omega arith) c.requires.within)
