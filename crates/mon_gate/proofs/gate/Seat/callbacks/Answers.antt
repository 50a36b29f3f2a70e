use Rattle.std.proofs.Common.{rules, arith}
use Rattle.mon_gate.proofs.Words.{loads_callbacks}
use Rattle.mon_gate.proofs.gate.Seat.callbacks.Goals as goal

pub load-requires : goal.load-requires
load-requires c = (search rules, search rules, loads_callbacks _ _ _ c.args.tool _ _ c.requires.attached (omega arith) c.requires.within)
