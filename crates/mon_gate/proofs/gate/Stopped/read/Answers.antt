use Rattle.std.proofs.Common.{rules, arith}
use Rattle.mon_gate.proofs.Stops.{reads}
use Rattle.mon_gate.proofs.gate.Stopped.read.Goals as goal

pub load-requires : goal.load-requires
load-requires c = (search rules, search rules, reads _ _ _ c.args.location _ _ c.args.self.now.phase (omega arith) c.requires.within)
