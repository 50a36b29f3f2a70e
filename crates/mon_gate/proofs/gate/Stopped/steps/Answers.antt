use Rattle.std.proofs.Common.{rules, arith}
use Rattle.mon_gate.proofs.Counts.{notes}
use Rattle.mon_gate.proofs.gate.Stopped.steps.Goals as goal

pub load-requires : goal.load-requires
load-requires c = (search rules, search rules, notes _ _ _ _ _ c.args.self.now.phase (omega arith) (omega arith))
