use Rattle.std.proofs.Common.{rules}
use Rattle.mon_gate.proofs.Doors.{observes}
use Rattle.mon_gate.proofs.gate.Asked.observe.Goals as goal

pub load-word-requires : goal.load-word-requires
load-word-requires c = (search rules, search rules, observes _ _ _ _ c.args.self.phase)
