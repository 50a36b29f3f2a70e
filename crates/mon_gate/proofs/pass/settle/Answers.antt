use Rattle.std.proofs.Common.{rules}
use Rattle.mon_gate.proofs.Passes.{settles}
use Rattle.mon_gate.proofs.pass.settle.Goals as goal

pub load-requires : goal.load-requires
load-requires c = (search rules, search rules, settles _ _ _ _ c.requires.pass.0 c.requires.pass.1 c.requires.pass.2)
