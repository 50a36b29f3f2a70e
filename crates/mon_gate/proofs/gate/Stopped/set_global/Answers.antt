use Rattle.std.proofs.Common.{rules, arith}
use Rattle.mon_gate.proofs.Stops.{stores}
use Rattle.mon_gate.proofs.gate.Stopped.set_global.Goals as goal

pub store-requires : goal.store-requires
store-requires c = (search rules, search rules, stores _ _ _ 0 _ _ _ c.args.self.now.phase (omega arith) (omega arith) (λ l e. absurd (omega arith)))
