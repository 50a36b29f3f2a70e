use Rattle.std.proofs.Common.{rules}
use Rattle.mon_gate.proofs.Doors.{asks_stop}
use Rattle.mon_gate.proofs.gate.Idle.ask.Goals as goal

pub fetch_or-requires : goal.fetch_or-requires
fetch_or-requires c = (search rules, search rules, asks_stop _ _ _ _ c.args.self.phase)
