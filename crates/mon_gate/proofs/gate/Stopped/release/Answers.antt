use Rattle.std.proofs.Common.{rules}
use Rattle.mon_gate.proofs.Stops.{releases}
use Rattle.mon_gate.proofs.gate.Stopped.release.Goals as goal

pub fetch_and-requires : goal.fetch_and-requires
fetch_and-requires c = (search rules, search rules, releases _ _ _ _ c.args.self.phase c.requires.noted)
