use Rattle.std.proofs.Common.{rules}
use Rattle.mon_gate.proofs.Passes.{joins}
use Rattle.mon_gate.proofs.pass.join.Goals as goal

pub join_seat-requires : goal.join_seat-requires
join_seat-requires c = (search rules, search rules, search rules, search rules, joins _ _ _ _ _ c.requires.other.0 c.requires.other.1 c.requires.pass.1 c.requires.pass.2 c.requires.pass.0)
