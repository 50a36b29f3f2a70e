use Rattle.std.proofs.Common.{rules}
use Rattle.mon_gate.proofs.Passes.{splits}
use Rattle.mon_gate.proofs.pass.split.Goals as goal

pub split_seat-chair-requires : goal.split_seat-chair-requires
split_seat-chair-requires c = (search rules, search rules, splits _ _ _ c.requires.alive)
