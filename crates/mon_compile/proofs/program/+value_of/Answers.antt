use Rattle.std.proofs.Common.{arith}
use Rattle.mon_compile.proofs.Constants.{constant_nodes}
use Rattle.mon_compile.proofs.Parts.{part_within}
use Rattle.mon_compile.proofs.program.+value_of.Goals as goal

pub values_of-value_of-requires : goal.values_of-value_of-requires
values_of-value_of-requires t c = (omega (arith, part_within constant_nodes _ _ _ c.loop-constant-test.true c.constant-item.is, c.decreases), tt)
