use Rattle.std.proofs.Common.{arith}
use Rattle.std.proofs.lemmas.Grind.{common_steps}
use Rattle.std.proofs.lemmas.List.{take_min}
use Rattle.mon_values.specs.Limits.{written}
use Rattle.mon_values.proofs.limited.LimitedBuffer.append.Goals as goal

pub returns : goal.returns
unfolding written
returns c = grind (arith, common_steps, take_min)
