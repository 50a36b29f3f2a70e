use Rattle.std.proofs.Common.{arith}
use Rattle.std.proofs.lemmas.Grind.{common_steps}
use Rattle.mon_values.specs.Limits.{written}
use Rattle.mon_values.proofs.Limits.{written_full}
use Rattle.mon_values.proofs.limited.LimitedBuffer.push.Goals as goal

pub returns-in_ok-push : goal.returns-in_ok-push
unfolding written
returns-in_ok-push c = grind (arith, common_steps)

pub returns-else-self-gt0 : goal.returns-else-self-gt0
returns-else-self-gt0 c = grind (arith, written_full)
