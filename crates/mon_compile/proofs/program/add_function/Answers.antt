use Rattle.std.proofs.Common.{arith}
use Rattle.std.proofs.lemmas.Grind.{common_steps}
use Rattle.mon_compile.proofs.Adding.{added_stop}
use Rattle.mon_compile.proofs.program.add_function.Goals as goal

pub returns-in_err-instructions : goal.returns-in_err-instructions
returns-in_err-instructions c = added_stop _ _ _ _ _ _ c.from_residual-in_err-instructions.ensures.1 c.in_err-instructions.ensures (grind (arith, common_steps, c.requires.few_locations, c.len-first.ensures))
