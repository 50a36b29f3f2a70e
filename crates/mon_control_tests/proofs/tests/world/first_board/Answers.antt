use Rattle.std.proofs.Common.{arith}
use Rattle.mon_control_tests.proofs.tests.world.first_board.Goals as goal

pub returns-clause-bytes : goal.returns-clause-bytes
returns-clause-bytes c = λ l. omega (arith, c.type_inv.bases l)
