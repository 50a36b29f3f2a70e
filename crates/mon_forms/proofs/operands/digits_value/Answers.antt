use Rattle.std.proofs.Common.{arith}
use Rattle.mon_forms.proofs.Digits.{small, ten_le}
use Rattle.mon_forms.proofs.operands.digits_value.Goals as goal

pub overflow_mul-value : goal.overflow_mul-value
overflow_mul-value c = omega (arith, small c.loop-c.value c.loop-c.c-index c.loop-c.invariant.1 (omega arith))

pub overflow_add-value : goal.overflow_add-value
overflow_add-value c = omega (arith, small c.loop-c.value c.loop-c.c-index c.loop-c.invariant.1 (omega arith))

pub returns-clause-bound : goal.returns-clause-bound
returns-clause-bound c = omega (arith, c.loop-c.invariant.1, ten_le c.loop-c.c-index (omega arith))
