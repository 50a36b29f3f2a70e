-- What the operators of arithmetic give.
use Rattle.std.specs.Prelude.{ℕ, zero, suc, List, ◌++◌, Option, Some, None, Result, Ok, Err, ℤ, pos, negsuc, ◌+ℤ◌, ◌-ℤ◌, ◌*ℤ◌, neg_ℤ, if◌then◌else◌}
use Rattle.std.specs.List.{repeat}
use Rattle.mon_values.specs.declared.operator.ArithOp.{ArithOp}
use Rattle.mon_values.specs.declared.operator.ArithOp.TheVariants.{Add, Sub, Mul, FloorDiv, Mod}
use Rattle.mon_values.specs.declared.value.Value.{Value, Int, Text, Tuple}
use Rattle.mon_values.specs.declared.value.Value.TheOpen.{Value-F}
use Rattle.mon_values.specs.declared.value.Value.TheViews.{out-Value}
use Rattle.mon_values.specs.declared.value.Exc.{Exc}
use Rattle.mon_values.specs.declared.fault.Trouble.{Trouble}
use Rattle.mon_values.specs.Integers.{number, times, is_in_range, floor_div, floor_mod}
use Rattle.mon_values.specs.Troubles.{unsupported_operand, division_by_zero, out_of_range}
use Rattle.mon_values.specs.Weights.{made}

-- what an operator reads of a value; a Bool is the integer 0 or 1
pub data Operand : Type 0 where
  Number : ℤ → Operand
  Chars : List ℕ → Operand
  Items : List Value → Operand
  Other : Operand

abbrev pub operand_at : Value-F Value Exc → Operand
operand_at (Value-F.Bool b) = Number (number b)
operand_at (Value-F.Int n) = Number n
operand_at (Value-F.Text t) = Chars t
operand_at (Value-F.Tuple items) = Items items
operand_at _ = Other

abbrev pub operand : Value → Operand
operand v = operand_at (out-Value v)

abbrev pub integer_at : Operand → Option ℤ
integer_at (Number n) = Some n
integer_at _ = None

-- the integer that a value stands for, if it does
abbrev pub integer : Value → Option ℤ
integer v = integer_at (operand v)

-- an integer that leaves 64 bits raises
abbrev pub in_range : ℤ → Result Value Trouble
in_range z = if is_in_range z then Ok (Int z) else Err out_of_range

-- the integer that a computation gave, where it did
abbrev pub value_or_overflow : Option ℤ → Result Value Trouble
value_or_overflow None = Err out_of_range
value_or_overflow (Some z) = Ok (Int z)

abbrev pub by_divisor : ℤ → Result Value Trouble → Result Value Trouble
by_divisor (pos zero) answer = Err division_by_zero
by_divisor (pos (suc d)) answer = answer
by_divisor (negsuc d) answer = answer

abbrev pub of_integers : ArithOp → ℤ → ℤ → Result Value Trouble
of_integers Add a b = in_range (a +ℤ b)
of_integers Sub a b = in_range (a -ℤ b)
of_integers Mul a b = in_range (a *ℤ b)
of_integers FloorDiv a b = by_divisor b (in_range (floor_div a b))
of_integers Mod a b = by_divisor b (in_range (floor_mod a b))

abbrev pub only_integers : ArithOp → Option ℤ → Option ℤ → Result Value Trouble
only_integers op (Some a) (Some b) = of_integers op a b
only_integers op (Some a) None = Err unsupported_operand
only_integers op None b = Err unsupported_operand

-- a text or a tuple so many times in a row, not at all below 1
abbrev pub repeated : Operand → ℤ → Result Value Trouble
repeated (Chars t) n = made (Text (repeat (times n) t))
repeated (Items items) n = made (Tuple (repeat (times n) items))
repeated _ n = Err unsupported_operand

-- two texts and two tuples are joined by +, a text or a tuple is repeated by * on either side, all else takes integers
abbrev pub of_operands : ArithOp → Operand → Operand → Result Value Trouble
of_operands Add (Chars a) (Chars b) = made (Text (a ++ b))
of_operands Add (Items a) (Items b) = made (Tuple (a ++ b))
of_operands Mul (Chars a) (Number n) = repeated (Chars a) n
of_operands Mul (Items a) (Number n) = repeated (Items a) n
of_operands Mul (Number n) (Chars b) = repeated (Chars b) n
of_operands Mul (Number n) (Items b) = repeated (Items b) n
of_operands op a b = only_integers op (integer_at a) (integer_at b)

abbrev pub arith_of : ArithOp → Value → Value → Result Value Trouble
arith_of op a b = of_operands op (operand a) (operand b)

abbrev pub negated_at : Option ℤ → Result Value Trouble
negated_at None = Err unsupported_operand
negated_at (Some z) = in_range (neg_ℤ z)

abbrev pub negated : Value → Result Value Trouble
negated v = negated_at (integer v)
