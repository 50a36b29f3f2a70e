-- The operators by the arguments of BINARY_OP and COMPARE_OP.
use Rattle.std.specs.Prelude.{ℕ, Option, Some, None, ◌==◌, if◌then◌else◌}
use Rattle.mon_values.specs.declared.operator.ArithOp.{ArithOp}
use Rattle.mon_values.specs.declared.operator.CmpOp.{CmpOp}

abbrev pub arith_number : ArithOp → ℕ
arith_number ArithOp.Add = 0
arith_number ArithOp.Sub = 1
arith_number ArithOp.Mul = 2
arith_number ArithOp.FloorDiv = 3
arith_number ArithOp.Mod = 4

abbrev pub arith_op_of : ℕ → Option ArithOp
arith_op_of n =
    if n == 0 then Some ArithOp.Add else
    if n == 1 then Some ArithOp.Sub else
    if n == 2 then Some ArithOp.Mul else
    if n == 3 then Some ArithOp.FloorDiv else
    if n == 4 then Some ArithOp.Mod else
    None

abbrev pub cmp_number : CmpOp → ℕ
cmp_number CmpOp.Eq = 0
cmp_number CmpOp.Ne = 1
cmp_number CmpOp.Lt = 2
cmp_number CmpOp.Le = 3
cmp_number CmpOp.Gt = 4
cmp_number CmpOp.Ge = 5

abbrev pub cmp_op_of : ℕ → Option CmpOp
cmp_op_of n =
    if n == 0 then Some CmpOp.Eq else
    if n == 1 then Some CmpOp.Ne else
    if n == 2 then Some CmpOp.Lt else
    if n == 3 then Some CmpOp.Le else
    if n == 4 then Some CmpOp.Gt else
    if n == 5 then Some CmpOp.Ge else
    None
