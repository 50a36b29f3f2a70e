-- E(e): the code of an expression, which pushes one value.
use Rattle.std.specs.Prelude.{ℕ, ◌+◌, ◌||◌, Bool, true, false, List, [], ◌∷◌, ◌++◌, length, Option, Some, None, if◌then◌else◌}
use Rattle.mon_events.specs.declared.op.Op.{Op}
use Rattle.mon_code.specs.Programs.{is_text}
use Rattle.mon_code.specs.Operators.{arith_number, cmp_number}
use Rattle.mon_values.specs.declared.operator.ArithOp.{ArithOp}
use Rattle.mon_values.specs.declared.operator.CmpOp.{CmpOp}
use Rattle.mon_values.specs.declared.value.Value.{Value}
use Rattle.mon_values.specs.declared.value.Value as value
use Rattle.mon_trees.specs.declared.tree.BinaryOperator.{BinaryOperator}
use Rattle.mon_trees.specs.declared.tree.Comparison.{Comparison}
use Rattle.mon_trees.specs.declared.tree.Method.{Method}
use Rattle.mon_trees.specs.declared.tree.Single.{Single}
use Rattle.mon_trees.specs.declared.tree.Targets.{Targets}
use Rattle.mon_trees.specs.declared.tree.Targets.TheVariants as targets
use Rattle.mon_trees.specs.declared.tree.Expression.{Expression}
use Rattle.mon_trees.specs.declared.tree.Expression.TheOpen.{Expression-F}
use Rattle.mon_trees.specs.declared.tree.Expression.TheFolds.{fold-Expression}
use Rattle.mon_compile.specs.declared.assembly.Instruction.{Instruction}
use Rattle.mon_compile.specs.declared.assembly.Argument.TheVariants.{Number, Constant, Name, Destination}
use Rattle.mon_compile.specs.declared.assembly.Label.TheVariants.{At}
use Rattle.mon_compile.specs.Contexts.{FromAt, Spot, put, none, above, bare}

-- code by the spot at which it stands and the index at which it begins
abbrev pub Coder : Type 0
Coder = Spot → FromAt

abbrev pub Locals : Type 0
Locals = List (List ℕ)

abbrev pub is_local : Locals → List ℕ → Bool
is_local [] name = false
is_local (n ∷ names) name = is_text n name || is_local names name

-- the number of a local: how many names stand before it
abbrev pub number_of_local : Locals → List ℕ → ℕ
number_of_local [] name = 0
number_of_local (n ∷ names) name = if is_text n name then 0 else 1 + number_of_local names name

abbrev pub name_code : Locals → List ℕ → Coder
name_code locals name s at = (if is_local locals name then put s Op.LoadFast (Number (number_of_local locals name)) else put s Op.LoadGlobal (Name name)) ∷ []

abbrev pub constant_code : Value → Coder
constant_code v s at = put s Op.LoadConst (Constant v) ∷ []

abbrev pub single_value : Single → Value
single_value Single.None = value.None
single_value Single.True = value.Bool true
single_value Single.False = value.Bool false

abbrev pub binary_number : BinaryOperator → ℕ
binary_number BinaryOperator.Add = arith_number ArithOp.Add
binary_number BinaryOperator.Subtract = arith_number ArithOp.Sub
binary_number BinaryOperator.Multiply = arith_number ArithOp.Mul
binary_number BinaryOperator.FloorDivide = arith_number ArithOp.FloorDiv
binary_number BinaryOperator.Remainder = arith_number ArithOp.Mod

abbrev pub comparison_op : Comparison → Op
comparison_op Comparison.In = Op.ContainsOp
comparison_op Comparison.NotIn = Op.ContainsOp
comparison_op _ = Op.CompareOp

abbrev pub comparison_number : Comparison → ℕ
comparison_number Comparison.Equal = cmp_number CmpOp.Eq
comparison_number Comparison.NotEqual = cmp_number CmpOp.Ne
comparison_number Comparison.Less = cmp_number CmpOp.Lt
comparison_number Comparison.LessEqual = cmp_number CmpOp.Le
comparison_number Comparison.Greater = cmp_number CmpOp.Gt
comparison_number Comparison.GreaterEqual = cmp_number CmpOp.Ge
comparison_number Comparison.In = 0
comparison_number Comparison.NotIn = 1

-- a method is a builtin, by its number
abbrev pub method_number : Method → ℕ
method_number Method.Send = 11
method_number Method.Throw = 12
method_number Method.Close = 13

-- expressions one after another, each above the values of those before
abbrev pub in_turn : List Coder → Coder
in_turn [] s at = []
in_turn (e ∷ es) s at = let code = e s at in code ++ in_turn es (above 1 s) (at + length code)

-- E(a); then one instruction
abbrev pub one_code : Coder → Op → Coder
one_code a op s at = a s at ++ (put (above 1 s) op none ∷ [])

-- E(a); E(b); then one instruction
abbrev pub two_code : Coder → Coder → Op → ℕ → Coder
two_code a b op number s at =
    let left = a s at in
    left ++ (b (above 1 s) (at + length left) ++ (put (above 2 s) op (Number number) ∷ []))

-- E(a); COPY 1; the jump to x; POP_TOP; E(b); x:
abbrev pub short_code : Coder → Coder → Op → Coder
short_code a b jump s at =
    let left = a s at in
    let from = at + length left + 3 in
    let right = b s from in
    let x = from + length right in
    left ++ (put (above 1 s) Op.Copy (Number 1) ∷ (put (above 2 s) jump (Destination (At x)) ∷ (put (above 1 s) Op.PopTop none ∷ right)))

-- E(c); POP_JUMP_IF_FALSE x; E(a); JUMP_FORWARD y (-); x: E(b); y:
abbrev pub conditional_code : Coder → Coder → Coder → Coder
conditional_code a c b s at =
    let test = c s at in
    let from = at + length test + 1 in
    let left = a s from in
    let x = from + length left + 1 in
    let right = b s x in
    let y = x + length right in
    test ++ (put (above 1 s) Op.PopJumpIfFalse (Destination (At x)) ∷ (left ++ (put (above 1 (bare s)) Op.JumpForward (Destination (At y)) ∷ right)))

-- E of each; BUILD_TUPLE n
abbrev pub tuple_code : List Coder → Coder
tuple_code parts s at = in_turn parts s at ++ (put (above (length parts) s) Op.BuildTuple (Number (length parts)) ∷ [])

-- E(f); E of each; CALL n
abbrev pub call_code : Coder → List Coder → Coder
call_code f args s at =
    let callee = f s at in
    callee ++ (in_turn args (above 1 s) (at + length callee) ++ (put (above (1 + length args) s) Op.Call (Number (length args)) ∷ []))

-- E(o); LOAD_METHOD m; E of each; CALL n+1
abbrev pub method_code : Coder → ℕ → List Coder → Coder
method_code o method args s at =
    let object = o s at in
    object ++ (put (above 1 s) Op.LoadMethod (Number method) ∷ (in_turn args (above 2 s) (at + length object + 1) ++ (put (above (2 + length args) s) Op.Call (Number (length args + 1)) ∷ [])))

-- LOAD_CONST None where there is no expression
abbrev pub or_none : Option Coder → Coder
or_none None = constant_code value.None
or_none (Some e) = e

-- E(e); YIELD_VALUE; RESUME 1 (-)
abbrev pub yield_code : Coder → Coder
yield_code e s at = e s at ++ (put (above 1 s) Op.YieldValue none ∷ (put (above 1 (bare s)) Op.Resume (Number 1) ∷ []))

abbrev pub expression_step : Locals → Expression-F Coder → Coder
expression_step locals (Expression-F.Name name) = name_code locals name
expression_step locals (Expression-F.Integer n) = constant_code (value.Int n)
expression_step locals (Expression-F.Text t) = constant_code (value.Text t)
expression_step locals (Expression-F.Single single) = constant_code (single_value single)
expression_step locals Expression-F.Empty = constant_code (value.Tuple [])
expression_step locals (Expression-F.Tuple parts) = tuple_code parts
expression_step locals (Expression-F.Yield line e) = yield_code (or_none e)
expression_step locals (Expression-F.If a test b) = conditional_code a test b
expression_step locals (Expression-F.Or a b) = short_code a b Op.PopJumpIfTrue
expression_step locals (Expression-F.And a b) = short_code a b Op.PopJumpIfFalse
expression_step locals (Expression-F.Not a) = one_code a Op.UnaryNot
expression_step locals (Expression-F.Compare op a b) = two_code a b (comparison_op op) (comparison_number op)
expression_step locals (Expression-F.Is a single) = two_code a (constant_code (single_value single)) Op.IsOp 0
expression_step locals (Expression-F.IsNot a single) = two_code a (constant_code (single_value single)) Op.IsOp 1
expression_step locals (Expression-F.Binary op a b) = two_code a b Op.BinaryOp (binary_number op)
expression_step locals (Expression-F.Negative a) = one_code a Op.UnaryNegative
expression_step locals (Expression-F.Call f args) = call_code f args
expression_step locals (Expression-F.Method o method args) = method_code o (method_number method) args
expression_step locals (Expression-F.Subscript a i) = two_code a i Op.BinarySubscr 0

abbrev pub expression_code : Locals → Expression → Coder
expression_code locals = fold-Expression Coder (expression_step locals)

-- the names of a tuple, the first on top
abbrev pub store_names : Locals → List (List ℕ) → Spot → List Instruction
store_names locals [] s = []
store_names locals (n ∷ ns) s = put (above (1 + length ns) s) Op.StoreFast (Number (number_of_local locals n)) ∷ store_names locals ns s

-- one value above the spot goes into what is assigned to
abbrev pub store_code : Locals → Targets → Spot → List Instruction
store_code locals (targets.Name n) s = put (above 1 s) Op.StoreFast (Number (number_of_local locals n)) ∷ []
store_code locals (targets.Tuple ns) s = put (above 1 s) Op.UnpackSequence (Number (length ns)) ∷ store_names locals ns s
