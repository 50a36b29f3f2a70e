-- What the values' tables give of two integers.
use Rattle.std.proofs.Common.{◌≡◌, ℕ, List, [], ◌∷◌, arith, Option, Some, None, refl, sym, ap, ◌∙◌, w64}
use Rattle.std.specs.Prelude.{if◌then◌else◌, ℤ, Bool, true, false, not, Result, Ok, FitsSigned, MatchOption}
use Rattle.std.specs.Option.{SomeIff}
use Rattle.std.specs.Ordering.{int_cmp}
use Rattle.std.specs.declared.cmp.Ordering.{Ordering}
use Rattle.std.specs.declared.cmp.Ordering.TheVariants as order
use Rattle.mon_values.specs.declared.value.Value.{Value, Int}
use Rattle.mon_values.specs.declared.operator.CmpOp.{CmpOp}
use Rattle.mon_values.specs.declared.operator.CmpOp.TheVariants.{Eq, Ne, Lt, Le, Gt, Ge}
use Rattle.mon_values.specs.declared.fault.Trouble.{Trouble}
use Rattle.mon_values.specs.Arithmetic.{in_range, arith_of, of_operands, operand, operand_at, Operand, Number}
use Rattle.mon_values.specs.Comparing.{compare_of, ordered, verdict_at, by_order, is_equal, by_verdict, verdict, verdict_step, exc_verdict_step, Beside, ExcBeside}
use Rattle.mon_values.specs.declared.value.Value.TheFolds.{fold-roll-Value}
use Rattle.mon_values.specs.declared.value.Value.TheOpen.{Value-F}
use Rattle.mon_values.specs.declared.value.Value.TheViews.{out-Value, outs-Int}
use Rattle.mon_values.specs.declared.value.Value.TheVariants.{rolls-Int}
use Rattle.mon_values.specs.declared.value.Exc.{Exc}
use Rattle.mon_values.specs.declared.operator.ArithOp.{ArithOp}
use Rattle.mon_values.specs.declared.compare.Verdict.{Verdict}
use Rattle.mon_values.proofs.Arithmetics.{checked}
use Rattle.mon_interp.specs.InPlace.{holds, loops_on}
use Rattle.mon_frames.specs.declared.frame.Frame.{Frame}
use Rattle.mon_machine.specs.State.{jumps, goes_on}
use Rattle.mon_machine.specs.Operations.{is_done, pop_jump_if_done}

outs : (a : ℤ) → out-Value (Int a) ≡ Value-F.Int a
outs a = outs-Int a

operands : (a : ℤ) → operand (Int a) ≡ Number a
operands a = ap operand_at (outs a)

-- an operator of two integers
arith_is : (op : ArithOp) (a b : ℤ) → arith_of op (Int a) (Int b) ≡ of_operands op (Number a) (Number b)
arith_is op a b = ap (λ (x : Operand). of_operands op x (operand (Int b))) (operands a) ∙ ap (λ (x : Operand). of_operands op (Number a) x) (operands b)

-- the value that an operator of two integers gave
pub gave : (op : ArithOp) (r : Option ℤ) (a b z : ℤ) → of_operands op (Number a) (Number b) ≡ in_range z → SomeIff r (FitsSigned w64 z) z → MatchOption r (Unit {0}) (λ n. arith_of op (Int a) (Int b) ≡ Ok (Int n))
gave op None a b z is h = tt
gave op (Some n) a b z is h = arith_is op a b ∙ is ∙ sym (checked (Some n) z h)

verdict_of : (a b : ℤ) → verdict (Int a) (Int b) ≡ by_order (int_cmp a b)
verdict_of a b =
    ap (λ (v : Value). verdict v (Int b)) (sym (rolls-Int a))
    ∙ ap (λ (f : Beside). f (Int b)) (fold-roll-Value Beside ExcBeside verdict_step exc_verdict_step (Value-F.Int a))
    ∙ ap (λ (x : Value-F Value Exc). verdict_at (Value-F.Int a) x) (outs b)

abbrev by_op : CmpOp → Verdict → Result Bool Trouble
by_op Eq v = Ok (is_equal v)
by_op Ne v = Ok (not (is_equal v))
by_op Lt v = by_verdict true false false v
by_op Le v = by_verdict true true false v
by_op Gt v = by_verdict false false true v
by_op Ge v = by_verdict false true true v

ordered_is : (a b : ℤ) (answer : Result Bool Trouble) → ordered (Int a) (Int b) answer ≡ answer
ordered_is a b answer = rw (operands a, operands b) refl

by_its_op : (op : CmpOp) (a b : ℤ) → compare_of op (Int a) (Int b) ≡ by_op op (verdict (Int a) (Int b))
by_its_op Eq a b = refl
by_its_op Ne a b = refl
by_its_op Lt a b = ordered_is a b _
by_its_op Le a b = ordered_is a b _
by_its_op Gt a b = ordered_is a b _
by_its_op Ge a b = ordered_is a b _

op_holds : (op : CmpOp) (o : Ordering) → by_op op (by_order o) ≡ Ok (holds op o)
op_holds Eq order.Less = refl
op_holds Eq order.Equal = refl
op_holds Eq order.Greater = refl
op_holds Ne order.Less = refl
op_holds Ne order.Equal = refl
op_holds Ne order.Greater = refl
op_holds Lt order.Less = refl
op_holds Lt order.Equal = refl
op_holds Lt order.Greater = refl
op_holds Le order.Less = refl
op_holds Le order.Equal = refl
op_holds Le order.Greater = refl
op_holds Gt order.Less = refl
op_holds Gt order.Equal = refl
op_holds Gt order.Greater = refl
op_holds Ge order.Less = refl
op_holds Ge order.Equal = refl
op_holds Ge order.Greater = refl

pub compared : (op : CmpOp) (o : Ordering) (a b : ℤ) → o ≡ int_cmp a b → compare_of op (Int a) (Int b) ≡ Ok (holds op o)
compared op o a b e = by_its_op op a b ∙ ap (λ (v : Verdict). by_op op v) (verdict_of a b ∙ ap by_order (sym e)) ∙ op_holds op o

-- a loop that goes on
by_choice : (f : Frame) (to : ℕ) (v over : Value) (rest : List Value) (b : Bool) → not b ≡ true → (if b then jumps f to (v ∷ rest) else goes_on f (v ∷ over ∷ rest)) ≡ goes_on f (v ∷ over ∷ rest)
by_choice f to v over rest false e = refl
by_choice f to v over rest true e = absurd (grind (arith, e))

pub looped : (f : Frame) (to : ℕ) (stack : List Value) → loops_on stack ≡ true → pop_jump_if_done f to stack ≡ goes_on f stack
looped f to (v ∷ over ∷ rest) e = by_choice f to v over rest (is_done v) e
looped f to (v ∷ []) e = absurd (grind (arith, e))
looped f to [] e = absurd (grind (arith, e))
