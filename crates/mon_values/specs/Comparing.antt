-- How two values stand to each other.
use Rattle.std.specs.Prelude.{ℕ, ◌==◌, List, [], ◌∷◌, Option, Some, None, Bool, true, false, ◌&&◌, ◌||◌, not, ℤ, Result, Ok, Err, if◌then◌else◌}
use Rattle.std.specs.Ordering.{nat_cmp, int_cmp, int_eq}
use Rattle.std.specs.declared.cmp.Ordering.{Ordering}
use Rattle.std.specs.declared.cmp.Ordering.TheVariants as order
use Rattle.mon_values.specs.declared.operator.CmpOp.{CmpOp}
use Rattle.mon_values.specs.declared.operator.CmpOp.TheVariants.{Eq, Ne, Lt, Le, Gt, Ge}
use Rattle.mon_values.specs.declared.compare.Verdict.{Verdict}
use Rattle.mon_values.specs.declared.compare.Verdict.TheVariants.{Equal, Less, Greater, Unequal}
use Rattle.mon_values.specs.declared.value.Value.{Value}
use Rattle.mon_values.specs.declared.value.Value.TheOpen.{Value-F, Exc-F}
use Rattle.mon_values.specs.declared.value.Value.TheFolds.{fold-Value, fold-Exc}
use Rattle.mon_values.specs.declared.value.Value.TheViews.{out-Value, out-Exc}
use Rattle.mon_values.specs.declared.value.Exc.{Exc}
use Rattle.mon_values.specs.declared.fault.Trouble.{Trouble}
use Rattle.mon_values.specs.Arithmetic.{Operand, Number, Chars, Items, Other, operand}
use Rattle.mon_values.specs.Integers.{number}
use Rattle.mon_values.specs.Ranges.{range_length}
use Rattle.mon_values.specs.Troubles.{not_comparable}

-- a value as what it stands at beside another
abbrev pub Beside : Type 0
Beside = Value → Verdict

abbrev pub ExcBeside : Type 0
ExcBeside = Exc → Verdict

abbrev pub by_order : Ordering → Verdict
by_order order.Less = Less
by_order order.Equal = Equal
by_order order.Greater = Greater

-- without an order
abbrev pub same : Bool → Verdict
same true = Equal
same false = Unequal

-- texts go by code points, then by length
abbrev pub text_verdict : List ℕ → List ℕ → Verdict
text_verdict [] [] = Equal
text_verdict [] (y ∷ ys) = Less
text_verdict (x ∷ xs) [] = Greater
text_verdict (x ∷ xs) (y ∷ ys) = if x == y then text_verdict xs ys else by_order (nat_cmp x y)

-- the first that is not equal decides
abbrev pub unless_equal : Verdict → Verdict → Verdict
unless_equal Equal next = next
unless_equal Less next = Less
unless_equal Greater next = Greater
unless_equal Unequal next = Unequal

-- tuples go by their first items that differ, else by length
abbrev pub tuple_verdict : List Beside → List Value → Verdict
tuple_verdict [] [] = Equal
tuple_verdict [] (y ∷ ys) = Less
tuple_verdict (x ∷ xs) [] = Greater
tuple_verdict (x ∷ xs) (y ∷ ys) = unless_equal (x y) (tuple_verdict xs ys)

abbrev pub is_equal : Verdict → Bool
is_equal Equal = true
is_equal Less = false
is_equal Greater = false
is_equal Unequal = false

-- both have none, or equal ones
abbrev pub option_verdict : {A B : Type 0} → (A → B → Verdict) → Option A → Option B → Verdict
option_verdict verdict None None = Equal
option_verdict verdict (Some a) (Some b) = same (is_equal (verdict a b))
option_verdict verdict None (Some b) = Unequal
option_verdict verdict (Some a) None = Unequal

-- ranges are equal as sequences: as many integers, and none, or the same first one and no second, or the same first one and the same step
abbrev pub same_items : ℕ → ℕ → Bool → Bool → Bool
same_items count count' same_start same_step = count == count' && (count == 0 || (same_start && (count == 1 || same_step)))

abbrev pub same_ranges : ℤ → ℤ → ℤ → ℤ → ℤ → ℤ → Bool
same_ranges start stop step start' stop' step' =
    same_items (range_length start stop step) (range_length start' stop' step') (int_eq start start') (int_eq step step')

abbrev pub verdict_at : Value-F Beside ExcBeside → Value-F Value Exc → Verdict
verdict_at Value-F.None Value-F.None = Equal
verdict_at (Value-F.Bool a) (Value-F.Bool b) = by_order (int_cmp (number a) (number b))
verdict_at (Value-F.Bool a) (Value-F.Int b) = by_order (int_cmp (number a) b)
verdict_at (Value-F.Int a) (Value-F.Bool b) = by_order (int_cmp a (number b))
verdict_at (Value-F.Int a) (Value-F.Int b) = by_order (int_cmp a b)
verdict_at (Value-F.Text a) (Value-F.Text b) = text_verdict a b
verdict_at (Value-F.Tuple a) (Value-F.Tuple b) = tuple_verdict a b
verdict_at (Value-F.Function a) (Value-F.Function b) = same (a == b)
verdict_at (Value-F.Builtin a) (Value-F.Builtin b) = same (a == b)
verdict_at (Value-F.ExcClass a) (Value-F.ExcClass b) = same (a == b)
verdict_at (Value-F.Exc a) (Value-F.Exc b) = a b
verdict_at (Value-F.Gen a) (Value-F.Gen b) = same (a == b)
verdict_at (Value-F.Iter a) (Value-F.Iter b) = same (a == b)
verdict_at (Value-F.Range a b c) (Value-F.Range d e f) = same (same_ranges a b c d e f)
verdict_at (Value-F.Done a) (Value-F.Done b) = option_verdict (λ x y. x y) a b
verdict_at _ _ = Unequal

abbrev pub verdict_step : Value-F Beside ExcBeside → Beside
verdict_step a b = verdict_at a (out-Value b)

abbrev pub exc_verdict_step : Exc-F Beside ExcBeside → ExcBeside
exc_verdict_step a b = if a.class == (out-Exc b).class then option_verdict (λ x y. x y) a.arg (out-Exc b).arg else Unequal

-- the first value stands to the second: equal, less, greater, or neither
abbrev pub verdict : Value → Value → Verdict
verdict = fold-Value Beside ExcBeside verdict_step exc_verdict_step

abbrev pub exc_verdict : Exc → Exc → Verdict
exc_verdict = fold-Exc Beside ExcBeside verdict_step exc_verdict_step

-- whether a value is equal to another
abbrev pub equals : Value → Value → Bool
equals a b = is_equal (verdict a b)

abbrev pub has_order_at : Operand → Bool
has_order_at (Number n) = true
has_order_at (Chars t) = true
has_order_at (Items items) = true
has_order_at Other = false

-- whether a value is of a kind that has an order: an integer, a text or a tuple
abbrev pub has_order : Value → Bool
has_order v = has_order_at (operand v)

-- the answer to an order, where less, equal and greater are answered so
abbrev pub by_verdict : Bool → Bool → Bool → Verdict → Result Bool Trouble
by_verdict less equal greater Less = Ok less
by_verdict less equal greater Equal = Ok equal
by_verdict less equal greater Greater = Ok greater
by_verdict less equal greater Unequal = Err not_comparable

abbrev pub ordered : Value → Value → Result Bool Trouble → Result Bool Trouble
ordered a b answer = if has_order a && has_order b then answer else Err not_comparable

abbrev pub compare_of : CmpOp → Value → Value → Result Bool Trouble
compare_of Eq a b = Ok (equals a b)
compare_of Ne a b = Ok (not (equals a b))
compare_of Lt a b = ordered a b (by_verdict true false false (verdict a b))
compare_of Le a b = ordered a b (by_verdict true true false (verdict a b))
compare_of Gt a b = ordered a b (by_verdict false false true (verdict a b))
compare_of Ge a b = ordered a b (by_verdict false true true (verdict a b))
