-- The first least or the first greatest of values.
use Rattle.std.specs.Prelude.{Bool, true, false, List, [], ◌∷◌, Option, Some, None, Result, Ok, Err, ℤ, pos, int_lt, int_le}
use Rattle.mon_values.specs.declared.value.Value.{Value}
use Rattle.mon_values.specs.declared.fault.Trouble.{Trouble}
use Rattle.mon_values.specs.declared.operator.CmpOp.{CmpOp}
use Rattle.mon_values.specs.Comparing.{compare_of}
use Rattle.mon_values.specs.Troubles.{trouble, not_iterable}
use Rattle.mon_frames.specs.Items.{items_of}
use Rattle.mon_builtins.specs.declared.extreme.Wanted.{Wanted}
use Rattle.mon_builtins.specs.declared.extreme.Wanted.TheVariants.{Least, Greatest}

-- what is asked of a value beside the best one before it
abbrev pub asked : Wanted → CmpOp
asked Least = CmpOp.Lt
asked Greatest = CmpOp.Gt

-- the next value takes the best one's place where it stands so to it
abbrev pub better : Result Bool Trouble → Value → Value → Result Value Trouble
better (Ok true) x best = Ok x
better (Ok false) x best = Ok best
better (Err t) x best = Err t

abbrev pub and_on : Result Value Trouble → (Value → Result Value Trouble) → Result Value Trouble
and_on (Ok best) others = others best
and_on (Err t) others = Err t

-- the best of a value and of those that follow: each is asked whether it stands so to the best one before it
abbrev pub best_of : CmpOp → Value → List Value → Result Value Trouble
best_of op best [] = Ok best
best_of op best (x ∷ xs) = and_on (better (compare_of op x best) x best) (λ next. best_of op next xs)

-- there is none of no values
abbrev pub best_among : CmpOp → List Value → Result Value Trouble
best_among op [] = Err (trouble 13)
best_among op (x ∷ xs) = best_of op x xs

abbrev pub best_item : CmpOp → Option (List Value) → Result Value Trouble
best_item op None = Err not_iterable
best_item op (Some items) = best_among op items

-- of two or more arguments, or of the items of one
abbrev pub extreme : CmpOp → List Value → Result Value Trouble
extreme op [] = Err (trouble 5)
extreme op (x ∷ []) = best_item op (items_of x)
extreme op (x ∷ y ∷ args) = best_of op x (y ∷ args)

-- the least of a range that rises and the greatest of one that falls is its first integer
abbrev pub is_first : Wanted → ℤ → Bool
is_first Least step = int_lt (pos 0) step
is_first Greatest step = int_le step (pos 0)
