-- What `in` answers.
use Rattle.std.specs.Prelude.{ℕ, ◌==◌, List, [], ◌∷◌, Option, Some, None, Bool, true, false, ◌&&◌, ◌||◌, ℤ, Result, Ok, Err}
use Rattle.std.specs.List.{list_any}
use Rattle.mon_values.specs.declared.value.Value.{Value}
use Rattle.mon_values.specs.declared.value.Value.TheOpen.{Value-F}
use Rattle.mon_values.specs.declared.value.Value.TheViews.{out-Value}
use Rattle.mon_values.specs.declared.value.Exc.{Exc}
use Rattle.mon_values.specs.declared.fault.Trouble.{Trouble}
use Rattle.mon_values.specs.Arithmetic.{Operand, Chars, operand, integer}
use Rattle.mon_values.specs.Comparing.{equals}
use Rattle.mon_values.specs.Ranges.{is_range_item}
use Rattle.mon_values.specs.Troubles.{not_iterable, wrong_argument}

-- whether a text begins with another
abbrev pub begins_with : List ℕ → List ℕ → Bool
begins_with [] text = true
begins_with (x ∷ xs) [] = false
begins_with (x ∷ xs) (y ∷ ys) = x == y && begins_with xs ys

-- whether a text stands in another
abbrev pub stands_in : List ℕ → List ℕ → Bool
stands_in part [] = begins_with part []
stands_in part (y ∷ ys) = begins_with part (y ∷ ys) || stands_in part ys

-- a text alone is looked for in a text
abbrev pub in_text : Operand → List ℕ → Result Bool Trouble
in_text (Chars part) text = Ok (stands_in part text)
in_text _ text = Err wrong_argument

-- what is no integer stands in no range
abbrev pub in_integers : Option ℤ → ℤ → ℤ → ℤ → Bool
in_integers None start stop step = false
in_integers (Some z) start stop step = is_range_item start stop step z

abbrev pub contains_at : Value → Value-F Value Exc → Result Bool Trouble
contains_at item (Value-F.Text text) = in_text (operand item) text
contains_at item (Value-F.Tuple items) = Ok (list_any (equals item) items)
contains_at item (Value-F.Range start stop step) = Ok (in_integers (integer item) start stop step)
contains_at item _ = Err not_iterable

-- whether the first value stands in the second
abbrev pub contains_of : Value → Value → Result Bool Trouble
contains_of item whole = contains_at item (out-Value whole)
