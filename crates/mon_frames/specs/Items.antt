-- The items of a value that can be gone over.
use Rattle.std.specs.Prelude.{ℕ, zero, suc, ◌+◌, ◌-◌, List, [], ◌∷◌, length, drop, map, Option, Some, None, ℤ}
use Rattle.mon_values.specs.declared.value.Value.{Value, Int, Text}
use Rattle.mon_values.specs.declared.value.Value.TheOpen.{Value-F}
use Rattle.mon_values.specs.declared.value.Value.TheViews.{out-Value}
use Rattle.mon_values.specs.declared.value.Exc.{Exc}
use Rattle.mon_values.specs.Ranges.{range_length, range_item}

-- a character as a text
abbrev pub one_char : ℕ → Value
one_char c = Text (c ∷ [])

-- so many integers of a range, from a place on
unfoldable pub range_items : ℤ → ℤ → ℕ → ℕ → List Value
range_items start step place zero = []
range_items start step place (suc count) = Int (range_item start step place) ∷ range_items start step (place + 1) count

abbrev pub items_at : Value-F Value Exc → Option (List Value)
items_at (Value-F.Text text) = Some (map one_char text)
items_at (Value-F.Tuple items) = Some items
items_at (Value-F.Range start stop step) = Some (range_items start step 0 (range_length start stop step))
items_at _ = None

-- the characters of a text, the items of a tuple, the integers of a range; nothing else has items
abbrev pub items_of : Value → Option (List Value)
items_of v = items_at (out-Value v)

abbrev pub or_none : Option (List Value) → List Value
or_none None = []
or_none (Some items) = items

-- how many items there are
abbrev pub count_of : Option (List Value) → Option ℕ
count_of None = None
count_of (Some items) = Some (length items)

-- the lowest of a stack, of which the top comes first
abbrev pub lowest : {A : Type 0} → ℕ → List A → List A
lowest count stack = drop (length stack - count) stack

-- the value of a local, if there is such a local and it is bound
abbrev pub bound : {A : Type 0} → Option (Option A) → Option A
bound None = None
bound (Some local) = local

abbrev pub integer_at : Value-F Value Exc → Option ℤ
integer_at (Value-F.Int n) = Some n
integer_at _ = None

abbrev pub both : Option ℤ → Option ℤ → Option (ℤ × ℤ)
both None b = None
both (Some a) None = None
both (Some a) (Some b) = Some (a, b)

-- two values as integers, where both are some
abbrev pub integers_of : Value → Value → Option (ℤ × ℤ)
integers_of a b = both (integer_at (out-Value a)) (integer_at (out-Value b))

-- the topmost two of a stack, the lower first, where both are integers
abbrev pub top_integers : List Value → Option (ℤ × ℤ)
top_integers [] = None
top_integers (b ∷ []) = None
top_integers (b ∷ a ∷ rest) = integers_of a b
