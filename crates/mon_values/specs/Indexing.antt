-- What a subscript gives.
use Rattle.std.specs.Prelude.{ℕ, suc, ◌-◌, List, [], ◌∷◌, length, Option, Some, None, nat_lt, ℤ, pos, negsuc, Result, Ok, Err, slice_get, if◌then◌else◌}
use Rattle.mon_values.specs.declared.value.Value.{Value, Int, Text}
use Rattle.mon_values.specs.declared.value.Value.TheOpen.{Value-F}
use Rattle.mon_values.specs.declared.value.Value.TheViews.{out-Value}
use Rattle.mon_values.specs.declared.value.Exc.{Exc}
use Rattle.mon_values.specs.declared.fault.Trouble.{Trouble}
use Rattle.mon_values.specs.Arithmetic.{integer}
use Rattle.mon_values.specs.Ranges.{range_length, range_item}
use Rattle.mon_values.specs.Troubles.{unsupported_operand, wrong_argument, index_out_of_range}

-- the place that an index names among so many: from the start, or below 0 from the end, where -1 is the last
abbrev pub place_of : ℤ → ℕ → Option ℕ
place_of (pos n) count = if nat_lt n count then Some n else None
place_of (negsuc n) count = if nat_lt n count then Some (count - suc n) else None

abbrev pub place_or : Option ℕ → Result ℕ Trouble
place_or None = Err index_out_of_range
place_or (Some place) = Ok place

-- an index that is no integer raises
abbrev pub place_at : Option ℤ → ℕ → Result ℕ Trouble
place_at None count = Err wrong_argument
place_at (Some index) count = place_or (place_of index count)

-- the item at a place of a text, a tuple and a range
abbrev pub one_char : Option ℕ → Result Value Trouble
one_char None = Err index_out_of_range
one_char (Some c) = Ok (Text (c ∷ []))

abbrev pub one_item : Option Value → Result Value Trouble
one_item None = Err index_out_of_range
one_item (Some item) = Ok item

abbrev pub item_at : (ℕ → Result Value Trouble) → Result ℕ Trouble → Result Value Trouble
item_at item (Err t) = Err t
item_at item (Ok place) = item place

abbrev pub text_item : List ℕ → Option ℤ → Result Value Trouble
text_item text at = item_at (λ place. one_char (slice_get text place)) (place_at at (length text))

abbrev pub tuple_item : List Value → Option ℤ → Result Value Trouble
tuple_item items at = item_at (λ place. one_item (slice_get items place)) (place_at at (length items))

abbrev pub range_item_at : ℤ → ℤ → ℤ → Option ℤ → Result Value Trouble
range_item_at start stop step at = item_at (λ place. Ok (Int (range_item start step place))) (place_at at (range_length start stop step))

-- what has no items raises before the index is looked at
abbrev pub index_at : Value-F Value Exc → Option ℤ → Result Value Trouble
index_at (Value-F.Text text) at = text_item text at
index_at (Value-F.Tuple items) at = tuple_item items at
index_at (Value-F.Range start stop step) at = range_item_at start stop step at
index_at _ at = Err unsupported_operand

-- the item of the first value at the second
abbrev pub index_of : Value → Value → Result Value Trouble
index_of whole at = index_at (out-Value whole) (integer at)
