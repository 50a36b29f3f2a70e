-- The exceptions that the machine raises: a table of classes and texts, and the exception of each row.
use Rattle.std.specs.Prelude.{ℕ, List, [], ◌∷◌, ◌++◌, take, Option, Some, None, slice_get, codes}
use Rattle.mon_values.specs.declared.fault.Trouble.{Trouble}
use Rattle.mon_values.specs.declared.value.Value.TheViews.{roll-Exc}
use Rattle.mon_values.specs.declared.value.Value.{Text}
use Rattle.mon_values.specs.declared.value.Exc.{Exc}
use Rattle.mon_values.specs.declared.trouble.Row as declared
use Rattle.mon_values.specs.declared.trouble.Row.TheVariants as variants

-- an exception of a class with a text as its argument
abbrev pub exc_with_text : ℕ → List ℕ → Exc
exc_with_text class text = roll-Exc (record { class = class; arg = Some (Text text) })

-- a row has a class and a text, or a text before and a text after a name
pub data Row : Type 0 where
  Fixed : ℕ → List ℕ → Row
  Named : ℕ → List ℕ → List ℕ → Row

-- no row has the number 0
abbrev pub rows : List Row
rows =
    Fixed 0 []
    ∷ Fixed 13 (codes "unsupported operand")
    ∷ Fixed 13 (codes "not comparable")
    ∷ Fixed 13 (codes "not iterable")
    ∷ Fixed 13 (codes "not callable")
    ∷ Fixed 13 (codes "wrong number of arguments")
    ∷ Fixed 13 (codes "wrong argument")
    ∷ Fixed 13 (codes "not an exception")
    ∷ Fixed 13 (codes "first sent value must be None")
    ∷ Fixed 14 (codes "generator already executing")
    ∷ Fixed 14 (codes "invalid literal")
    ∷ Fixed 14 (codes "wrong number of values")
    ∷ Fixed 14 (codes "step is zero")
    ∷ Fixed 14 (codes "empty argument")
    ∷ Fixed 5 (codes "division by zero")
    ∷ Fixed 6 (codes "integer out of range")
    ∷ Fixed 6 (codes "value too large")
    ∷ Fixed 12 (codes "value nested too deeply")
    ∷ Fixed 12 (codes "too many frames")
    ∷ Fixed 8 (codes "index out of range")
    ∷ Fixed 15 (codes "no such method")
    ∷ Fixed 11 (codes "no exception to re-raise")
    ∷ Fixed 11 (codes "generator raised StopIteration")
    ∷ Fixed 11 (codes "generator ignored GeneratorExit")
    ∷ Named 9 (codes "name '") (codes "' is not defined")
    ∷ Named 10 (codes "name '") (codes "' is not bound")
    ∷ []

-- a number without a row is as 0
abbrev pub row_or : Option Row → Row
row_or None = Fixed 0 []
row_or (Some row) = row

abbrev pub row_of : Trouble → Row
row_of t = row_or (slice_get rows t.0)

-- a row as the code has it
abbrev pub row_read : declared.Row → Row
row_read (variants.Fixed class text) = Fixed class text.now
row_read (variants.Named class after) = Named class (codes "name '") after.now

-- a name is cut at 40 characters
abbrev pub row_exc : Row → List ℕ → Exc
row_exc (Fixed class text) name = exc_with_text class text
row_exc (Named class before after) name = exc_with_text class (before ++ take 40 name ++ after)

abbrev pub trouble_exc : Trouble → List ℕ → Exc
trouble_exc t name = row_exc (row_of t) name

-- the rows that values raise
abbrev pub trouble : ℕ → Trouble
trouble row = record { 0 = row }

abbrev pub unsupported_operand : Trouble
unsupported_operand = trouble 1

abbrev pub not_comparable : Trouble
not_comparable = trouble 2

abbrev pub not_iterable : Trouble
not_iterable = trouble 3

abbrev pub wrong_argument : Trouble
wrong_argument = trouble 6

abbrev pub division_by_zero : Trouble
division_by_zero = trouble 14

abbrev pub out_of_range : Trouble
out_of_range = trouble 15

abbrev pub too_large : Trouble
too_large = trouble 16

abbrev pub nested_too_deeply : Trouble
nested_too_deeply = trouble 17

abbrev pub index_out_of_range : Trouble
index_out_of_range = trouble 19
