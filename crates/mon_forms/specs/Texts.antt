-- What listings and reports are made of, as bytes: names, values and numbers.
use Rattle.std.specs.Prelude.{◌≡◌, ℕ, ◌+◌, List, [], ◌∷◌, ◌++◌, map, codes, encode_utf8_all, String, string_bytes}
use Rattle.std.specs.Fmt.{decimal}
use Rattle.std.specs.List.{flat_map}
use Rattle.std.specs.declared.alloc.Global.{Global}
use Rattle.mon_code.specs.Programs.{Parts}
use Rattle.mon_values.specs.Classes.{name_at}
use Rattle.mon_values.specs.Printing.{repr_of}
use Rattle.mon_values.specs.declared.value.Value.{Value}

-- what is written of each item of a list, by its number, the first of which is k
abbrev pub each_from : {A : Type 0} → (ℕ → A → List ℕ) → ℕ → List A → List ℕ
each_from f k [] = []
each_from f k (x ∷ xs) = f k x ++ each_from f (k + 1) xs

-- a number, behind a space
abbrev pub number_text : ℕ → List ℕ
number_text n = codes " " ++ decimal n

abbrev pub numbers_text : List ℕ → List ℕ
numbers_text numbers = flat_map number_text numbers

-- the name at a place of a list; nothing where there is none
abbrev pub name_text : List (List ℕ) → ℕ → List ℕ
name_text names place = encode_utf8_all (name_at names place)

-- the name of a code
abbrev pub code_text : Parts → ℕ → List ℕ
code_text p code = name_text p.names code

-- the `repr` of a value, with the names of the program's functions
abbrev pub value_text : Parts → Value → List ℕ
value_text p v = encode_utf8_all (repr_of p.names v)

-- these are the names of a program's codes, as bytes
pub record AreNames (p : Parts) (names : List (String Global)) : Type 0 where
  pub are : map string_bytes names ≡ map encode_utf8_all p.names
