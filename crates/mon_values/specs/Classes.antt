-- The exception classes: their names and parents, by number.
use Rattle.std.specs.Prelude.{ℕ, zero, suc, List, [], ◌∷◌, Option, Some, None, Bool, false, ◌==◌, ◌||◌, slice_get, codes}
use Rattle.std.specs.Option.{option_map_or}

pub record Class : Type 0 where
  pub name : List ℕ
  pub parent : Option ℕ

abbrev pub class : Option ℕ → List ℕ → Class
class parent name = record { name = name; parent = parent }

abbrev pub classes : List Class
classes =
    class None (codes "BaseException")
    ∷ class (Some 0) (codes "Exception")
    ∷ class (Some 0) (codes "GeneratorExit")
    ∷ class (Some 1) (codes "StopIteration")
    ∷ class (Some 1) (codes "ArithmeticError")
    ∷ class (Some 4) (codes "ZeroDivisionError")
    ∷ class (Some 4) (codes "OverflowError")
    ∷ class (Some 1) (codes "LookupError")
    ∷ class (Some 7) (codes "IndexError")
    ∷ class (Some 1) (codes "NameError")
    ∷ class (Some 9) (codes "UnboundLocalError")
    ∷ class (Some 1) (codes "RuntimeError")
    ∷ class (Some 11) (codes "RecursionError")
    ∷ class (Some 1) (codes "TypeError")
    ∷ class (Some 1) (codes "ValueError")
    ∷ class (Some 1) (codes "AttributeError")
    ∷ []

-- a class without a row has an empty name and no parent
abbrev pub class_or : Option Class → Class
class_or None = class None []
class_or (Some row) = row

abbrev pub class_at : ℕ → Class
class_at number = class_or (slice_get classes number)

abbrev pub class_name : ℕ → List ℕ
class_name number = (class_at number).name

abbrev pub parent_of : ℕ → Option ℕ
parent_of number = (class_at number).parent

-- A class is of itself and of what its parent is of; no class stands more than `steps` below another.
abbrev pub is_of_within : ℕ → ℕ → ℕ → Bool
is_of_within zero number of = number == of
is_of_within (suc steps) number of = number == of || option_map_or (λ up. is_of_within steps up of) (parent_of number) false

-- the table is four steps high
abbrev pub is_subclass : ℕ → ℕ → Bool
is_subclass number of = is_of_within 4 number of

abbrev pub builtin_names : List (List ℕ)
builtin_names =
    codes "print"
    ∷ codes "len"
    ∷ codes "range"
    ∷ codes "str"
    ∷ codes "int"
    ∷ codes "abs"
    ∷ codes "min"
    ∷ codes "max"
    ∷ codes "tuple"
    ∷ codes "next"
    ∷ codes "iter"
    ∷ codes "send"
    ∷ codes "throw"
    ∷ codes "close"
    ∷ []

-- the name at a place of a list, and the empty name where there is none
abbrev pub name_or : Option (List ℕ) → List ℕ
name_or None = []
name_or (Some name) = name

abbrev pub name_at : List (List ℕ) → ℕ → List ℕ
name_at names place = name_or (slice_get names place)

abbrev pub builtin_name : ℕ → List ℕ
builtin_name number = name_at builtin_names number
