-- The tables past their last rows.
use Rattle.std.proofs.Common.{◌≡◌, ◌≢◌, ℕ, ◌<◌, ◌≤◌, ◌++◌, ◌+◌, min, take, drop, get_or, map, append-nil, append_assoc, ◌∙◌, add-one, drop-cons, length-drop, sym, List, [], ◌∷◌, length, None, zero, suc, refl, arith, ap}
use Rattle.std.specs.Prelude.{slice_get, codes, ℤ, pos, negsuc}
use Rattle.std.specs.Fmt.{signed_decimal}
use Rattle.std.proofs.lemmas.List.{take_all}
use Rattle.std.proofs.lemmas.Bool.Decides.{nat_tests}
use Rattle.mon_values.specs.declared.value.Value.{Value}
use Rattle.mon_values.specs.declared.fault.Trouble.{Trouble}
use Rattle.mon_values.specs.Printing.{Printed, step_repr, joined}
use Rattle.mon_values.specs.Classes.{classes, class_or, class_name, parent_of, builtin_names, builtin_name, name_or}
use Rattle.mon_values.specs.Troubles.{rows, row_or, row_of, Fixed}

pub get_past : {X : Type 0} (xs : List X) (i : ℕ) → length xs ≤ i → slice_get xs i ≡ None
get_past [] i h = refl
get_past (x ∷ xs) zero h = absurd (omega arith)
get_past (x ∷ xs) (suc i) h = get_past xs i (omega arith)

pub no_class_name : (class : ℕ) → 16 ≤ class → class_name class ≡ []
no_class_name class h = ap (λ row. (class_or row).name) (get_past classes class h)

pub no_parent : (class : ℕ) → 16 ≤ class → parent_of class ≡ None
no_parent class h = ap (λ row. (class_or row).parent) (get_past classes class h)

pub no_builtin_name : (builtin : ℕ) → 14 ≤ builtin → builtin_name builtin ≡ []
no_builtin_name builtin h = ap name_or (get_past builtin_names builtin h)

pub no_row : (t : Trouble) → 26 ≤ t.0 → row_of t ≡ Fixed 0 []
no_row t h = ap row_or (get_past rows t.0 h)

-- a name up to its end or the limit
pub cut : (n k : ℕ) (xs : List ℕ) → n ≡ min (length xs) k → take n xs ≡ take k xs
cut n k xs e = grind (arith, take_all)

pub step_shown : (step : ℤ) → step ≢ pos 1 → step_repr step ≡ codes ", " ++ signed_decimal step
step_shown (pos n) h = grind (arith, nat_tests)
step_shown (negsuc n) h = refl

-- the items of a tuple from a place on, where there is a later one, and where there is none
joined_two : (f : Value → Printed) (x : Value) (xs : List Value) → 0 < length xs → joined (map f (x ∷ xs)) ≡ (f x).repr ++ codes ", " ++ joined (map f xs)
joined_two f x (y ∷ xs) h = refl
joined_two f x [] h = absurd (omega arith)

joined_one : (f : Value → Printed) (x : Value) (xs : List Value) → length xs ≡ 0 → joined (map f (x ∷ xs)) ≡ (f x).repr ++ joined (map f xs)
joined_one f x [] h = sym (append-nil (f x).repr)
joined_one f x (y ∷ xs) h = absurd (omega arith)

pub joined_more : (f : Value → Printed) (items : List Value) (i : ℕ) (x : Value) → i + 1 < length items → x ≡ get_or items i x → joined (map f (drop i items)) ≡ (f x).repr ++ codes ", " ++ joined (map f (drop (i + 1) items))
joined_more f items i x h e =
    let within : i < length items = omega arith in
    let n : 0 < length (drop (suc i) items) = omega (arith, length-drop (suc i) items) in
    rw (add-one, drop-cons items i x, ← e) (joined_two f x (drop (suc i) items) n)

pub joined_last : (f : Value → Printed) (items : List Value) (i : ℕ) (x : Value) → i < length items → length items ≤ i + 1 → x ≡ get_or items i x → joined (map f (drop i items)) ≡ (f x).repr ++ joined (map f (drop (i + 1) items))
joined_last f items i x h k e =
    let n : length (drop (suc i) items) ≡ 0 = omega (arith, length-drop (suc i) items) in
    rw (add-one, drop-cons items i x, ← e) (joined_one f x (drop (suc i) items) n)
