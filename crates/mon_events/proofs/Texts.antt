-- Texts that are no set.
use Rattle.std.proofs.Common.{◌≡◌, ℕ, ◌+◌, ◌-◌, ◌*◌, ◌^◌, ◌<◌, ◌≤◌, Bool, true, false, cond, List, [], ◌∷◌, length, get_or, drop, Option, Some, None, refl, sym, ap, ◌∙◌, arith, le-ltb}
use Rattle.std.specs.Char.{is_ascii_digit}
use Rattle.std.proofs.lemmas.List.{drop_more}
use Rattle.mon_events.specs.Names.{with_names, with_digits, set_of_digits}

pub no_names : (names : List (List ℕ)) → with_names None names ≡ None
no_names [] = refl
no_names (name ∷ names) = no_names names

either : (b : Bool) (r : Option ℕ) → r ≡ None → cond b r None ≡ None
either true r e = e
either false r e = refl

-- a value does not fall with more digits
pub too_large : (n : ℕ) (digits : List ℕ) → 2 ^ 32 ≤ n → with_digits n digits ≡ None
too_large n [] h = ap (λ (b : Bool). cond b (Some n) None) (le-ltb n (2 ^ 32) h)
too_large n (c ∷ cs) h = either (is_ascii_digit c) (with_digits (10 * n + (c - 48)) cs) (too_large (10 * n + (c - 48)) cs (omega arith))

some_digit : (digits : List ℕ) → 0 < length digits → with_digits 0 digits ≡ set_of_digits digits
some_digit [] h = absurd (omega arith)
some_digit (c ∷ cs) h = refl

-- the digits up to one have too large a value
pub large_at : (value index : ℕ) (digits : List ℕ) → index < length digits → is_ascii_digit (get_or digits index 0) ≡ true → 2 ^ 32 ≤ 10 * value + (get_or digits index 0 - 48)
    → with_digits value (drop index digits) ≡ with_digits 0 digits → None ≡ set_of_digits digits
large_at value index digits h d large same =
    let rest : List ℕ = drop (index + 1) digits in
    let next : ℕ = 10 * value + (get_or digits index 0 - 48) in
    sym (sym (some_digit digits (omega arith)) ∙ (sym same ∙ (ap (with_digits value) (drop_more digits index 0 h)
    ∙ (ap (λ (b : Bool). cond b (with_digits next rest) None) d ∙ too_large next rest large))))
