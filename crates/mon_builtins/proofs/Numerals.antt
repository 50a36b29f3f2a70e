-- Digits that are read one after another, in a number of 64 bits.
use Rattle.std.proofs.Common.{◌≡◌, ℕ, ◌+◌, ◌-◌, ◌*◌, ◌^◌, ◌<◌, ◌≤◌, min, List, [], ◌∷◌, length, take, drop, get_or, reverse, Bool, true, false, Option, Some, None, ap, sym, subst, ◌∙◌, arith}
use Rattle.std.specs.Prelude.{if◌then◌else◌}
use Rattle.std.proofs.lemmas.Bool.Decides.{nat_tests}
use Rattle.std.proofs.lemmas.List.{take_more, drop_more, drop_all, reverse-append, reverse-reverse}
use Rattle.mon_builtins.specs.Literals.{is_digit, is_blank, after_blanks, with_digit, number_on, number_from, Reads}

-- what stands behind a digit, and what stands where a digit must come
abbrev pub number_in : Bool → ℕ → List ℕ → Option ℕ
number_in true n cs = number_on n cs
number_in false n cs = number_from n cs

-- the whole is a number and what is left of it, where the sum stands for the number
abbrev pub Reading : Option ℕ → Bool → ℕ → List ℕ → Type 0
Reading whole after_digit sum rest = (n : ℕ) × (sum ≡ min n (2 ^ 64 - 1)) × (whole ≡ number_in after_digit n rest)

digit_next : (after_digit : Bool) (n c : ℕ) (cs : List ℕ) → is_digit c ≡ true → number_in after_digit n (c ∷ cs) ≡ number_on (with_digit n c) cs
digit_next true n c cs h = grind (arith, nat_tests)
digit_next false n c cs h = grind (arith, nat_tests)

underscore_next : (n c : ℕ) (cs : List ℕ) → c ≡ 95 → number_in true n (c ∷ cs) ≡ number_in false n cs
underscore_next n c cs h = grind (arith, nat_tests)

other_next : (after_digit : Bool) (n c : ℕ) (cs : List ℕ) → is_digit c ≡ false → (c ≡ 95 → after_digit ≡ false) → number_in after_digit n (c ∷ cs) ≡ None
other_next true n c cs h k = grind (arith, nat_tests)
other_next false n c cs h k = grind (arith, nat_tests)

at_place : (chars : List ℕ) (i c d : ℕ) → i < length chars → c ≡ get_or chars i d → drop i chars ≡ c ∷ drop (i + 1) chars
at_place chars i c d h e = drop_more chars i d h ∙ ap (λ y. y ∷ drop (i + 1) chars) (sym e)

-- a turn of the loop over the characters
digit_read : (whole : Option ℕ) (after_digit : Bool) (sum later i c d : ℕ) (chars : List ℕ) → Reading whole after_digit sum (drop i chars) → i < length chars → c ≡ get_or chars i d → is_digit c ≡ true
    → later ≡ min (min (sum * 10) (2 ^ 64 - 1) + (c - 48)) (2 ^ 64 - 1) → Reading whole true later (drop (i + 1) chars)
digit_read whole after_digit sum later i c d chars r h e t is =
    (with_digit r.0 c, omega (arith, r.1, is), r.2 ∙ ap (λ l. number_in after_digit r.0 l) (at_place chars i c d h e) ∙ digit_next after_digit r.0 c (drop (i + 1) chars) t)

pub digit_turn : (whole : Option ℕ) (before after : Bool) (sum later i c d : ℕ) (chars : List ℕ) → Reading whole before sum (drop i chars) → i < length chars → c ≡ get_or chars i d → is_digit c ≡ true
    → later ≡ min (min (sum * 10) (2 ^ 64 - 1) + (c - 48)) (2 ^ 64 - 1) → after ≡ true → Reading whole after later (drop (i + 1) chars)
digit_turn whole before after sum later i c d chars r h e t is a = subst (λ (b : Bool). Reading whole b later (drop (i + 1) chars)) (sym a) (digit_read whole before sum later i c d chars r h e t is)

pub underscore_turn : (whole : Option ℕ) (before after : Bool) (sum later i c d : ℕ) (chars : List ℕ) → Reading whole before sum (drop i chars) → i < length chars → c ≡ get_or chars i d → c ≡ 95 → before ≡ true → later ≡ sum → after ≡ false
    → Reading whole after later (drop (i + 1) chars)
underscore_turn whole before after sum later i c d chars r h e t b s a = (
  r.0,
  s ∙ r.1,
  r.2
      ∙ ap (λ l. number_in before r.0 l) (at_place chars i c d h e)
      ∙ ap (λ (k : Bool). number_in k r.0 (c ∷ drop (i + 1) chars)) b
      ∙ underscore_next r.0 c (drop (i + 1) chars) t
      ∙ ap (λ (k : Bool). number_in k r.0 (drop (i + 1) chars)) (sym a),
)

pub other_read : (whole : Option ℕ) (after_digit : Bool) (sum i c d : ℕ) (chars : List ℕ) → Reading whole after_digit sum (drop i chars) → i < length chars → c ≡ get_or chars i d → is_digit c ≡ false → (c ≡ 95 → after_digit ≡ false) → whole ≡ None
other_read whole after_digit sum i c d chars r h e t u =
    r.2 ∙ ap (λ l. number_in after_digit r.0 l) (at_place chars i c d h e) ∙ other_next after_digit r.0 c (drop (i + 1) chars) t u

pub all_read : (whole : Option ℕ) (sum i : ℕ) (chars : List ℕ) → Reading whole true sum (drop i chars) → length chars ≤ i → Reads (Some sum) whole
all_read whole sum i chars r h = let is : whole ≡ Some r.0 = r.2 ∙ ap (λ l. number_in true r.0 l) (drop_all i chars h) in subst (λ w. Reads (Some sum) w) (sym is) r.1

pub none_read : (whole : Option ℕ) (sum i : ℕ) (chars : List ℕ) → Reading whole false sum (drop i chars) → length chars ≤ i → Reads None whole
none_read whole sum i chars r h = let is : whole ≡ None = r.2 ∙ ap (λ l. number_in false r.0 l) (drop_all i chars h) in subst (λ w. Reads None w) (sym is) tt

pub refused : (whole : Option ℕ) → whole ≡ None → Reads None whole
refused whole e = subst (λ w. Reads None w) (sym e) tt

-- blanks at the ends
pub blank_next : (chars : List ℕ) (i c d : ℕ) → i < length chars → c ≡ get_or chars i d → is_blank c ≡ true → after_blanks (drop i chars) ≡ after_blanks (drop (i + 1) chars)
blank_next chars i c d h e b = ap after_blanks (at_place chars i c d h e) ∙ ap (λ t. if t then after_blanks (drop (i + 1) chars) else c ∷ drop (i + 1) chars) b

pub other_here : (chars : List ℕ) (i c d : ℕ) → i < length chars → c ≡ get_or chars i d → is_blank c ≡ false → after_blanks (drop i chars) ≡ drop i chars
other_here chars i c d h e b =
    ap after_blanks (at_place chars i c d h e)
    ∙ ap (λ t. if t then after_blanks (drop (i + 1) chars) else c ∷ drop (i + 1) chars) b
    ∙ sym (at_place chars i c d h e)

from_end : (chars : List ℕ) (i c d : ℕ) → i < length chars → c ≡ get_or chars i d → reverse (take (i + 1) chars) ≡ c ∷ reverse (take i chars)
from_end chars i c d h e = ap (λ l. reverse l) (take_more chars i d h) ∙ reverse-append (take i chars) (get_or chars i d ∷ []) ∙ ap (λ y. y ∷ reverse (take i chars)) (sym e)

pub blank_before : (chars : List ℕ) (i c d : ℕ) → i < length chars → c ≡ get_or chars i d → is_blank c ≡ true → after_blanks (reverse (take (i + 1) chars)) ≡ after_blanks (reverse (take i chars))
blank_before chars i c d h e b = ap after_blanks (from_end chars i c d h e) ∙ ap (λ t. if t then after_blanks (reverse (take i chars)) else c ∷ reverse (take i chars)) b

pub other_last : (chars : List ℕ) (i c d : ℕ) → i < length chars → c ≡ get_or chars i d → is_blank c ≡ false → reverse (after_blanks (reverse (take (i + 1) chars))) ≡ take (i + 1) chars
other_last chars i c d h e b =
    ap (λ l. reverse (after_blanks l)) (from_end chars i c d h e)
    ∙ ap (λ t. reverse (if t then after_blanks (reverse (take i chars)) else c ∷ reverse (take i chars))) b
    ∙ ap (λ l. reverse l) (sym (from_end chars i c d h e))
    ∙ reverse-reverse (take (i + 1) chars)
