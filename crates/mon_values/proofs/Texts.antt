-- A text at a place of another.
use Rattle.std.proofs.Common.{◌≡◌, ℕ, suc, ◌+◌, ◌<◌, ◌≤◌, List, [], ◌∷◌, length, drop, get_or, true, false, refl, ap, sym, ◌∙◌, arith, length-drop, drop-cons, add-one}
use Rattle.std.specs.Prelude.{◌||◌}
use Rattle.mon_values.specs.Containing.{begins_with, stands_in}

past : (part text : List ℕ) → 0 < length part → length text ≡ 0 → begins_with part text ≡ false
past (x ∷ part) [] h e = refl
past [] text h e = absurd (omega arith)
past (x ∷ part) (y ∷ text) h e = absurd (omega arith)

pub begins_past : (part text : List ℕ) (i : ℕ) → i < length part → length text ≤ i → begins_with (drop i part) (drop i text) ≡ false
begins_past part text i h e = past (drop i part) (drop i text) (omega (arith, length-drop i part)) (omega (arith, length-drop i text))

here : (part text : List ℕ) → begins_with part text ≡ true → stands_in part text ≡ true
here part [] e = e
here part (y ∷ text) e = ap (λ b. b || stands_in part text) e

next : (part : List ℕ) (y : ℕ) (text : List ℕ) → begins_with part (y ∷ text) ≡ false → stands_in part (y ∷ text) ≡ stands_in part text
next part y text e = ap (λ b. b || stands_in part text) e

pub stands_here : (part text : List ℕ) (i : ℕ) → begins_with part (drop i text) ≡ true → stands_in part (drop i text) ≡ true
stands_here part text i e = here part (drop i text) e

pub stands_next : (part text : List ℕ) (i : ℕ) → i < length text → begins_with part (drop i text) ≡ false → stands_in part (drop i text) ≡ stands_in part (drop (i + 1) text)
stands_next part text i h e =
    let split : drop i text ≡ get_or text i 0 ∷ drop (suc i) text = drop-cons text i 0 h in
    ap (stands_in part) split ∙ next part (get_or text i 0) (drop (suc i) text) (ap (begins_with part) (sym split) ∙ e) ∙ ap (λ j. stands_in part (drop j text)) (sym (add-one i))

last : (part text : List ℕ) → length text ≡ 0 → stands_in part text ≡ begins_with part []
last part [] e = refl
last part (y ∷ text) e = absurd (omega arith)

pub stands_last : (part text : List ℕ) (i : ℕ) → length text ≤ i → stands_in part (drop i text) ≡ begins_with part []
stands_last part text i e = last part (drop i text) (omega (arith, length-drop i text))
