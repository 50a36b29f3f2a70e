-- The callee and the arguments of a call.
use Rattle.std.proofs.Common.{◌≡◌, ℕ, zero, suc, ◌<◌, List, [], ◌∷◌, length, drop, sym, ap, ◌∙◌, arith, length-drop}
use Rattle.std.specs.Prelude.{slice_get, Some}
use Rattle.std.proofs.Math.Seq.{drop-nil}

apart : {A : Type 0} (x : A) (rest : List A) → [] ≡ x ∷ rest → ⊥
apart x rest e = cc

pub first_dropped : {A : Type 0} (xs : List A) (n : ℕ) (x : A) (rest : List A) → drop n xs ≡ x ∷ rest → slice_get xs n ≡ Some x
first_dropped [] n x rest e = absurd (apart x rest (sym (drop-nil n) ∙ e))
first_dropped (y ∷ ys) zero x rest e = let same : y ≡ x = cc in ap (λ z. Some z) same
first_dropped (y ∷ ys) (suc n) x rest e = first_dropped ys n x rest e

pub some_dropped : {A : Type 0} (xs : List A) (n : ℕ) → n < length xs → drop n xs ≡ [] → ⊥
some_dropped xs n h e = omega (arith, h, length-drop n xs, ap length e)
