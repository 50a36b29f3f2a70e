-- A list in turn, and the totals of its parts.
use Rattle.std.proofs.Common.{◌≡◌, ℕ, zero, suc, ◌+◌, ◌<◌, ◌≤◌, List, [], ◌∷◌, length, map, drop, get_or, sym, ap, ◌∙◌, arith}
use Rattle.std.specs.Prelude.{Result, Ok, Err, OnOk}
use Rattle.std.proofs.lemmas.List.{drop_more}
use Rattle.mon_compile.specs.Nodes.{total}

one_of : {A : Type 0} (size : A → ℕ) (xs : List A) (i : ℕ) (d : A) → i < length xs → size (get_or xs i d) ≤ total (map size xs)
one_of size [] i d h = absurd (omega arith)
one_of size (x ∷ xs) zero d h = omega arith
one_of size (x ∷ xs) (suc i) d h = let inner = one_of size xs i d (omega arith) in omega (arith, inner)

pub part_within : {A : Type 0} (size : A → ℕ) (xs : List A) (i : ℕ) (x : A) → i < length xs → x ≡ get_or xs i x → size x ≤ total (map size xs)
part_within size xs i x h is = let inner = one_of size xs i x h in omega (arith, inner, ap size is)

pub part_next : {A : Type 0} (xs : List A) (i : ℕ) (x : A) → i < length xs → x ≡ get_or xs i x → drop i xs ≡ x ∷ drop (i + 1) xs
part_next xs i x h is = drop_more xs i x h ∙ ap (λ y. y ∷ drop (i + 1) xs) (sym is)

pub on_ok : {T E P Q : Type 0} (r : Result T E) → (P → Q) → OnOk r P → OnOk r Q
on_ok (Ok x) f h = f h
on_ok (Err e) f h = tt
