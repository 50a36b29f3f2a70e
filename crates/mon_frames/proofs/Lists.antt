-- Lists by their last item, and lists that are seen from their end.
use Rattle.std.proofs.Common.{add-one, ◌≡◌, ℕ, zero, suc, ◌+◌, ◌-◌, ◌<◌, ◌≤◌, List, [], ◌∷◌, ◌++◌, length, take, drop, get_or, reverse, refl, sym, ap, ◌∙◌, arith, length-append, length-drop}
use Rattle.std.specs.Prelude.{slice_get, slice_set, Some, None}
use Rattle.std.proofs.lemmas.List.{reverse-append, reverse-reverse, length-reverse, length-take-le, take-take, take-append-drop, drop_more}
use Rattle.std.proofs.lemmas.Option.{slice_get_within, get_or_from_slice_get}
use Rattle.std.proofs.Math.Seq.{take-append_seam, drop-append_seam, drop-nil}
use Rattle.mon_frames.specs.Items.{lowest}

pub record Ends {A : Type 0} (xs : List A) : Type 0 where
  pub front : List A
  pub last : A
  pub is : xs ≡ front ++ last ∷ []

ends : {A : Type 0} (x : A) (xs : List A) → Ends (x ∷ xs)
ends x [] = record { front = []; last = x; is = refl }
ends x (y ∷ ys) = let e = ends y ys in record { front = x ∷ e.front; last = e.last; is = ap (λ l. x ∷ l) e.is }

pub ends_of : {A : Type 0} (xs : List A) → 0 < length xs → Ends xs
ends_of [] h = absurd (omega arith)
ends_of (x ∷ xs) h = ends x xs

pub get_seam : {A : Type 0} (front : List A) (last d : A) → get_or (front ++ last ∷ []) (length front) d ≡ last
get_seam [] last d = refl
get_seam (x ∷ front) last d = get_seam front last d

slice_get_seam : {A : Type 0} (front : List A) (last : A) → slice_get (front ++ last ∷ []) (length front) ≡ Some last
slice_get_seam [] last = refl
slice_get_seam (x ∷ front) last = slice_get_seam front last

first_of_ends : {A : Type 0} (xs front : List A) (last : A) → xs ≡ front ++ last ∷ [] → slice_get xs (length xs - 1) ≡ slice_get (reverse xs) 0
first_of_ends xs front last e =
    let at : length xs - 1 ≡ length front = omega (arith, ap length e, length-append front (last ∷ [])) in
    ap (λ k. slice_get xs k) at
    ∙ ap (λ l. slice_get l (length front)) e
    ∙ slice_get_seam front last
    ∙ sym (ap (λ l. slice_get (reverse l) 0) e ∙ ap (λ l. slice_get l 0) (reverse-append front (last ∷ [])))

-- the last item comes first where a list is seen from its end
pub first_reversed : {A : Type 0} (xs : List A) → slice_get xs (length xs - 1) ≡ slice_get (reverse xs) 0
first_reversed [] = refl
first_reversed (x ∷ xs) = let e = ends x xs in first_of_ends (x ∷ xs) e.front e.last e.is

-- what is kept from the front is the lowest where a list is seen from its end
pub cut_reversed : {A : Type 0} (xs : List A) (n : ℕ) → reverse (take n xs) ≡ lowest n (reverse xs)
cut_reversed xs n =
    let split : reverse xs ≡ reverse (drop n xs) ++ reverse (take n xs) = ap (λ l. reverse l) (sym (take-append-drop n xs)) ∙ reverse-append (take n xs) (drop n xs) in
    let at : length (reverse xs) - n ≡ length (reverse (drop n xs)) = omega (arith, length-reverse xs, length-reverse (drop n xs), length-drop n xs) in
    sym (ap (λ k. drop k (reverse xs)) at ∙ ap (λ l. drop (length (reverse (drop n xs))) l) split ∙ drop-append_seam (reverse (drop n xs)) (reverse (take n xs)))

-- a list that is cut in two where it is seen from its end: what stood behind is the topmost, and the rest is left
module _ {A : Type 0} (xs : List A) (n count : ℕ) (cut : n + count ≡ length xs) where
  split : reverse xs ≡ reverse (drop n xs) ++ reverse (take n xs)
  split = ap (λ l. reverse l) (sym (take-append-drop n xs)) ∙ reverse-append (take n xs) (drop n xs)

  above : count ≡ length (reverse (drop n xs))
  above = omega (arith, cut, length-reverse (drop n xs), length-drop n xs)

  pub top_reversed : drop n xs ≡ reverse (take count (reverse xs))
  top_reversed = sym (ap (λ k. reverse (take k (reverse xs))) above ∙ ap (λ l. reverse (take (length (reverse (drop n xs))) l)) split ∙ ap (λ l. reverse l) (take-append_seam (reverse (drop n xs)) (reverse (take n xs))) ∙ reverse-reverse (drop n xs))

  pub left_reversed : reverse (take n xs) ≡ drop count (reverse xs)
  left_reversed = sym (ap (λ k. drop k (reverse xs)) above ∙ ap (λ l. drop (length (reverse (drop n xs))) l) split ∙ drop-append_seam (reverse (drop n xs)) (reverse (take n xs)))

-- the topmost two are replaced by one
pub two_replaced : {A : Type 0} (xs first second later : List A) (m n : ℕ) (x : A) → m ≡ length xs → 2 ≤ length xs → first ≡ take (m - 1) xs → n ≡ length first → second ≡ take (n - 1) first → later ≡ second ++ x ∷ [] → reverse later ≡ x ∷ drop 2 (reverse xs)
two_replaced xs first second later m n x p h f q s l =
    let shorter : length first ≡ length xs - 1 = ap length f ∙ length-take-le (m - 1) xs (omega arith) ∙ ap (λ k. k - 1) p in
    let at : length first - 1 ≡ length xs - 2 = omega arith in
    let one : first ≡ take (length xs - 1) xs = f ∙ ap (λ k. take (k - 1) xs) p in
    let two : second ≡ take (length xs - 2) xs = s ∙ ap (λ k. take (k - 1) first) q ∙ ap (λ k. take k first) at ∙ ap (λ l. take (length xs - 2) l) one ∙ take-take (length xs - 2) (length xs - 1) xs (omega arith) in
    ap (λ l. reverse l) (l ∙ ap (λ b. b ++ x ∷ []) two) ∙ reverse-append (take (length xs - 2) xs) (x ∷ []) ∙ ap (λ r. x ∷ r) (left_reversed xs (length xs - 2) 2 (omega arith))

-- what is left of a list from a place on
pub left_none : {A : Type 0} (xs : List A) (i : ℕ) → slice_get xs i ≡ None → drop i xs ≡ []
left_none [] i e = drop-nil i
left_none (x ∷ xs) zero e = absurd cc
left_none (x ∷ xs) (suc i) e = left_none xs i e

pub left_some : {A : Type 0} (xs : List A) (i : ℕ) (x : A) → slice_get xs i ≡ Some x → drop i xs ≡ x ∷ drop (i + 1) xs
left_some xs i x e = drop_more xs i x (slice_get_within xs i x e) ∙ ap (λ y. y ∷ drop (i + 1) xs) (get_or_from_slice_get xs i x x e)

pub set_same : {A : Type 0} (xs : List A) (i : ℕ) (x : A) → slice_get xs i ≡ Some x → slice_set xs i x ≡ xs
set_same [] i x e = absurd cc
set_same (y ∷ ys) zero x e = let same : x ≡ y = cc in ap (λ z. z ∷ ys) same
set_same (y ∷ ys) (suc i) x e = ap (λ l. y ∷ l) (set_same ys i x e)

apart : {A : Type 0} (x : A) (rest : List A) → [] ≡ x ∷ rest → ⊥
apart x rest e = cc

drop_suc : {A : Type 0} (xs : List A) (n : ℕ) (x : A) (rest : List A) → drop n xs ≡ x ∷ rest → drop (suc n) xs ≡ rest
drop_suc [] n x rest e = absurd (apart x rest (sym (drop-nil n) ∙ e))
drop_suc (y ∷ ys) zero x rest e = cc
drop_suc (y ∷ ys) (suc n) x rest e = drop_suc ys n x rest e

-- what is left when one more is taken
pub drop_one_more : {A : Type 0} (xs : List A) (n : ℕ) (x : A) (rest : List A) → drop n xs ≡ x ∷ rest → drop (n + 1) xs ≡ rest
drop_one_more xs n x rest e = ap (λ m. drop m xs) (add-one n) ∙ drop_suc xs n x rest e
