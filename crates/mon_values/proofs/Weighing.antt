-- Weights and depths of lists that are joined or repeated.
use Rattle.std.proofs.Common.{◌≡◌, ℕ, zero, suc, ◌+◌, ◌*◌, ◌<◌, ◌≤◌, List, [], ◌∷◌, ◌++◌, length, map, max, refl, ap, sym, ◌∙◌, arith, append_assoc, length-append, add-one, append-nil}
use Rattle.std.specs.Prelude.{sum}
use Rattle.std.specs.List.{repeat}
use Rattle.std.proofs.lemmas.List.{map-append}
use Rattle.std.proofs.lemmas.List.Sums.{sum-map, sum_by-append}
use Rattle.std.proofs.Math.Nat.{suc-mul}
use Rattle.mon_values.specs.Weights.{greatest}

pub repeat_more : {A : Type 0} (n : ℕ) (xs : List A) → repeat n xs ++ xs ≡ repeat (n + 1) xs
repeat_more zero xs = sym (append-nil xs)
repeat_more (suc n) xs = append_assoc xs (repeat n xs) xs ∙ ap (λ l. xs ++ l) (repeat_more n xs ∙ ap (λ k. repeat k xs) (add-one n)) ∙ ap (λ k. repeat k xs) (sym (add-one (suc n)))

pub length_repeat : {A : Type 0} (n : ℕ) (xs : List A) → length (repeat n xs) ≡ n * length xs
length_repeat zero xs = omega arith
length_repeat (suc n) xs = omega (arith, length-append xs (repeat n xs), length_repeat n xs, suc-mul n (length xs))

pub repeat_none : {A : Type 0} (n : ℕ) (xs : List A) → xs ≡ [] → repeat n xs ≡ []
repeat_none zero xs e = refl
repeat_none (suc n) xs e = ap (λ l. l ++ repeat n xs) e ∙ repeat_none n xs e

pub sum_repeat : {A : Type 0} (f : A → ℕ) (n : ℕ) (xs : List A) → sum (map f (repeat n xs)) ≡ n * sum (map f xs)
sum_repeat f zero xs = omega arith
sum_repeat f (suc n) xs =
    sum-map f (xs ++ repeat n xs)
    ∙ sum_by-append f xs (repeat n xs)
    ∙ omega (arith, sum-map f xs, sum-map f (repeat n xs), sum_repeat f n xs, suc-mul n (sum (map f xs)))

pub product_above : (n w : ℕ) → 0 < n → w ≤ n * w
product_above zero w h = absurd (omega arith)
product_above (suc n) w h = omega (arith, suc-mul n w)

pub greatest_append : (xs ys : List ℕ) → greatest (xs ++ ys) ≡ max (greatest xs) (greatest ys)
greatest_append [] ys = omega arith
greatest_append (x ∷ xs) ys = omega (arith, greatest_append xs ys)

pub greatest_map_append : {A : Type 0} (f : A → ℕ) (xs ys : List A) → greatest (map f (xs ++ ys)) ≡ max (greatest (map f xs)) (greatest (map f ys))
greatest_map_append f xs ys = ap greatest (map-append f xs ys) ∙ greatest_append (map f xs) (map f ys)

greatest_suc : {A : Type 0} (f : A → ℕ) (n : ℕ) (xs : List A) → greatest (map f (repeat (suc n) xs)) ≡ greatest (map f xs)
greatest_suc f zero xs = ap (λ l. greatest (map f l)) (append-nil xs)
greatest_suc f (suc n) xs = omega (arith, greatest_map_append f xs (repeat (suc n) xs), greatest_suc f n xs)

pub greatest_repeat : {A : Type 0} (f : A → ℕ) (n : ℕ) (xs : List A) → 0 < n → greatest (map f (repeat n xs)) ≡ greatest (map f xs)
greatest_repeat f zero xs h = absurd (omega arith)
greatest_repeat f (suc n) xs h = greatest_suc f n xs

pub sum_append : {A : Type 0} (f : A → ℕ) (xs ys : List A) → sum (map f (xs ++ ys)) ≡ sum (map f xs) + sum (map f ys)
sum_append f xs ys = sum-map f (xs ++ ys) ∙ sum_by-append f xs ys ∙ omega (arith, sum-map f xs, sum-map f ys)
