-- Operands, which stand with their top last.
use Rattle.std.proofs.Common.{◌≡◌, ℕ, ◌-◌, ◌<◌, List, [], ◌∷◌, length, take, get_or, reverse, min, sym, ap, ◌∙◌, arith}
use Rattle.std.specs.Prelude.{slice_get, Some, None}
use Rattle.std.proofs.lemmas.List.{get_or-reverse, length-reverse, get_or-take, length-take}
use Rattle.std.proofs.lemmas.Option.{slice_get-get_or, slice_get_past}

below_of : {A : Type 0} (xs : List A) (k : ℕ) (d : A) → k < length xs → slice_get xs (length xs - 1 - k) ≡ slice_get (reverse xs) k
below_of xs k d h =
    slice_get-get_or xs (length xs - 1 - k) d (omega arith)
    ∙ ap Some (sym (get_or-reverse xs k d h))
    ∙ sym (slice_get-get_or (reverse xs) k d (omega (arith, length-reverse xs)))

-- the value below k others
pub below_is : {A : Type 0} (xs : List A) (k : ℕ) → k < length xs → slice_get xs (length xs - 1 - k) ≡ slice_get (reverse xs) k
below_is [] k h = absurd (omega (arith, h))
below_is (x ∷ xs) k h = below_of (x ∷ xs) k x h

first_of : {A : Type 0} (n : ℕ) (xs : List A) (d : A) → 0 < min n (length xs) → slice_get xs (min n (length xs) - 1) ≡ slice_get (reverse (take n xs)) 0
first_of n xs d h =
    let count : length (take n xs) ≡ min n (length xs) = length-take n xs in
    let back : length (take n xs) - 1 - 0 ≡ min n (length xs) - 1 = omega (arith, count) in
    slice_get-get_or xs (min n (length xs) - 1) d (omega (arith, h))
    ∙ ap Some (sym (get_or-take n xs (min n (length xs) - 1) d (omega (arith, h))))
    ∙ ap (λ i. Some (get_or (take n xs) i d)) (sym back)
    ∙ ap Some (sym (get_or-reverse (take n xs) 0 d (omega (arith, count, h))))
    ∙ sym (slice_get-get_or (reverse (take n xs)) 0 d (omega (arith, count, h, length-reverse (take n xs))))

-- the lowest of the topmost n
pub lowest_is : {A : Type 0} (n : ℕ) (xs : List A) → 0 < min n (length xs) → slice_get xs (min n (length xs) - 1) ≡ slice_get (reverse (take n xs)) 0
lowest_is n [] h = absurd (omega (arith, h))
lowest_is n (x ∷ xs) h = first_of n (x ∷ xs) x h

pub none_lowest : {A : Type 0} (n : ℕ) (xs : List A) → min n (length xs) ≡ 0 → slice_get (reverse (take n xs)) 0 ≡ None
none_lowest n xs h = slice_get_past (reverse (take n xs)) 0 (omega (arith, length-reverse (take n xs), length-take n xs, h))
