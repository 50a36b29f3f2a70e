-- The integers of a range, by their places.
use Rattle.std.proofs.Common.{◌≡◌, ℕ, zero, suc, ◌+◌, ◌<◌, ◌≤◌, [], ◌∷◌, ◌++◌, length, refl, ap, ◌∙◌, arith}
use Rattle.std.specs.Prelude.{slice_get, Some, None, ℤ}
use Rattle.mon_values.specs.declared.value.Value.{Int}
use Rattle.mon_values.specs.Ranges.{range_item}
use Rattle.mon_frames.specs.Items.{range_items}

pub length_range : (start step : ℤ) (place count : ℕ) → length (range_items start step place count) ≡ count
unfolding range_items
length_range start step place zero = refl
length_range start step place (suc count) = ap suc (length_range start step (place + 1) count)

pub range_at : (start step : ℤ) (place count k : ℕ) → k < count → slice_get (range_items start step place count) k ≡ Some (Int (range_item start step (place + k)))
unfolding range_items
range_at start step place zero k h = absurd (omega arith)
range_at start step place (suc count) zero h = let e : place ≡ place + 0 = omega arith in ap (λ p. Some (Int (range_item start step p))) e
range_at start step place (suc count) (suc k) h =
    let e : place + 1 + k ≡ place + suc k = omega arith in
    range_at start step (place + 1) count k (omega arith) ∙ ap (λ p. Some (Int (range_item start step p))) e

pub range_past : (start step : ℤ) (place count k : ℕ) → count ≤ k → slice_get (range_items start step place count) k ≡ None
unfolding range_items
range_past start step place zero k h = refl
range_past start step place (suc count) zero h = absurd (omega arith)
range_past start step place (suc count) (suc k) h = range_past start step (place + 1) count k (omega arith)

-- one more integer, behind the others
pub range_more : (start step : ℤ) (place count : ℕ) → range_items start step place (suc count) ≡ range_items start step place count ++ Int (range_item start step (place + count)) ∷ []
unfolding range_items
range_more start step place zero = let e : place ≡ place + 0 = omega arith in ap (λ p. Int (range_item start step p) ∷ []) e
range_more start step place (suc count) =
    let e : place + 1 + count ≡ place + suc count = omega arith in
    ap (λ l. Int (range_item start step place) ∷ l) (range_more start step (place + 1) count ∙ ap (λ p. range_items start step (place + 1) count ++ Int (range_item start step p) ∷ []) e)

-- from the first place on
pub item_within : (start step : ℤ) (count k : ℕ) → k < count → slice_get (range_items start step 0 count) k ≡ Some (Int (range_item start step k))
item_within start step count k h = let e : 0 + k ≡ k = omega arith in range_at start step 0 count k h ∙ ap (λ p. Some (Int (range_item start step p))) e

pub item_past : (start step : ℤ) (count k : ℕ) → count ≤ k → slice_get (range_items start step 0 count) k ≡ None
item_past start step count k h = range_past start step 0 count k h
