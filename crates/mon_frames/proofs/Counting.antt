-- The items of a value that are counted, and what is left of them.
use Rattle.std.proofs.Common.{◌≡◌, ℕ, zero, suc, ◌<◌, ◌≤◌, List, [], ◌∷◌, length, drop, refl, ap, ◌∙◌, arith}
use Rattle.std.specs.Prelude.{Option, Some, None, slice_get, ℤ, MatchOption}
use Rattle.std.proofs.Math.Seq.{drop-nil}
use Rattle.mon_values.specs.declared.value.Value.{Value, Int}
use Rattle.mon_values.specs.declared.value.Value.TheVariants.{None as NoneValue}
use Rattle.mon_values.specs.declared.value.Value.TheViews.{outs-None}
use Rattle.mon_frames.specs.Items.{items_of, items_at, or_none, count_of, integers_of, top_integers}

pub counted_some : (items : Option (List Value)) (count : ℕ) → count_of items ≡ Some count → Some (or_none items) ≡ items
counted_some None count e = absurd cc
counted_some (Some items) count e = refl

pub counted_none : (items : Option (List Value)) → count_of items ≡ None → items ≡ None
counted_none None e = refl
counted_none (Some items) e = absurd cc

pub counted_length : (items : Option (List Value)) (count : ℕ) → count_of items ≡ Some count → count ≡ length (or_none items)
counted_length None count e = absurd cc
counted_length (Some items) count e = cc

past : (items : List Value) (place : ℕ) → length items ≤ place → slice_get items place ≡ None
past [] place h = refl
past (x ∷ items) zero h = absurd (omega arith)
past (x ∷ items) (suc place) h = past items place (omega arith)

pub none_past : (items : Option (List Value)) (count place : ℕ) → count_of items ≡ Some count → count ≤ place → slice_get (or_none items) place ≡ None
none_past items count place e h = past (or_none items) place (omega (arith, counted_length items count e))

pub none_uncounted : (items : Option (List Value)) (place : ℕ) → count_of items ≡ None → slice_get (or_none items) place ≡ None
none_uncounted None place e = refl
none_uncounted (Some items) place e = absurd cc

-- the value None has no items
pub none_of_none : or_none (items_of NoneValue) ≡ []
none_of_none = ap (λ v. or_none (items_at v)) outs-None

pub none_dropped : (place : ℕ) → drop place (or_none (items_of NoneValue)) ≡ []
none_dropped place = ap (λ l. drop place l) none_of_none ∙ drop-nil place

-- the topmost two, as integers
pub few_integers : (stack : List Value) → length stack < 2 → top_integers stack ≡ None
few_integers [] h = refl
few_integers (b ∷ []) h = refl
few_integers (b ∷ a ∷ rest) h = absurd (omega arith)

pub on_top : (r : Option (ℤ × ℤ)) (stack : List Value) (a b : Value) → stack ≡ b ∷ a ∷ drop 2 stack → MatchOption r (integers_of a b ≡ None) (λ two. (a ≡ Int two.0) × (b ≡ Int two.1))
    → MatchOption r (top_integers stack ≡ None) (λ two. stack ≡ Int two.1 ∷ Int two.0 ∷ drop 2 stack)
on_top None stack a b e h = ap top_integers e ∙ h
on_top (Some two) stack a b e h = e ∙ ap (λ (v : Value). v ∷ a ∷ drop 2 stack) h.1 ∙ ap (λ (v : Value). Int two.1 ∷ v ∷ drop 2 stack) h.0
