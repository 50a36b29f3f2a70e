-- The weights of the items of texts and ranges, and the answers of tuples that are made of them.
use Rattle.std.proofs.Common.{◌≡◌, ℕ, zero, suc, ◌+◌, ◌<◌, ◌≤◌, List, [], ◌∷◌, length, map, Bool, true, false, Option, Some, None, Result, Ok, Err, refl, ap, sym, subst, ◌∙◌, arith}
use Rattle.std.specs.Prelude.{sum, nat_le, ℤ}
use Rattle.std.specs.List.{sum_by}
use Rattle.std.proofs.lemmas.List.Sums.{sum-map, sum_by-cons}
use Rattle.mon_values.specs.declared.value.Value.{Value, Int, Tuple}
use Rattle.mon_values.specs.declared.value.Value.TheOpen.{Value-F}
use Rattle.mon_values.specs.declared.value.Value.TheVariants.{rolls-Int}
use Rattle.mon_values.specs.declared.value.Value.TheFolds.{fold-roll-Value}
use Rattle.mon_values.specs.declared.fault.Trouble.{Trouble}
use Rattle.mon_values.specs.Ranges.{range_item}
use Rattle.mon_values.specs.Troubles.{too_large, nested_too_deeply}
use Rattle.mon_values.specs.Weights.{weight, depth, weight_step, exc_weight_step, depth_step, exc_depth_step, greatest, made, left_of}
use Rattle.mon_values.proofs.Making.{weight_text, depth_text, tuple_made, tuple_heavy, tuple_deep, left_some, left_none, test_true, test_false}
use Rattle.mon_frames.specs.Items.{one_char, range_items}
use Rattle.mon_builtins.specs.Answers.{AnswersValue}
use Rattle.mon_builtins.specs.declared.given.Refusal.TheVariants as refusal

weight_int : (n : ℤ) → weight (Int n) ≡ 1
weight_int n = ap weight (sym (rolls-Int n)) ∙ fold-roll-Value ℕ ℕ weight_step exc_weight_step (Value-F.Int n)

depth_int : (n : ℤ) → depth (Int n) ≡ 0
depth_int n = ap depth (sym (rolls-Int n)) ∙ fold-roll-Value ℕ ℕ depth_step exc_depth_step (Value-F.Int n)

range_weighs : (start step : ℤ) (place count : ℕ) → sum_by weight (range_items start step place count) ≡ count
unfolding range_items
range_weighs start step place zero = refl
range_weighs start step place (suc count) =
    omega (arith, sum_by-cons weight (Int (range_item start step place)) (range_items start step (place + 1) count), weight_int (range_item start step place), range_weighs start step (place + 1) count)

range_nests : (start step : ℤ) (place count : ℕ) → greatest (map depth (range_items start step place count)) ≡ 0
unfolding range_items
range_nests start step place zero = refl
range_nests start step place (suc count) = omega (arith, depth_int (range_item start step place), range_nests start step (place + 1) count)

pub range_made : (start step : ℤ) (count : ℕ) → count ≤ 4095 → made (Tuple (range_items start step 0 count)) ≡ Ok (Tuple (range_items start step 0 count))
range_made start step count h = tuple_made (range_items start step 0 count) (omega (arith, sum-map weight (range_items start step 0 count), range_weighs start step 0 count)) (omega (arith, range_nests start step 0 count))

pub range_heavy : (start step : ℤ) (count : ℕ) → 4095 < count → made (Tuple (range_items start step 0 count)) ≡ Err too_large
range_heavy start step count h = tuple_heavy (range_items start step 0 count) (omega (arith, sum-map weight (range_items start step 0 count), range_weighs start step 0 count))

-- the answer where the due one is known
pub refused : {due : Result Value Trouble} {t : Trouble} → due ≡ Err t → AnswersValue (Err (refusal.Trouble t)) due
refused {due} {t} e = subst (λ d. AnswersValue (Err (refusal.Trouble t)) d) (sym e) refl

pub given : {due : Result Value Trouble} {v w : Value} → due ≡ Ok w → v ≡ w → AnswersValue (Ok v) due
given {due} {v} {w} e h = subst (λ d. AnswersValue (Ok v) d) (sym e) h
