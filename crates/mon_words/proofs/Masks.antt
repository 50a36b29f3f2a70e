-- Bits that two numbers have in common, and masks of one live bit.
use Rattle.std.proofs.Common.{◌≡◌, ℕ, ◌-◌, ◌*◌, ◌%◌, ◌^◌, ◌<◌, ◌≤◌, min, Bool, true, false, ◌&&◌, eqb, refl, sym, ap, ◌∙◌, arith, bit_and, ne_eqb}
use mathlib.Core.Logic.{dite}
use native.Mathlib.Decide.{ℕ_discrete}
use Rattle.std.specs.Int.{bit_at}
use Rattle.std.proofs.lemmas.Nat.Bits.{bit_at_and, bit_at-zero}
use Rattle.std.proofs.Math.Pow.{pow_mono}
use Rattle.mon_events.specs.Events.{place, slot_number}
use Rattle.mon_events.specs.declared.event.Slot.{Slot}
use Rattle.mon_words.specs.Words.{is_bit, mask_of, Quiet}
use Rattle.mon_words.specs.declared.history.Cell.{Cell}

none : (b : Bool) → (b && false) ≡ false
none true = refl
none false = refl

not_both : (a b : ℕ) → min a b ≡ 0 → (eqb a 1 && eqb b 1) ≡ false
not_both a b e = dite (ℕ_discrete a 1)
    (λ is. ap (λ x. eqb a 1 && x) (ne_eqb b 1 (λ j. omega arith)) ∙ none (eqb a 1))
    (λ ne. ap (λ x. x && eqb b 1) (ne_eqb a 1 ne))

none_common : (a b k : ℕ) → bit_and a b ≡ 0 → (is_bit a k && is_bit b k) ≡ false
none_common a b k e = not_both (bit_at a k) (bit_at b k) (sym (bit_at_and a b k) ∙ (ap (λ z. bit_at z k) e ∙ bit_at-zero k))

pub quiet : (c : Cell) → bit_and c.want c.live ≡ 0 → Quiet c
quiet c e = λ slot tool low. none_common c.want c.live (place slot tool) e

slot_low : (slot : Slot) → slot_number slot ≤ 3
slot_low Slot.Line = omega arith
slot_low Slot.Instruction = omega arith
slot_low Slot.Main = omega arith
slot_low Slot.Spare = omega arith

pub place_low : (slot : Slot) (tool : ℕ) → tool < 6 → place slot tool < 24
place_low slot tool h = let l = slot_low slot in omega arith

pub shifted : (k : ℕ) → k < 24 → 18446744073709551615 - 1099511627776 * 2 ^ k % 18446744073709551616 ≡ mask_of k
shifted k h = let l : 2 ^ k ≤ 2 ^ 23 = pow_mono {i = k} {j = 23} (omega arith) in let n : 2 ^ 23 ≡ 8388608 = refl in omega arith
