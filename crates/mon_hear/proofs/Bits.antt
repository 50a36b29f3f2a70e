-- Bits of words, and of sets of tools.
use Rattle.std.proofs.Common.{◌≡◌, ℕ, zero, suc, ◌+◌, ◌*◌, ◌/◌, ◌%◌, ◌^◌, ◌<◌, ◌≤◌, min, max, Bool, true, false, ◌&&◌, ◌||◌, eqb, cond, List, [], ◌∷◌, ◌++◌, length, take, get_or, refl, sym, ap, ◌∙◌, subst, arith, bit_and, bit_or}
use mathlib.Core.Logic.{dite}
use native.Mathlib.Decide.{ℕ_discrete}
use Rattle.std.specs.Int.{bit_at}
use Rattle.std.specs.Int.{w8}
use Rattle.std.proofs.lemmas.Nat.{pow-add, div-add-mod'}
use Rattle.std.proofs.lemmas.Nat.Bits.{bit_at_cat_low, bit_at_and, bit_at_or, bit_at-lt, bit_at-zero, bit_at_set_same, bit_at_set_other}
use Rattle.std.proofs.Math.Nat.{div-div-eq-div-mul}
use Rattle.mon_events.specs.Events.{place, slot_number}
use Rattle.mon_events.specs.declared.event.Slot.{Slot}
use Rattle.mon_words.specs.Words.{cell_of, is_bit, is_enabled}
use Rattle.mon_recorders.specs.declared.happening.Happening.{Happening}
use Rattle.mon_recorders.specs.Boards.{is_enabled_by}
use Rattle.mon_hear.specs.Words.{any_enabled}
use Rattle.mon_hear.proofs.Steps.{take_item}

bit_higher : (n j k : ℕ) → bit_at (n / 2 ^ j) k ≡ bit_at n (j + k)
bit_higher n j k = ap (λ (z : ℕ). z % 2) (div-div-eq-div-mul n (2 ^ j) (2 ^ k)) ∙ ap (λ (z : ℕ). n / z % 2) (sym (pow-add 2 j k))

bit_within : (m k i : ℕ) → i < k → bit_at (m % 2 ^ k) i ≡ bit_at m i
bit_within m k i low = sym (bit_at_cat_low (m / 2 ^ k) k (m % 2 ^ k) i low) ∙ ap (λ (z : ℕ). bit_at z i) (div-add-mod' m (2 ^ k))

pub six_bits : (n k t : ℕ) → t < 6 → is_bit (n / 2 ^ k % 64) t ≡ is_bit n (k + t)
six_bits n k t h = ap (λ (z : ℕ). eqb z 1) (bit_within (n / 2 ^ k) 6 t h ∙ bit_higher n k t)

both : (x y : ℕ) → x < 2 → y < 2 → eqb (min x y) 1 ≡ (eqb x 1 && eqb y 1)
both zero zero h k = refl
both zero (suc zero) h k = refl
both (suc zero) zero h k = refl
both (suc zero) (suc zero) h k = refl
both zero (suc (suc y)) h k = absurd (omega (arith, k))
both (suc zero) (suc (suc y)) h k = absurd (omega (arith, k))
both (suc (suc x)) y h k = absurd (omega (arith, h))

either : (x y : ℕ) → x < 2 → y < 2 → eqb (max x y) 1 ≡ (eqb x 1 || eqb y 1)
either zero zero h k = refl
either zero (suc zero) h k = refl
either (suc zero) zero h k = refl
either (suc zero) (suc zero) h k = refl
either zero (suc (suc y)) h k = absurd (omega (arith, k))
either (suc zero) (suc (suc y)) h k = absurd (omega (arith, k))
either (suc (suc x)) y h k = absurd (omega (arith, h))

and_bits : (a b k : ℕ) → is_bit (bit_and a b) k ≡ (is_bit a k && is_bit b k)
and_bits a b k = ap (λ (z : ℕ). eqb z 1) (bit_at_and a b k) ∙ both (bit_at a k) (bit_at b k) (bit_at-lt a k) (bit_at-lt b k)

or_bits : (a b k : ℕ) → is_bit (bit_or a b) k ≡ (is_bit a k || is_bit b k)
or_bits a b k = ap (λ (z : ℕ). eqb z 1) (bit_at_or a b k) ∙ either (bit_at a k) (bit_at b k) (bit_at-lt a k) (bit_at-lt b k)

pub slot_bits : (word : ℕ) (s : Slot) (t : ℕ) → is_bit (bit_and (word / 65536 % 16777216) (word / 1099511627776)) (6 * slot_number s + t) ≡ is_enabled (cell_of word) s t
slot_bits word s t = and_bits (word / 65536 % 16777216) (word / 1099511627776) (place s t)

pub no_bit : (k : ℕ) → is_bit 0 k ≡ false
no_bit k = ap (λ (z : ℕ). eqb z 1) (bit_at-zero k)

-- the tools below k are those of a test, and there are no others
pub record Chosen (P : ℕ → Bool) (k m : ℕ) : Type 0 where
  pub below : (t : ℕ) → t < k → is_bit m t ≡ P t
  pub above : (t : ℕ) → k ≤ t → is_bit m t ≡ false

pub chosen_none : (P : ℕ → Bool) → Chosen P 0 0
chosen_none P = record {
  below = λ t h. absurd (omega (arith, h));
  above = λ t h. no_bit t;
}

chosen_more : (P : ℕ → Bool) (k m : ℕ) → k < 6 → Chosen P k m → P k ≡ true → Chosen P (k + 1) (bit_or m (1 * 2 ^ k % 256))
chosen_more P k m h c p = record {
  below = λ t l. dite (ℕ_discrete t k)
      (λ is. ap (λ j. is_bit (bit_or m (1 * 2 ^ k % 256)) j) is ∙ (ap (λ (z : ℕ). eqb z 1) (bit_at_set_same w8 m k (omega (arith, h))) ∙ (sym p ∙ ap P (sym is))))
      (λ ne. ap (λ (z : ℕ). eqb z 1) (bit_at_set_other w8 m k (omega (arith, h)) t ne) ∙ c.below t (omega (arith, l, ne)));
  above = λ t l. ap (λ (z : ℕ). eqb z 1) (bit_at_set_other w8 m k (omega (arith, h)) t (λ is. absurd (omega (arith, l, is)))) ∙ c.above t (omega (arith, l));
}

chosen_not : (P : ℕ → Bool) (k m : ℕ) → Chosen P k m → P k ≡ false → Chosen P (k + 1) m
chosen_not P k m c p = record {
  below = λ t l. dite (ℕ_discrete t k)
      (λ is. ap (λ j. is_bit m j) is ∙ (c.above k (omega arith) ∙ (sym p ∙ ap P (sym is))))
      (λ ne. c.below t (omega (arith, l, ne)));
  above = λ t l. c.above t (omega (arith, l));
}

chosen_next : (P : ℕ → Bool) (k m : ℕ) (b : Bool) → k < 6 → Chosen P k m → P k ≡ b → Chosen P (k + 1) (cond b (bit_or m (1 * 2 ^ k % 256)) m)
chosen_next P k m true h c p = chosen_more P k m h c p
chosen_next P k m false h c p = chosen_not P k m c p

pub chosen_with : (P : ℕ → Bool) (k m n : ℕ) (b : Bool) → k < 6 → Chosen P k m → P k ≡ b → n ≡ cond b (bit_or m (1 * 2 ^ k % 256)) m → Chosen P (k + 1) n
chosen_with P k m n b h c p is = subst (Chosen P (k + 1)) (sym is) (chosen_next P k m b h c p)

or_assoc : (x y z : Bool) → ((x || y) || z) ≡ (x || (y || z))
or_assoc true y z = refl
or_assoc false y z = refl

or_false : (x : Bool) → (x || false) ≡ x
or_false true = refl
or_false false = refl

any_append : (word global t : ℕ) (xs : List Happening) (e : Happening) → any_enabled word global t (xs ++ e ∷ []) ≡ (any_enabled word global t xs || is_enabled_by (λ l. cell_of word) global e.kind t e.event)
any_append word global t [] e = or_false (is_enabled_by (λ l. cell_of word) global e.kind t e.event)
any_append word global t (x ∷ xs) e =
    ap (λ z. is_enabled_by (λ l. cell_of word) global x.kind t x.event || z) (any_append word global t xs e)
    ∙ sym (or_assoc (is_enabled_by (λ l. cell_of word) global x.kind t x.event) (any_enabled word global t xs) (is_enabled_by (λ l. cell_of word) global e.kind t e.event))

-- one more event
pub asking_more : (word global t m n i : ℕ) (es : List Happening) (e : Happening) → i < length es → e ≡ get_or es i e → is_bit m t ≡ any_enabled word global t (take i es)
    → is_bit n t ≡ is_enabled_by (λ l. cell_of word) global e.kind t e.event → is_bit (bit_or m n) t ≡ any_enabled word global t (take (i + 1) es)
asking_more word global t m n i es e h is a b =
    or_bits m n t ∙ ((λ j. a j || b j) ∙ (sym (any_append word global t (take i es) e) ∙ ap (any_enabled word global t) (sym (take_item es i e h is))))
