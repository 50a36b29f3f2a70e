-- Bits of numbers that are made bit by bit, and places of bits.
use Rattle.std.proofs.Common.{◌≡◌, ◌≢◌, ℕ, zero, suc, ◌+◌, ◌-◌, ◌*◌, ◌/◌, ◌%◌, ◌^◌, ◌<◌, ◌≤◌, Bool, true, false, not, ◌&&◌, cond, eqb, ltb, sym, refl, ap, ◌∙◌, arith, eq-eqb, ne_eqb, eqb-true, lt-ltb, le-ltb}
use Rattle.std.specs.Int.{bit_at}
use Rattle.std.proofs.lemmas.Nat.{pow-add, shr_split, pow_pos}
use Rattle.std.proofs.lemmas.Nat.Bits.{bit_at_cat_low, bit_at_cat_high, bit_at-suc, bit_at_lowest}
use Rattle.std.proofs.Math.Nat.{mod-lt}
use mathlib.Core.Logic.{dite}
use native.Mathlib.Decide.{ℕ_discrete, dec_le}
use Rattle.mon_events.specs.Events.{place, slot_number}
use Rattle.mon_events.specs.Sets.{packed, slot_of, tool_of, is_bit}
use Rattle.mon_events.specs.declared.event.Slot.{Slot}

pub same_bool : (a b : Bool) → (a ≡ true → b ≡ true) → (b ≡ true → a ≡ true) → a ≡ b
same_bool true b f g = sym (f refl)
same_bool false true f g = g refl
same_bool false false f g = refl

one : Bool → ℕ
one true = 1
one false = 0

one_is : (b : Bool) (k : ℕ) → cond b (2 ^ k) 0 ≡ cond b 1 0 * 2 ^ k
one_is true k = omega arith
one_is false k = omega arith

one_bit : (b : Bool) → eqb (bit_at (cond b 1 0) 0) 1 ≡ b
one_bit true = refl
one_bit false = refl

step_lt : (b : Bool) (P Q x : ℕ) → x < P → Q ≡ 2 * P → x + cond b P 0 < Q
step_lt true P Q x h e = omega arith
step_lt false P Q x h e = omega arith

pub packed_lt : (f : ℕ → Bool) (n : ℕ) → packed f n < 2 ^ n
unfolding packed
packed_lt f zero = omega arith
packed_lt f (suc n) = step_lt (f n) (2 ^ n) (2 ^ suc n) (packed f n) (packed_lt f n) (let e : 2 ^ (n + 1) ≡ 2 ^ n * 2 ^ 1 = pow-add 2 n 1 in omega arith)

pub packed_bit : (f : ℕ → Bool) (n k : ℕ) → k < n → is_bit (packed f n) k ≡ f k
unfolding packed
packed_bit f zero k h = absurd (omega arith)
packed_bit f (suc n) k h =
    let a : ℕ = cond (f n) 1 0 in
    let e : packed f n + cond (f n) (2 ^ n) 0 ≡ a * 2 ^ n + packed f n = let w = one_is (f n) n in omega arith in
    dite (ℕ_discrete k n)
    (λ is. let l = packed_lt f n in
    let b : bit_at (a * 2 ^ n + packed f n) k ≡ bit_at a (k - n) = bit_at_cat_high a n (packed f n) k l (omega arith) in
    let z : k - n ≡ 0 = omega arith in
    ap (λ x. eqb (bit_at x k) 1) e ∙ (ap (λ x. eqb x 1) b ∙ (ap (λ x. eqb (bit_at a x) 1) z ∙ (one_bit (f n) ∙ ap f (sym is)))))
    (λ ne. let low : k < n = omega arith in
    ap (λ x. eqb (bit_at x k) 1) e ∙ (ap (λ x. eqb x 1) (bit_at_cat_low a n (packed f n) k low) ∙ packed_bit f n k low))

-- a number without its bit k
lowered : (h b P r x : ℕ) → b ≤ 1 → x ≡ (2 * h + b) * P + r → x - b * P ≡ 2 * h * P + r
lowered h zero P r x l e = grind arith
lowered h (suc zero) P r x l e = let d : (2 * h + 1) * P ≡ 2 * h * P + P = grind arith in omega arith
lowered h (suc (suc b)) P r x l e = absurd (omega arith)

cleared_at : (x k : ℕ) → x - x / 2 ^ k % 2 * 2 ^ k ≡ 2 * (x / 2 ^ k / 2) * 2 ^ k + x % 2 ^ k
cleared_at x k = let q : ℕ = x / 2 ^ k in
    let e : 2 * (q / 2) + q % 2 ≡ q = omega arith in
    let s : q * 2 ^ k + x % 2 ^ k ≡ x = shr_split x k in
    lowered (q / 2) (q % 2) (2 ^ k) (x % 2 ^ k) x (omega arith) (sym s ∙ ap (λ z. z * 2 ^ k + x % 2 ^ k) (sym e))

-- of a number without its bit k the other bits are as before
pub cleared_bit : (x k j : ℕ) → is_bit (x - x / 2 ^ k % 2 * 2 ^ k) j ≡ is_bit x j && not (eqb j k)
cleared_bit x k j =
    let q : ℕ = x / 2 ^ k in let r : ℕ = x % 2 ^ k in let h : ℕ = 2 * (q / 2) in
    let s : q * 2 ^ k + r ≡ x = shr_split x k in
    let l : r < 2 ^ k = mod-lt x (pow_pos k) in
    let kept : j ≢ k → bit_at (h * 2 ^ k + r) j ≡ bit_at x j = λ ne. dite (dec_le k j)
    (λ up. let a = bit_at_cat_high h k r j l up in let b = bit_at_cat_high q k r j l up in
    let i : ℕ = j - k - 1 in let ji : j - k ≡ suc i = omega arith in
    let half : h / 2 ≡ q / 2 = omega arith in
    a ∙ (ap (bit_at h) ji ∙ (bit_at-suc h i ∙ (ap (λ z. bit_at z i) half ∙ (sym (bit_at-suc q i) ∙ (ap (bit_at q) (sym ji) ∙ (sym b ∙ ap (λ z. bit_at z j) s)))))))
    (λ down. let low : j < k = omega arith in bit_at_cat_low h k r j low ∙ (sym (bit_at_cat_low q k r j low) ∙ ap (λ z. bit_at z j) s)) in
    ap (λ z. eqb (bit_at z j) 1) (cleared_at x k) ∙ dite (ℕ_discrete j k)
    (λ is. let b = bit_at_cat_high h k r j l (omega arith) in let z : j - k ≡ 0 = omega arith in
    let n : bit_at h 0 ≡ 0 = bit_at_lowest h ∙ (let e : h % 2 ≡ 0 = omega arith in e) in
    ap (λ y. eqb y 1) (b ∙ (ap (bit_at h) z ∙ n)) ∙ sym (ap (λ y. is_bit x j && not y) (eq-eqb j k is) ∙ none (is_bit x j)))
    (λ ne. ap (λ y. eqb y 1) (kept ne) ∙ sym (ap (λ y. is_bit x j && not y) (ne_eqb j k ne) ∙ all (is_bit x j)))
  where
    none : (b : Bool) → (b && false) ≡ false
    none true = refl
    none false = refl

    all : (b : Bool) → (b && true) ≡ b
    all true = refl
    all false = refl

-- the slot and the tool of a place
at_line : (k : ℕ) → k < 6 → slot_of k ≡ Slot.Line
at_line k h = ap (λ b. cond b Slot.Line (cond (ltb k 12) Slot.Instruction (cond (ltb k 18) Slot.Main Slot.Spare))) (lt-ltb k 6 h)

at_instruction : (k : ℕ) → 6 ≤ k → k < 12 → slot_of k ≡ Slot.Instruction
at_instruction k g h = ap (λ b. cond b Slot.Line (cond (ltb k 12) Slot.Instruction (cond (ltb k 18) Slot.Main Slot.Spare))) (le-ltb k 6 g) ∙ ap (λ b. cond b Slot.Instruction (cond (ltb k 18) Slot.Main Slot.Spare)) (lt-ltb k 12 h)

at_main : (k : ℕ) → 12 ≤ k → k < 18 → slot_of k ≡ Slot.Main
at_main k g h = ap (λ b. cond b Slot.Line (cond (ltb k 12) Slot.Instruction (cond (ltb k 18) Slot.Main Slot.Spare))) (le-ltb k 6 (omega arith)) ∙ (ap (λ b. cond b Slot.Instruction (cond (ltb k 18) Slot.Main Slot.Spare)) (le-ltb k 12 g) ∙ ap (λ b. cond b Slot.Main Slot.Spare) (lt-ltb k 18 h))

at_spare : (k : ℕ) → 18 ≤ k → slot_of k ≡ Slot.Spare
at_spare k g = ap (λ b. cond b Slot.Line (cond (ltb k 12) Slot.Instruction (cond (ltb k 18) Slot.Main Slot.Spare))) (le-ltb k 6 (omega arith)) ∙ (ap (λ b. cond b Slot.Instruction (cond (ltb k 18) Slot.Main Slot.Spare)) (le-ltb k 12 (omega arith)) ∙ ap (λ b. cond b Slot.Main Slot.Spare) (le-ltb k 18 g))

slot_low : (k : ℕ) → 6 * slot_number (slot_of k) ≤ k
slot_low k = dite (dec_le 18 k)
    (λ a. let e = ap slot_number (at_spare k a) in omega arith)
    (λ a. dite (dec_le 12 k)
    (λ b. let e = ap slot_number (at_main k b (omega arith)) in omega arith)
    (λ b. dite (dec_le 6 k)
    (λ c. let e = ap slot_number (at_instruction k c (omega arith)) in omega arith)
    (λ c. let e = ap slot_number (at_line k (omega arith)) in omega arith)))

pub slot_back : (s : Slot) (t k : ℕ) → t < 6 → place s t ≡ k → slot_of k ≡ s
slot_back Slot.Line t k h e = at_line k (omega arith)
slot_back Slot.Instruction t k h e = at_instruction k (omega arith) (omega arith)
slot_back Slot.Main t k h e = at_main k (omega arith) (omega arith)
slot_back Slot.Spare t k h e = at_spare k (omega arith)

both : (a b : Bool) → (a && b) ≡ true → (a ≡ true) × (b ≡ true)
both true b e = (refl, e)
both false b e = absurd (cc)

from_both : (a b : Bool) → a ≡ true → b ≡ true → (a && b) ≡ true
from_both a b e f = ap (λ z. z && b) e ∙ f

-- a slot and a tool are those of the bit k exactly where their place is k
pub same_spot : (s : Slot) (t k : ℕ) → t < 6 → (eqb (slot_number s) (slot_number (slot_of k)) && eqb t (tool_of k)) ≡ eqb (place s t) k
same_spot s t k h = same_bool (eqb (slot_number s) (slot_number (slot_of k)) && eqb t (tool_of k)) (eqb (place s t) k)
    (λ e. let p = both (eqb (slot_number s) (slot_number (slot_of k))) (eqb t (tool_of k)) e in
    let a : slot_number s ≡ slot_number (slot_of k) = eqb-true (slot_number s) (slot_number (slot_of k)) p.0 in
    let b : t ≡ k - 6 * slot_number (slot_of k) = eqb-true t (tool_of k) p.1 in
    let c = slot_low k in eq-eqb (place s t) k (omega arith))
    (λ e. let d : 6 * slot_number s + t ≡ k = eqb-true (place s t) k e in
    let a : slot_number (slot_of k) ≡ slot_number s = ap slot_number (slot_back s t k h d) in
    from_both (eqb (slot_number s) (slot_number (slot_of k))) (eqb t (tool_of k)) (eq-eqb (slot_number s) (slot_number (slot_of k)) (sym a)) (eq-eqb t (tool_of k) (omega arith)))

pub packed_more : (f : ℕ → Bool) (n m : ℕ) → m ≡ suc n → packed f m ≡ packed f n + cond (f n) (2 ^ n) 0
unfolding packed
packed_more f n m e = ap (packed f) e

pub packed_none : (f : ℕ → Bool) → 0 ≡ packed f 0
unfolding packed
packed_none f = refl

pub place_slot : (s : Slot) (tool : ℕ) → tool < 6 → slot_of (place s tool) ≡ s
place_slot s tool low = slot_back s tool (place s tool) low refl

pub place_tool : (s : Slot) (tool : ℕ) → tool < 6 → tool_of (place s tool) ≡ tool
place_tool s tool low = let a : slot_number (slot_of (place s tool)) ≡ slot_number s = ap slot_number (place_slot s tool low) in omega (arith, a)

pub place_back : (k : ℕ) → place (slot_of k) (tool_of k) ≡ k
place_back k = omega (arith, slot_low k)
