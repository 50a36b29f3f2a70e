-- Words that are made bit by bit, and cells that stay.
use Rattle.std.proofs.Common.{◌≡◌, ℕ, zero, suc, ◌+◌, ◌*◌, ◌/◌, ◌%◌, ◌^◌, ◌<◌, ◌≤◌, Bool, true, false, cond, refl, sym, ap, ◌∙◌, subst, arith}
use Rattle.std.proofs.Math.Nat.{pow-le-pow_right}
use Rattle.mon_events.specs.Sets.{packed}
use Rattle.mon_words.specs.Words.{cell_of, need, form, normal, Allowed}
use Rattle.mon_words.specs.declared.history.Cell.{Cell}
use Rattle.mon_words.proofs.Forms.{put, cell_of-normal}
use Rattle.mon_words.proofs.Clearing.{need_most}
use Rattle.mon_events.proofs.Bits.{packed_lt, packed_more}

small : (k : ℕ) → k < 24 → 2 ^ k ≤ 8388608
small k h = let p : 2 ^ k ≤ 2 ^ 23 = pow-le-pow_right {n = 2} (omega arith) {i = k} {j = 23} (omega arith) in p

shifted : (k : ℕ) → k < 24 → 1 * 2 ^ k % 4294967296 ≡ 2 ^ k
shifted k h = let s = small k h in omega arith

pub room : (f : ℕ → Bool) (k w : ℕ) → k < 24 → w ≡ packed f k → w + 1 * 2 ^ k % 4294967296 < 4294967296
room f k w h e = let s = small k h in let l = packed_lt f k in let x = shifted k h in omega arith

pub grown_true : (f : ℕ → Bool) (k w v : ℕ) → k < 24 → w ≡ packed f k → f k ≡ true → v ≡ w + 1 * 2 ^ k % 4294967296 → v ≡ packed f (k + 1)
grown_true f k w v h e set_is is =
    let m = packed_more f k (k + 1) (omega arith) in let c : cond (f k) (2 ^ k) 0 ≡ 2 ^ k = ap (λ b. cond b (2 ^ k) 0) set_is in let x = shifted k h in omega arith

pub grown_false : (f : ℕ → Bool) (k w v : ℕ) → w ≡ packed f k → f k ≡ false → v ≡ w → v ≡ packed f (k + 1)
grown_false f k w v e clear_is is = let m = packed_more f k (k + 1) (omega arith) in let c : cond (f k) (2 ^ k) 0 ≡ 0 = ap (λ b. cond b (2 ^ k) 0) clear_is in omega arith

pub whole_word : (f : ℕ → Bool) (k w : ℕ) → w ≡ packed f k → k ≡ 24 → (w ≡ packed f 24) × (w < 2 ^ 24)
whole_word f k w e is = let a : w ≡ packed f 24 = e ∙ ap (packed f) is in let l = packed_lt f 24 in (a, omega arith)

shifted64 : (k : ℕ) → k < 34 → (1 * 2 ^ k % 18446744073709551616 ≡ 2 ^ k) × (2 ^ k ≤ 8589934592)
shifted64 k h = let p : 2 ^ k ≤ 2 ^ 33 = pow-le-pow_right {n = 2} (omega arith) {i = k} {j = 33} (omega arith) in (omega arith, p)

pub room64 : (f : ℕ → Bool) (k w : ℕ) → k < 34 → w ≡ packed f k → w + 1 * 2 ^ k % 18446744073709551616 < 18446744073709551616
room64 f k w h e = let s = shifted64 k h in let l = packed_lt f k in omega arith

pub grown_true64 : (f : ℕ → Bool) (k w v : ℕ) → k < 34 → w ≡ packed f k → f k ≡ true → v ≡ w + 1 * 2 ^ k % 18446744073709551616 → v ≡ packed f (k + 1)
grown_true64 f k w v h e set_is is =
    let m = packed_more f k (k + 1) (omega arith) in let c : cond (f k) (2 ^ k) 0 ≡ 2 ^ k = ap (λ b. cond b (2 ^ k) 0) set_is in let x = shifted64 k h in omega arith

-- a normal form has an opcode in place that may stand, and is its own normal form
pub normal_allowed : (n m : ℕ) → m ≡ normal n → Allowed (cell_of m) (m % 256)
normal_allowed n m e = let p = put n in
    subst (λ (z : ℕ). Allowed (cell_of z) (z % 256)) (sym e) (subst (λ (z : Cell). Allowed z (normal n % 256)) (sym (cell_of-normal n)) (need (cell_of n), need_most (cell_of n), Rattle.std.proofs.Common.le_refl (need (cell_of n)), p.3))

pub normal_again : (n m : ℕ) → m ≡ normal n → normal m ≡ m
normal_again n m e = let p = put n in
    let f : form (cell_of (normal n)).base (need (cell_of (normal n))) ≡ form (cell_of n).base (need (cell_of n)) = ap (λ (z : Cell). form z.base (need z)) (cell_of-normal n) in
    let r : normal (normal n) ≡ normal n = (λ i. p.4 i + f i) in
    ap normal e ∙ (r ∙ sym e)
