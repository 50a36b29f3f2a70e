-- Bounds on the values of digits.
use Rattle.std.proofs.Common.{ℕ, ◌+◌, ◌*◌, ◌^◌, ◌<◌, ◌≤◌, arith}
use Rattle.std.proofs.lemmas.Grind.{pow_more}
use Rattle.std.proofs.Math.Nat.{pow-le-pow_right}

pub ten_below : (value digit i : ℕ) → value < 10 ^ i → digit < 10 → 10 * value + digit < 10 ^ (i + 1)
ten_below value digit i h d = rw pow_more (omega arith)

pub ten_le : (i : ℕ) → i ≤ 18 → 10 ^ i ≤ 10 ^ 18
ten_le i h = pow-le-pow_right {n = 10} (omega arith) {i = i} {j = 18} h

pub small : (value i : ℕ) → value < 10 ^ i → i < 18 → value < 10 ^ 17
small value i h l = let e : 10 ^ i ≤ 10 ^ 17 = pow-le-pow_right {n = 10} (omega arith) {i = i} {j = 17} (omega arith) in omega arith
