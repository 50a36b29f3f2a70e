-- What is left of a budget after one weight and then another.
use Rattle.std.proofs.Common.{◌≡◌, ℕ, ◌+◌, Some, None, true, false, max, arith}
use Rattle.std.specs.Prelude.{nat_le}
use Rattle.std.proofs.lemmas.Bool.Decides.{nat_tests}
use Rattle.mon_values.specs.Weights.{left_of}

pub left_then : (budget w v left : ℕ) → left_of budget w ≡ Some left → left_of budget (w + v) ≡ left_of left v
left_then budget w v left e = grind (arith, nat_tests)

pub none_left : (budget w v : ℕ) → left_of budget w ≡ None → left_of budget (w + v) ≡ None
none_left budget w v e = grind (arith, nat_tests)

-- the greatest of a list within a limit
pub greatest_then : (d rest limit : ℕ) → nat_le d limit ≡ true → nat_le (max d rest) limit ≡ nat_le rest limit
greatest_then d rest limit h = grind (arith, nat_tests)

pub greatest_above : (d rest limit : ℕ) → nat_le d limit ≡ false → nat_le (max d rest) limit ≡ false
greatest_above d rest limit h = grind (arith, nat_tests)
