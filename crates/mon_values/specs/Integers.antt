-- Integers: those of 64 bits, the quotient rounded down and its remainder.
use Rattle.std.specs.Prelude.{ℕ, suc, ◌/◌, ◌^◌, Bool, true, false, nat_lt, ℤ, pos, negsuc, ◌*ℤ◌, ◌-ℤ◌, neg_ℤ}

-- z lies from -2 ^ 63 to 2 ^ 63 - 1
abbrev pub is_in_range : ℤ → Bool
is_in_range (pos n) = nat_lt n (2 ^ 63)
is_in_range (negsuc n) = nat_lt n (2 ^ 63)

-- a truth as an integer
abbrev pub number : Bool → ℤ
number true = pos 1
number false = pos 0

-- how often an integer says: not at all below 1
abbrev pub times : ℤ → ℕ
times (pos n) = n
times (negsuc n) = 0

-- ⌊z / d⌋ for 0 < d
abbrev pub floor_by : ℤ → ℕ → ℤ
floor_by (pos n) d = pos (n / d)
floor_by (negsuc n) d = negsuc (n / d)

-- ⌊a / b⌋ for b ≢ 0; ⌊a / -d⌋ is ⌊-a / d⌋
abbrev pub floor_div : ℤ → ℤ → ℤ
floor_div a (pos d) = floor_by a d
floor_div a (negsuc d) = floor_by (neg_ℤ a) (suc d)

-- what a is above ⌊a / b⌋ * b
abbrev pub floor_mod : ℤ → ℤ → ℤ
floor_mod a b = a -ℤ floor_div a b *ℤ b
