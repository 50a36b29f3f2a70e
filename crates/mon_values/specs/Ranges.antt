-- A range as the sequence of its integers.
use Rattle.std.specs.Prelude.{ℕ, zero, suc, ◌%◌, ◌==◌, Bool, false, ◌&&◌, ℤ, pos, negsuc, ◌+ℤ◌, ◌-ℤ◌, ◌*ℤ◌, unsigned_abs, int_lt, int_le}
use Rattle.std.specs.Int.{div_ceil}
use Rattle.mon_values.specs.Integers.{times}

-- how many integers start, start + step, .. stand before stop; none for a step of 0
abbrev pub range_length : ℤ → ℤ → ℤ → ℕ
range_length start stop (pos zero) = 0
range_length start stop (pos (suc k)) = div_ceil (times (stop -ℤ start)) (suc k)
range_length start stop (negsuc k) = div_ceil (times (start -ℤ stop)) (suc k)

-- the integer at a place, from 0
abbrev pub range_item : ℤ → ℤ → ℕ → ℤ
range_item start step place = start +ℤ pos place *ℤ step

-- whether z stands between start and stop, in the step's direction
abbrev pub is_between : ℤ → ℤ → ℤ → ℤ → Bool
is_between start stop (pos zero) z = false
is_between start stop (pos (suc k)) z = int_le start z && int_lt z stop
is_between start stop (negsuc k) z = int_le z start && int_lt stop z

-- whether z is an integer of the range: it stands between, a whole number of steps from start
abbrev pub is_range_item : ℤ → ℤ → ℤ → ℤ → Bool
is_range_item start stop step z = is_between start stop step z && unsigned_abs (z -ℤ start) % unsigned_abs step == 0
