-- Which values are true.
use Rattle.std.specs.Prelude.{length, Bool, true, false, not, ◌==◌, ℤ, pos, negsuc}
use Rattle.mon_values.specs.declared.value.Value.{Value}
use Rattle.mon_values.specs.declared.value.Value.TheOpen.{Value-F}
use Rattle.mon_values.specs.declared.value.Value.TheViews.{out-Value}
use Rattle.mon_values.specs.declared.value.Exc.{Exc}
use Rattle.mon_values.specs.Ranges.{range_length}

abbrev pub is_zero : ℤ → Bool
is_zero (pos n) = n == 0
is_zero (negsuc n) = false

-- all values are true but None, False, 0, the empty text, the empty tuple and an empty range
abbrev pub truth_at : Value-F Value Exc → Bool
truth_at Value-F.None = false
truth_at (Value-F.Bool b) = b
truth_at (Value-F.Int n) = not (is_zero n)
truth_at (Value-F.Text text) = not (length text == 0)
truth_at (Value-F.Tuple items) = not (length items == 0)
truth_at (Value-F.Range start stop step) = not (range_length start stop step == 0)
truth_at _ = true

abbrev pub truth : Value → Bool
truth v = truth_at (out-Value v)
