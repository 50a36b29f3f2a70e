-- How much a value weighs, how deeply it is nested, and what answers a value that is made.
use Rattle.std.specs.Prelude.{ℕ, ◌+◌, ◌-◌, max, List, [], ◌∷◌, sum, length, Option, Some, None, nat_le, Result, Ok, Err, if◌then◌else◌}
use Rattle.mon_values.specs.declared.value.Value.{Value}
use Rattle.mon_values.specs.declared.value.Value.TheOpen.{Value-F, Exc-F}
use Rattle.mon_values.specs.declared.value.Value.TheFolds.{fold-Value, fold-Exc}
use Rattle.mon_values.specs.declared.value.Value.TheViews.{roll-Exc}
use Rattle.mon_values.specs.declared.value.Exc.{Exc}
use Rattle.mon_values.specs.declared.fault.Trouble.{Trouble}
use Rattle.mon_values.specs.Troubles.{too_large, nested_too_deeply}

abbrev pub or_zero : Option ℕ → ℕ
or_zero None = 0
or_zero (Some n) = n

-- a text weighs its characters, at least 1; a tuple 1 and its items; an exception 1 and its argument; anything else 1
abbrev pub weight_step : Value-F ℕ ℕ → ℕ
weight_step (Value-F.Text t) = max 1 (length t)
weight_step (Value-F.Tuple ws) = 1 + sum ws
weight_step (Value-F.Exc w) = w
weight_step _ = 1

abbrev pub exc_weight_step : Exc-F ℕ ℕ → ℕ
exc_weight_step e = 1 + or_zero e.arg

abbrev pub weight : Value → ℕ
weight = fold-Value ℕ ℕ weight_step exc_weight_step

abbrev pub exc_weight : Exc → ℕ
exc_weight = fold-Exc ℕ ℕ weight_step exc_weight_step

abbrev pub greatest : List ℕ → ℕ
greatest [] = 0
greatest (n ∷ ns) = max n (greatest ns)

-- a tuple and an exception are one deeper than their deepest part; anything else has no depth
abbrev pub depth_step : Value-F ℕ ℕ → ℕ
depth_step (Value-F.Tuple ds) = 1 + greatest ds
depth_step (Value-F.Exc d) = d
depth_step _ = 0

abbrev pub exc_depth_step : Exc-F ℕ ℕ → ℕ
exc_depth_step e = 1 + or_zero e.arg

abbrev pub depth : Value → ℕ
depth = fold-Value ℕ ℕ depth_step exc_depth_step

abbrev pub exc_depth : Exc → ℕ
exc_depth = fold-Exc ℕ ℕ depth_step exc_depth_step

abbrev pub most_weight : ℕ
most_weight = 4096

abbrev pub most_depth : ℕ
most_depth = 64

-- what is made with this weight and depth, or the exception in its place: the weight is tried first
abbrev pub within_limits : {A : Type 0} → ℕ → ℕ → A → Result A Trouble
within_limits w d x = if nat_le w most_weight then (if nat_le d most_depth then Ok x else Err nested_too_deeply) else Err too_large

-- the due answer of a value that is made
abbrev pub made : Value → Result Value Trouble
made v = within_limits (weight v) (depth v) v

abbrev pub made_exc : Exc → Result Exc Trouble
made_exc e = within_limits (exc_weight e) (exc_depth e) e

-- what is left of a budget after a weight, if it suffices
abbrev pub left_of : ℕ → ℕ → Option ℕ
left_of budget w = if nat_le w budget then Some (budget - w) else None

abbrev pub exc_of : ℕ → Option Value → Exc
exc_of class arg = roll-Exc (record { class = class; arg = arg })
