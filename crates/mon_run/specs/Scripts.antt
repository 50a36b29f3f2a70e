-- The calls of a plan's scripts, made in turn.
use Rattle.std.specs.Prelude.{ℕ, suc, max, List, [], ◌∷◌, ◌++◌, length, slice_get, Option, Some, None}
use Rattle.mon_recorders.specs.Readings.{in_turn}
use Rattle.mon_history.specs.declared.calls.ControlCall.{ControlCall}
use Rattle.mon_history.specs.declared.calls.Who.{Who}
use Rattle.mon_forms.specs.declared.plan.Workload.{Workload}
use Rattle.mon_run.specs.Turns.{Asked, first_calls}

abbrev pub call_of : ℕ → Option ControlCall → List Asked
call_of s (Some call) = (Who.Script s, call) ∷ []
call_of s None = []

-- call number r of each script that has so many, the first of which is script number s
abbrev pub round_from : ℕ → ℕ → List (List ControlCall) → List Asked
round_from r s [] = []
round_from r s (script ∷ scripts) = call_of s (slice_get script r) ++ round_from r (suc s) scripts

abbrev pub longest : List (List ControlCall) → ℕ
longest [] = 0
longest (script ∷ scripts) = max (length script) (longest scripts)

-- the first n rounds, in each of which each script makes one call, if it has one left
abbrev pub rounds : List (List ControlCall) → ℕ → List Asked
rounds scripts n = in_turn (λ r. round_from r 0 scripts) n

-- all calls of a plan, those of the scripts in turn
abbrev pub in_order : Workload → List Asked
in_order plan = first_calls plan.before ++ rounds plan.scripts (longest plan.scripts)
