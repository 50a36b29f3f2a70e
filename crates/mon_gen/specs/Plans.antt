-- The plan that runs the program of a size: four threads add up, and a tool keeps their lines.
--
--     steps 100000
--     thread go 20            (four times)
--     before
--     use_tool_id 1 gen
--     register_callback 1 LINE keep
--     set_events 1 LINE
use Rattle.std.specs.Prelude.{ℕ, ◌^◌, pos, List, [], ◌∷◌, codes, replicate}
use Rattle.mon_events.specs.Events.{bit}
use Rattle.mon_events.specs.declared.event.Event.{Event}
use Rattle.mon_events.specs.declared.set.EventSet.{EventSet}
use Rattle.mon_history.specs.declared.calls.ControlCall.{ControlCall}
use Rattle.mon_history.specs.declared.calls.Policy.{Policy}
use Rattle.mon_values.specs.declared.value.Value as value
use Rattle.mon_forms.specs.declared.plan.Plan.{Plan}
use Rattle.mon_forms.specs.declared.plan.Start.{Start}

abbrev pub line_events : EventSet
line_events = record { 0 = 2 ^ bit Event.Line }

-- the function that adds up stands behind the loops
abbrev pub start : ℕ → Start
start n = record { code = n; args = value.Int (pos 20) ∷ [] }

abbrev pub calls : List ControlCall
calls = ControlCall.UseToolId (pos 1) (codes "gen") ∷ ControlCall.RegisterCallback (pos 1) line_events Policy.Keep ∷ ControlCall.SetEvents (pos 1) line_events ∷ []

abbrev pub generated_plan : ℕ → Plan
generated_plan n = record { workload = record { steps = 100000; threads = replicate 4 (start n); before = calls; scripts = [] }; schedule = []; reports = [] }
