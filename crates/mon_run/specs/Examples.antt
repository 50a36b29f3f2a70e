-- A serial run, worked out: a callback that answers DISABLE, and two threads that run the same two lines in turn.
use Rattle.std.specs.Prelude.{◌≡◌, ℕ, List, [], ◌∷◌, map, Option, Some, None, codes, pos}
use Rattle.mon_events.specs.declared.event.Event.{Event}
use Rattle.mon_events.specs.declared.event.Slot.{Slot}
use Rattle.mon_events.specs.declared.set.EventSet.{EventSet}
use Rattle.mon_recorders.specs.declared.record.Record.{Record}
use Rattle.mon_recorders.specs.declared.record.Disabled.{Disabled}
use Rattle.mon_machine.specs.AdvanceExamples.{program}
use Rattle.mon_history.specs.declared.calls.ControlCall.{ControlCall}
use Rattle.mon_history.specs.declared.calls.Policy.{Policy}
use Rattle.mon_history.specs.declared.calls.Reply.{Reply}
use Rattle.mon_history.specs.declared.calls.Who.{Who}
use Rattle.mon_history.specs.declared.journal.Entry.{Entry}
use Rattle.mon_history.specs.declared.journal.JournalLine.{JournalLine}
use Rattle.mon_forms.specs.declared.plan.Move.{Move}
use Rattle.mon_forms.specs.declared.plan.Start.{Start}
use Rattle.mon_forms.specs.declared.plan.Workload.{Workload}
use Rattle.mon_run.specs.Serial.{World, steps_of, last_world}

abbrev line_set : EventSet
line_set = record { 0 = 128 }

abbrev use_tool : ControlCall
use_tool = ControlCall.UseToolId (pos 1) (codes "t")

abbrev set_lines : ControlCall
set_lines = ControlCall.SetEvents (pos 1) line_set

abbrev once_lines : ControlCall
once_lines = ControlCall.RegisterCallback (pos 1) line_set Policy.Once

abbrev get_lines : ControlCall
get_lines = ControlCall.GetEvents (pos 1)

abbrev start : Start
start = record { code = 0; args = [] }

-- a script that asks which events are wanted, and starts events again
abbrev plan : Workload
plan = record { steps = 5; threads = start ∷ start ∷ []; before = use_tool ∷ set_lines ∷ once_lines ∷ []; scripts = (get_lines ∷ ControlCall.RestartEvents ∷ []) ∷ [] }

-- thread 0 hears of its first line, which is then off for thread 1; that hears of the second line, which is then off for thread 0
abbrev schedule : List Move
schedule = Move.Turn 0 2 ∷ Move.Turn 1 9 ∷ Move.Call 0 ∷ Move.Turn 0 9 ∷ []

abbrev line_of : ControlCall → Who → Reply → Option (List ℕ) → JournalLine
line_of call who reply stops = record { call = call; who = who; reply = reply; stops = stops }

abbrev heard : ℕ → ℕ → Record
heard step line = record { step = step; tool = 1; event = Event.Line; code = 0; at = line; dest = 0; first = []; second = [] }

abbrev off : ℕ → ℕ → Disabled
off step offset = record { step = step; tool = 1; event = Event.Line; code = 0; at = offset }

abbrev last : World
last = last_world program plan schedule

pub record WorkedRun : Type 0 where
  pub journal : last.journal ≡ line_of use_tool Who.Before Reply.Nothing None
      ∷ line_of set_lines Who.Before Reply.Nothing (Some (0 ∷ 0 ∷ []))
      ∷ line_of once_lines Who.Before (Reply.Was Policy.Nothing) (Some (0 ∷ 0 ∷ []))
      ∷ line_of get_lines (Who.Script 0) (Reply.Set line_set) None
      ∷ line_of ControlCall.RestartEvents (Who.Script 0) Reply.Nothing (Some (5 ∷ 5 ∷ []))
      ∷ []
  -- the changes and disables, in the order in which they came
  pub history : last.history ≡ Entry.Change 0 (0 ∷ 0 ∷ []) ∷ Entry.Change 1 (0 ∷ 0 ∷ []) ∷ Entry.Disable 0 1 Slot.Line 1 ∷ Entry.Disable 1 3 Slot.Line 1 ∷ Entry.Change 2 (5 ∷ 5 ∷ []) ∷ []
  pub steps : steps_of last.threads ≡ 5 ∷ 5 ∷ []
  pub records : map (λ q. q.records) last.threads ≡ (heard 1 2 ∷ []) ∷ (heard 3 3 ∷ []) ∷ []
  pub disables : map (λ q. q.disables) last.threads ≡ (off 1 2 ∷ []) ∷ (off 3 6 ∷ []) ∷ []
