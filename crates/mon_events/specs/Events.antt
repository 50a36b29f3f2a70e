-- Events: their bits, their names, and which are local (PEP 669).
use Rattle.std.specs.Prelude.{ℕ, ◌+◌, ◌*◌, Bool, true, false, List, [], ◌∷◌, length, slice_index_or, codes, Option, Some, None}
use Rattle.mon_events.specs.declared.event.Event.{Event}
use Rattle.mon_events.specs.declared.event.Slot.{Slot}

abbrev pub bit : Event → ℕ
bit Event.Branch = 0
bit Event.Call = 1
bit Event.CRaise = 2
bit Event.CReturn = 3
bit Event.ExceptionHandled = 4
bit Event.Instruction = 5
bit Event.Jump = 6
bit Event.Line = 7
bit Event.PyResume = 8
bit Event.PyReturn = 9
bit Event.PyStart = 10
bit Event.PyThrow = 11
bit Event.PyUnwind = 12
bit Event.PyYield = 13
bit Event.Raise = 14
bit Event.Reraise = 15
bit Event.StopIteration = 16

-- the names of `sys.monitoring.events`
abbrev pub name_of : Event → List ℕ
name_of Event.Branch = codes "BRANCH"
name_of Event.Call = codes "CALL"
name_of Event.CRaise = codes "C_RAISE"
name_of Event.CReturn = codes "C_RETURN"
name_of Event.ExceptionHandled = codes "EXCEPTION_HANDLED"
name_of Event.Instruction = codes "INSTRUCTION"
name_of Event.Jump = codes "JUMP"
name_of Event.Line = codes "LINE"
name_of Event.PyResume = codes "PY_RESUME"
name_of Event.PyReturn = codes "PY_RETURN"
name_of Event.PyStart = codes "PY_START"
name_of Event.PyThrow = codes "PY_THROW"
name_of Event.PyUnwind = codes "PY_UNWIND"
name_of Event.PyYield = codes "PY_YIELD"
name_of Event.Raise = codes "RAISE"
name_of Event.Reraise = codes "RERAISE"
name_of Event.StopIteration = codes "STOP_ITERATION"

-- the events that can be set for one code, and disabled at one location
abbrev pub is_local : Event → Bool
is_local Event.Branch = true
is_local Event.Call = true
is_local Event.Instruction = true
is_local Event.Jump = true
is_local Event.Line = true
is_local Event.PyResume = true
is_local Event.PyReturn = true
is_local Event.PyStart = true
is_local Event.PyYield = true
is_local Event.StopIteration = true
is_local Event.CRaise = false
is_local Event.CReturn = false
is_local Event.ExceptionHandled = false
is_local Event.PyThrow = false
is_local Event.PyUnwind = false
is_local Event.Raise = false
is_local Event.Reraise = false

-- C_RAISE and C_RETURN, which are enabled where CALL is
abbrev pub is_ancillary : Event → Bool
is_ancillary Event.CRaise = true
is_ancillary Event.CReturn = true
is_ancillary _ = false

-- the number of an event that is global alone, in the global word
abbrev pub rank : Event → Option ℕ
rank Event.Raise = Some 0
rank Event.Reraise = Some 1
rank Event.ExceptionHandled = Some 2
rank Event.PyUnwind = Some 3
rank Event.PyThrow = Some 4
rank _ = None

-- all events, in the order of their bits
abbrev pub all_events : List Event
all_events =
    Event.Branch ∷ Event.Call ∷ Event.CRaise ∷ Event.CReturn ∷ Event.ExceptionHandled ∷ Event.Instruction ∷ Event.Jump
    ∷ Event.Line ∷ Event.PyResume ∷ Event.PyReturn ∷ Event.PyStart ∷ Event.PyThrow ∷ Event.PyUnwind ∷ Event.PyYield
    ∷ Event.Raise ∷ Event.Reraise ∷ Event.StopIteration ∷ []

-- how many there are
abbrev pub events : ℕ
events = length all_events

-- the event of a bit below `events`
abbrev pub event_at : ℕ → Event
event_at b = slice_index_or all_events b Event.StopIteration

abbrev pub slot_number : Slot → ℕ
slot_number Slot.Line = 0
slot_number Slot.Instruction = 1
slot_number Slot.Main = 2
slot_number Slot.Spare = 3

-- where the bit of a slot and a tool stands among the 24 of a location
abbrev pub place : Slot → ℕ → ℕ
place slot tool = 6 * slot_number slot + tool
