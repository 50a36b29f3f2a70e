-- Sets of events as numbers, and the bits of a word by slot and tool.
use Rattle.std.specs.Prelude.{ℕ, zero, suc, ◌+◌, ◌-◌, ◌*◌, ◌/◌, ◌%◌, ◌^◌, ◌==◌, Bool, true, false, not, ◌&&◌, if◌then◌else◌, cond, nat_lt, Option, find, Result, Ok, Err, bit_and, bit_or}
use Rattle.mon_events.specs.Events.{bit, is_local, is_ancillary, slot_number, all_events, events, event_at}
use Rattle.mon_events.specs.declared.event.Event.{Event}
use Rattle.mon_events.specs.declared.event.Slot.{Slot}
use Rattle.mon_events.specs.declared.set.EventSet.{EventSet}
use Rattle.mon_events.specs.declared.set.BadEvent.{BadEvent}

abbrev pub is_bit : ℕ → ℕ → Bool
is_bit n k = n / 2 ^ k % 2 == 1

-- the number with n given bits
unfoldable pub packed : (ℕ → Bool) → ℕ → ℕ
packed f zero = 0
packed f (suc n) = packed f n + cond (f n) (2 ^ n) 0

abbrev pub has : ℕ → Event → Bool
has set e = is_bit set (bit e)

abbrev pub with_event : ℕ → Event → ℕ
with_event set e = bit_or set (2 ^ bit e)

-- the number of the set of the events that pass a test
abbrev pub set_of : (Event → Bool) → ℕ
set_of f = packed (λ b. f (event_at b)) events

-- C_RAISE and C_RETURN are dropped where the set has CALL and both
abbrev pub normal_set : ℕ → ℕ
normal_set set =
    if has set Event.Call && has set Event.CRaise && has set Event.CReturn
    then bit_and set (2 ^ 32 - 1 - (2 ^ bit Event.CRaise + 2 ^ bit Event.CReturn))
    else set

-- every bit of the set is of an event that passes the test
abbrev pub is_within : ℕ → (Event → Bool) → Bool
is_within set f = bit_and set (set_of f) == set

-- a set that a tool may ask for everywhere, once it is in normal form
abbrev pub is_global_set : ℕ → Bool
is_global_set set = is_within (normal_set set) (λ e. not (is_ancillary e))

-- a set that a tool may ask for in one code, once it is in normal form
abbrev pub is_local_set : ℕ → Bool
is_local_set set = is_within (normal_set set) is_local

abbrev pub normal_if : Bool → EventSet → Result EventSet BadEvent
normal_if true set = Ok (record { 0 = normal_set set.0 })
normal_if false set = Err (record { 0 = set })

abbrev pub normal_global : EventSet → Result EventSet BadEvent
normal_global set = normal_if (is_global_set set.0) set

abbrev pub normal_local : EventSet → Result EventSet BadEvent
normal_local set = normal_if (is_local_set set.0) set

-- the one known event that the set is
abbrev pub single : ℕ → Option Event
single set = find (λ e. set == 2 ^ bit e) all_events

-- the slot and the tool of a bit of the 24 of a location
abbrev pub slot_of : ℕ → Slot
slot_of k = if nat_lt k 6 then Slot.Line else if nat_lt k 12 then Slot.Instruction else if nat_lt k 18 then Slot.Main else Slot.Spare

abbrev pub tool_of : ℕ → ℕ
tool_of k = k - 6 * slot_number (slot_of k)
