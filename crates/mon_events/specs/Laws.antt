-- What sets, words of bits and names are known by.
use Rattle.std.specs.Prelude.{◌≡◌, ℕ, ◌^◌, ◌<◌, Bool, Some}
use Rattle.mon_events.specs.Events.{events, name_of, place}
use Rattle.mon_events.specs.Names.{event_named}
use Rattle.mon_events.specs.Sets.{is_bit, packed, has, set_of, slot_of, tool_of}
use Rattle.mon_events.specs.declared.event.Event.{Event}
use Rattle.mon_events.specs.declared.event.Slot.{Slot}

-- the set of the events that pass a test has just those
pub record SetsByBits : Type 0 where
  pub known : (f : Event → Bool) (e : Event) → has (set_of f) e ≡ f e
  pub none_else : (f : Event → Bool) → set_of f < 2 ^ events

-- a number with n given bits has just these
pub record WordsByBits : Type 0 where
  pub given : (f : ℕ → Bool) (n k : ℕ) → k < n → is_bit (packed f n) k ≡ f k
  pub none_else : (f : ℕ → Bool) (n : ℕ) → packed f n < 2 ^ n

-- a bit of a location is that of one slot and one tool
pub record PlacesBack : Type 0 where
  pub slot : (s : Slot) (tool : ℕ) → tool < 6 → slot_of (place s tool) ≡ s
  pub tool : (s : Slot) (tool : ℕ) → tool < 6 → tool_of (place s tool) ≡ tool
  pub place : (k : ℕ) → place (slot_of k) (tool_of k) ≡ k

-- the name of an event is read as that event
abbrev pub NamesAreRead : Type 0
NamesAreRead = (e : Event) → event_named (name_of e) ≡ Some e
