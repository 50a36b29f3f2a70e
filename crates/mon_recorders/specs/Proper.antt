-- Events that stand where their kind says.
use Rattle.std.specs.Prelude.{◌≡◌, ℕ, ◌<◌, true, List, length, Option, Some, option_map, is_some}
use Rattle.std.specs.List.{AllByRecursion}
use Rattle.mon_events.specs.Events.{is_local, rank}
use Rattle.mon_events.specs.declared.event.Event.{Event}
use Rattle.mon_events.specs.declared.event.Slot.{Slot}
use Rattle.mon_code.specs.declared.site.Site.{Site}
use Rattle.mon_code.specs.Sites.{site_at, slot_event}
use Rattle.mon_recorders.specs.declared.happening.Happening.{Happening}
use Rattle.mon_recorders.specs.declared.happening.Kind.{Kind}
use Rattle.mon_recorders.specs.declared.record.Disabled.{Disabled}

-- an event of a slot of a location: the slot has that event there, and the event has the location's code and offset
pub record IsOfSlot (sites : List Site) (location : ℕ) (slot : Slot) (e : Happening) : Type 0 where
  pub within : location < length sites
  pub event : slot_event (site_at sites location) slot ≡ Some e.event
  pub code : (site_at sites location).code ≡ e.code
  pub offset : (site_at sites location).offset ≡ e.offset
  pub local : is_local e.event ≡ true

-- an event that is enabled where CALL is: CALL is the event of that location
pub record IsOfCall (sites : List Site) (location : ℕ) : Type 0 where
  pub within : location < length sites
  pub call : (site_at sites location).main ≡ Some Event.Call

abbrev pub IsProperAt : Kind → List Site → Happening → Type 0
IsProperAt (Kind.Local location slot) sites e = IsOfSlot sites location slot e
IsProperAt (Kind.Ancillary location) sites e = IsOfCall sites location
IsProperAt Kind.Global sites e = is_some (rank e.event) ≡ true

abbrev pub IsProper : List Site → Happening → Type 0
IsProper sites e = IsProperAt e.kind sites e

abbrev pub AreProper : List Site → List Happening → Type 0
AreProper sites es = AllByRecursion (IsProper sites) es

-- the disable that a tool's answer at a slot of a location is told as: by the site alone
abbrev pub disabled_at : ℕ → List Site → ℕ → Slot → ℕ → Option Disabled
disabled_at step sites location slot tool =
    option_map (λ event. record { step = step; tool = tool; event = event; code = (site_at sites location).code; at = (site_at sites location).offset }) (slot_event (site_at sites location) slot)
