-- Where an instruction stands, and what is known of it before.
use Rattle.std.specs.Prelude.{◌≡◌, ℕ, true, Option, Some, None, option_map, [], ◌⊎◌}
use Rattle.mon_code.specs.Programs.{Parts}
use Rattle.mon_events.specs.declared.event.Event.{Event}
use Rattle.mon_events.specs.declared.op.Op.{Op}
use Rattle.mon_events.specs.declared.event.Slot.{Slot}
use Rattle.mon_frames.specs.declared.frame.Frame.{Frame}
use Rattle.mon_machine.specs.Events.{Shown}
use Rattle.mon_interp.specs.declared.events.Place.{Place}
use Rattle.mon_interp.specs.declared.shows.Shows.{Shows}
use Rattle.mon_interp.specs.declared.step.Before.{Before}
use Rattle.mon_interp.specs.Asking.{asks_for}
use Rattle.mon_interp.specs.Shows.{shown_in, values}

-- a frame of which only that is known
abbrev pub standing : Place → Frame
standing p = record { code = p.code; index = p.index; locals = []; stack = []; handling = []; line = None }

-- a frame stands there
pub record IsAt (p : Place) (f : Frame) : Type 0 where
  pub code : p.code ≡ f.code
  pub index : p.index ≡ f.index

-- where an event occurs, it shows this
abbrev pub ShowsFor : Option Event → Option Shows → Shown → Type 0
ShowsFor None shows s = Unit {0}
ShowsFor (Some event) shows s = option_map shown_in shows ≡ Some s

-- an instruction with this argument, at this location in a frame; what its event shows is known where this word asks for that
pub record IsBefore (p : Parts) (op : Op) (n location word : ℕ) (f : Frame) (b : Before) : Type 0 where
  pub at : IsAt b.place f
  pub location_is : b.place.location ≡ location
  pub last : b.last ≡ f.line
  pub shows : asks_for word Slot.Main ≡ true → option_map shown_in b.shows ≡ values p op n f

-- a builtin or a class answers to CALL alone
abbrev pub Answered : Op → Option Event → Type 0
Answered op ancillary = (op ≡ Op.Call) ⊎ (ancillary ≡ None)
