-- What histories know of the locations of a program.
use Rattle.std.specs.Prelude.{ℕ, ◌+◌, ◌*◌, false, List, [], ◌∷◌, ◌++◌, Option, Some, None, slice_get, slice_index, if◌then◌else◌}
use Rattle.mon_events.specs.declared.event.Event.{Event}
use Rattle.mon_events.specs.declared.event.Slot.{Slot}
use Rattle.mon_events.specs.declared.op.Op.{Op}
use Rattle.mon_events.specs.Ops.{main_event, op_of}
use Rattle.mon_code.specs.declared.program.Code.{Code}
use Rattle.mon_code.specs.declared.program.Location.{Location}
use Rattle.mon_code.specs.declared.site.Site.{Site}
use Rattle.mon_code.specs.Programs.{Parts}

abbrev pub no_site : Site
no_site = record { code = 0; offset = 0; base = 0; is_marked = false; main = None; spare = None }

abbrev pub or_site : Option Site → Site
or_site (Some site) = site
or_site None = no_site

abbrev pub site_at : List Site → ℕ → Site
site_at sites l = or_site (slice_get sites l)

abbrev pub event_of : Option Op → ℕ → Option Event
event_of None argument = None
event_of (Some op) argument = main_event op argument

-- the site of a code's location with a base opcode
abbrev pub site_in : ℕ → ℕ → Location → ℕ → Site
site_in code at l base = record { code = code; offset = 2 * at; base = base; is_marked = l.is_marked; main = event_of (op_of base) l.argument; spare = None }

-- the sites of these locations of a code, of which the first stands at an index
abbrev pub sites_in : List ℕ → ℕ → ℕ → ℕ → List Location → List Site
sites_in bases code first at [] = []
sites_in bases code first at (l ∷ ls) = site_in code at l (slice_index bases (first + at)) ∷ sites_in bases code first (at + 1) ls

abbrev pub sites_from : List ℕ → ℕ → List Code → List Site
sites_from bases code [] = []
sites_from bases code (c ∷ cs) = sites_in bases code c.first 0 c.locations ++ sites_from bases (code + 1) cs

-- the sites of all locations, by their numbers
abbrev pub sites_of : Parts → List Site
sites_of p = sites_from p.bases 0 p.codes

-- the event whose bits a slot of a site has
abbrev pub slot_event : Site → Slot → Option Event
slot_event site Slot.Line = if site.is_marked then Some Event.Line else None
slot_event site Slot.Instruction = Some Event.Instruction
slot_event site Slot.Main = site.main
slot_event site Slot.Spare = site.spare
