-- What a configuration has the tools hear.
use Rattle.std.specs.Prelude.{ℕ, Bool, true, false, not, ◌&&◌, List}
use Rattle.mon_events.specs.declared.event.Event.{Event}
use Rattle.mon_events.specs.declared.event.Slot.{Slot}
use Rattle.mon_code.specs.declared.site.Site.{Site}
use Rattle.mon_code.specs.Sites.{site_at}
use Rattle.mon_recorders.specs.declared.happening.Happening.{Happening}
use Rattle.mon_recorders.specs.declared.happening.Kind.{Kind}
use Rattle.mon_recorders.specs.Happenings.{Filter, is_local_kind}
use Rattle.mon_history.specs.Configuration.{Configuration, wanted}
use Rattle.mon_history.specs.declared.calls.Policy.{Policy}

abbrev pub is_called : Policy → Bool
is_called Policy.Nothing = false
is_called _ = true

abbrev pub is_once : Policy → Bool
is_once Policy.Once = true
is_once _ = false

-- the tool asks for the event where it stands
abbrev pub enables_at : Kind → Configuration → List Site → ℕ → Happening → Bool
enables_at (Kind.Local l s) C sites t e = wanted C t e.code e.event && not (C.off l s t)
enables_at (Kind.Ancillary l) C sites t e = wanted C t (site_at sites l).code Event.Call && not (C.off l Slot.Main t)
enables_at Kind.Global C sites t e = C.wants t e.event

-- and has a callback for it
abbrev pub hears : Configuration → List Site → ℕ → Happening → Bool
hears C sites t e = enables_at e.kind C sites t e && is_called (C.calls t e.event)

-- the callback answers that it asks for no more
abbrev pub once : Configuration → ℕ → Happening → Bool
once C t e = is_local_kind e.kind && is_once (C.calls t e.event)

abbrev pub heard_by : Configuration → List Site → Filter
heard_by C sites = record { hears = hears C sites; once = once C }
