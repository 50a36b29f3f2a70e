-- Sets that a call takes.
use Rattle.std.proofs.Common.{◌≡◌, ℕ, Bool, true, false, is_ok, refl, sym, ap, ◌∙◌}
use Rattle.std.specs.Prelude.{Result}
use Rattle.mon_events.specs.Sets.{normal_if}
use Rattle.mon_events.specs.declared.set.EventSet.{EventSet}
use Rattle.mon_events.specs.declared.set.BadEvent.{BadEvent}

pub is_taken : (b : Bool) (set : EventSet) (r : Result EventSet BadEvent) → r ≡ normal_if b set → is_ok r ≡ b
is_taken true set r e = ap is_ok e
is_taken false set r e = ap is_ok e
