-- What the rule says of a stopped world.
use Rattle.std.specs.Prelude.{◌≡◌, ◌≢◌, ℕ}
use mathlib.Core.Option.{some}
use lib.ListN.{get_elem?}
use Rattle.mon_gate.specs.Rule.{St, Kept}
use Rattle.mon_gate.specs.declared.view.Plan.{Plan}
use Rattle.mon_gate.specs.declared.view.View.{View}
use Rattle.mon_gate.specs.declared.view.Phase.TheVariants.{Attached, Stopped}

-- while a controller is stopped no seat is attached
abbrev pub StoppedIsAlone : Type 0
StoppedIsAlone = (about : Plan) (s : St) → Kept about s → (i j : ℕ) (u v : View) → get_elem? s.views i ≡ some u → u.phase ≡ Stopped → get_elem? s.views j ≡ some v → v.phase ≢ Attached
