use Rattle.std.proofs.Common.{◌≡◌, ◌++◌, drop, None}
use Rattle.mon_compile.specs.Marking as spec
use Rattle.mon_compile.proofs.marking.mark_all.Given as goal

abbrev pub invariant-loop-at : goal.invariant-loop-at
invariant-loop-at l = l.marked ++ spec.marked_by (spec.is_reached l.code l.locations) l.at l.before (drop l.at l.locations) ≡ spec.marked_by (spec.is_reached l.code l.locations) 0 None l.locations
