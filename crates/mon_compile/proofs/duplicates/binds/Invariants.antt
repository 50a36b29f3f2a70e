use Rattle.std.proofs.Common.{◌≡◌, drop}
use Rattle.mon_compile.specs.BoundNames as spec
use Rattle.mon_compile.proofs.duplicates.binds.Given as goal

abbrev pub invariant-loop-item : goal.invariant-loop-item
invariant-loop-item l = spec.binds l.items l.name ≡ spec.binds (drop l.item-index l.items) l.name
