use Rattle.std.proofs.Common.{◌≡◌, drop}
use Rattle.mon_compile.specs.Earlier.{earlier}
use Rattle.mon_compile.specs.Faults as spec
use Rattle.mon_compile.proofs.large.large.Given as goal

abbrev pub invariant-loop-item : goal.invariant-loop-item
invariant-loop-item l = earlier l.line (spec.least (spec.large_lines_in (drop l.item-index l.items))) ≡ spec.least (spec.large_lines_in l.items)
