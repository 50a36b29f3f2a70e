use Rattle.std.proofs.Common.{◌≡◌, drop}
use Rattle.mon_values.specs.Containing as spec
use Rattle.mon_values.proofs.contain.stands_in.Given as goal

abbrev pub invariant-loop-start : goal.invariant-loop-start
invariant-loop-start l = spec.stands_in l.part (drop l.start l.text) ≡ spec.stands_in l.part l.text
