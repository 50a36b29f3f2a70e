use Rattle.std.proofs.Common.{◌≡◌, ◌≤◌, length}
use Rattle.mon_compile.specs.Emission.{emitted}
use Rattle.mon_compile.specs.Expressions as scheme
use Rattle.mon_compile.specs.Faults.{most_locations}
use Rattle.mon_compile.proofs.emitter.Emitter.store_names.Given as goal

abbrev pub invariant-loop-name : goal.invariant-loop-name
invariant-loop-name l = record {
  made : emitted l.self (λ at. scheme.store_names l.self.locals l.left l.spot) ≡ emitted l.fn.self (λ at. scheme.store_names l.fn.self.locals l.names l.spot);
  few : length l.left ≤ most_locations;
}

abbrev pub decreases-loop-name : goal.decreases-loop-name
decreases-loop-name l = length l.left
