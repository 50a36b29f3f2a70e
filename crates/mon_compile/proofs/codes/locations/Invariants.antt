use Rattle.std.proofs.Common.{◌≡◌, ◌≤◌, ◌++◌, drop}
use Rattle.mon_compile.specs.Modules as spec
use Rattle.mon_compile.proofs.codes.locations.Given as goal

abbrev pub invariant-loop-instruction : goal.invariant-loop-instruction
invariant-loop-instruction l = record {
  placed : l.locations ++ spec.locations_of l.constants l.globals (drop l.instruction-index l.code) ≡ spec.locations_of 0 0 l.code;
  few_constants : l.constants ≤ l.instruction-index;
  few_globals : l.globals ≤ l.instruction-index;
}
