use Rattle.std.proofs.Common.{◌≡◌, ◌++◌, drop}
use Rattle.mon_compile.specs.Modules as spec
use Rattle.mon_compile.proofs.codes.globals.Given as goal

abbrev pub invariant-loop-instruction : goal.invariant-loop-instruction
invariant-loop-instruction l = l.globals ++ spec.globals_of (drop l.instruction-index l.code) ≡ spec.globals_of l.code
