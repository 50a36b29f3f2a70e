use Rattle.std.proofs.Common.{◌≡◌, ◌++◌, map, drop}
use Rattle.mon_compile.specs.Modules as spec
use Rattle.mon_compile.proofs.codes.add_bases.Given as goal

abbrev pub invariant-loop-instruction : goal.invariant-loop-instruction
invariant-loop-instruction l = l.bases.items ++ map spec.op_number (drop l.instruction-index l.code) ≡ l.fn.bases.items ++ map spec.op_number l.code
