use Rattle.std.proofs.Common.{◌≡◌, take}
use Rattle.mon_compile.proofs.bindings.bindings.Given as goal

abbrev pub invariant-loop-name : goal.invariant-loop-name
invariant-loop-name l = l.names ≡ take l.name-index l.function.parameters
