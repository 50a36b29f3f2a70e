use Rattle.std.proofs.Common.{◌≡◌, drop}
use Rattle.mon_machine.specs.Operations.{constant_of}
use Rattle.mon_interp.proofs.global.constant_named.Given as goal

abbrev pub invariant-loop-constant : goal.invariant-loop-constant
invariant-loop-constant l = constant_of l.constants l.name ≡ constant_of (drop l.constant-index l.constants) l.name
