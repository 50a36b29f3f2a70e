use Rattle.std.proofs.Common.{◌≡◌, drop}
use Rattle.mon_code.specs.Programs.{first_named}
use Rattle.mon_machine.specs.Operations.{class_names}
use Rattle.mon_interp.proofs.global.class_named.Given as goal

abbrev pub invariant-loop-number : goal.invariant-loop-number
invariant-loop-number l = first_named 0 class_names l.name ≡ first_named l.number (drop l.number class_names) l.name
