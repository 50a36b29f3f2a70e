use Rattle.std.proofs.Common.{◌≡◌, take, drop}
use Rattle.mon_values.specs.Classes.{builtin_names}
use Rattle.mon_code.specs.Programs.{first_named}
use Rattle.mon_machine.specs.Operations.{global_builtins}
use Rattle.mon_interp.proofs.global.builtin_named.Given as goal

abbrev pub invariant-loop-number : goal.invariant-loop-number
invariant-loop-number l = first_named 0 (take global_builtins builtin_names) l.name ≡ first_named l.number (drop l.number (take global_builtins builtin_names)) l.name
