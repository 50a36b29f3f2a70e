use Rattle.std.proofs.Common.{◌≡◌, drop}
use Rattle.mon_code.specs.Programs.{code_named, first_named}
use Rattle.mon_code.proofs.program.Program.code_called.Given as goal

abbrev pub invariant-loop-k : goal.invariant-loop-k
invariant-loop-k l = code_named l.self l.name ≡ first_named l.k (drop l.k l.self.names) l.name
