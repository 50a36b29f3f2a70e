use Rattle.std.proofs.Common.{◌≡◌, drop, chars}
use Rattle.mon_code.specs.Programs.{code_named, first_named}
use Rattle.mon_code.proofs.program.Program.code_named.Given as goal

abbrev pub invariant-loop-k : goal.invariant-loop-k
invariant-loop-k l = code_named l.self (chars l.name) ≡ first_named l.k (drop l.k l.self.names) (chars l.name)
