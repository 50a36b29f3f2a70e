use Rattle.mon_code.proofs.Codes.{Ahead}
use Rattle.mon_code.proofs.program.Program.place.Given as goal

abbrev pub invariant-loop-k : goal.invariant-loop-k
invariant-loop-k l = Ahead l.self.bases l.code-items l.k l.location l.left
