use Rattle.std.proofs.Common.{◌≡◌, [], take, drop}
use Rattle.mon_compile.specs.Faults.{duplicate}
use Rattle.mon_compile.proofs.Twice.{bind_all}
use Rattle.mon_compile.proofs.duplicates.duplicate.Given as goal

abbrev pub invariant-loop-k : goal.invariant-loop-k
invariant-loop-k l = duplicate [] l.items ≡ duplicate (bind_all [] (take l.k l.items)) (drop l.k l.items)
