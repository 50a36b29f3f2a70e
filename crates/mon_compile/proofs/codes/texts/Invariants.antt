use Rattle.std.proofs.Common.{◌≡◌, ◌++◌, length}
use Rattle.mon_compile.proofs.codes.texts.Given as goal

abbrev pub invariant-loop-name : goal.invariant-loop-name
invariant-loop-name l = l.texts ++ l.rest ≡ l.names

abbrev pub decreases-loop-name : goal.decreases-loop-name
decreases-loop-name l = length l.rest
