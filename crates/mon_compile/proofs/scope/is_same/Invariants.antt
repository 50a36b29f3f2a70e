use Rattle.std.proofs.Common.{◌≡◌, length}
use Rattle.mon_code.specs.Programs.{is_text}
use Rattle.mon_compile.proofs.scope.is_same.Given as goal

abbrev pub invariant-loop-c : goal.invariant-loop-c
invariant-loop-c l = is_text l.a l.b ≡ is_text l.chars l.others

abbrev pub decreases-loop-c : goal.decreases-loop-c
decreases-loop-c l = length l.chars
