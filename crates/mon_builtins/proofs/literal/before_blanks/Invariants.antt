use Rattle.std.proofs.Common.{◌≡◌, ◌≤◌, length, take, reverse}
use Rattle.mon_builtins.specs.Literals.{after_blanks}
use Rattle.mon_builtins.proofs.literal.before_blanks.Given as goal

abbrev pub invariant-loop-end : goal.invariant-loop-end
invariant-loop-end l = record {
  within : l.end ≤ length l.chars;
  so_far : after_blanks (reverse l.chars) ≡ after_blanks (reverse (take l.end l.chars));
}

abbrev pub decreases-loop-end : goal.decreases-loop-end
decreases-loop-end l = l.end
