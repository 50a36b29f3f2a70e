use Rattle.std.proofs.Common.{◌≡◌, drop}
use Rattle.mon_builtins.specs.Literals.{after_blanks}
use Rattle.mon_builtins.proofs.literal.after_blanks.Given as goal

abbrev pub invariant-loop-i : goal.invariant-loop-i
invariant-loop-i l = after_blanks l.chars ≡ after_blanks (drop l.i l.chars)
