use Rattle.std.proofs.Common.{drop}
use Rattle.mon_builtins.specs.Literals.{number_from}
use Rattle.mon_builtins.proofs.Numerals.{Reading}
use Rattle.mon_builtins.proofs.literal.number.Given as goal

abbrev pub invariant-loop-c : goal.invariant-loop-c
invariant-loop-c l = Reading (number_from 0 l.chars) l.after_digit l.sum (drop l.c-index l.chars)
