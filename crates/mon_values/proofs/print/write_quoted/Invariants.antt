use Rattle.std.proofs.Common.{◌≡◌, ◌∷◌, [], drop}
use Rattle.std.specs.List.{flat_map}
use Rattle.mon_values.specs.Limits.{written}
use Rattle.mon_values.specs.Printing.{escaped}
use Rattle.mon_values.proofs.print.write_quoted.Given as goal

abbrev pub invariant-loop-c : goal.invariant-loop-c
invariant-loop-c l = written l.out (flat_map (escaped l.quote) (drop l.c-index l.text)) ≡ written l.fn.out (l.quote ∷ flat_map (escaped l.quote) l.text)
