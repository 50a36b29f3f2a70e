use Rattle.std.proofs.Common.{◌≡◌, drop, map}
use Rattle.mon_values.specs.Limits.{written}
use Rattle.mon_values.specs.Printing.{printed, joined}
use Rattle.mon_values.proofs.+repr.Given as goal

abbrev pub invariant-print::write_items-loop-i : goal.invariant-print::write_items-loop-i
invariant-print::write_items-loop-i l = written l.out (joined (map (printed l.names) (drop l.i l.items))) ≡ written l.fn.out (joined (map (printed l.names) l.items))
