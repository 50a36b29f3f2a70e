use Rattle.std.proofs.Common.{take}
use Rattle.mon_parser.specs.Derives.{DeriveAll}
use Rattle.mon_parser.proofs.parser.parse.Given as goal

abbrev pub invariant-loop-item : goal.invariant-loop-item
invariant-loop-item l = DeriveAll (take l.item-index l.items) l.trees
