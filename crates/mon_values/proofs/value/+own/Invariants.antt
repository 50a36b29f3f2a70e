use Rattle.std.proofs.Common.{◌≡◌, take}
use Rattle.mon_values.proofs.value.+own.Given as goal

abbrev pub invariant-own_items-loop-item : goal.invariant-own_items-loop-item
invariant-own_items-loop-item l = l.copies.items ≡ take l.item-index l.items
