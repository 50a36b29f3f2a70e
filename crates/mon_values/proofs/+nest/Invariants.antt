use Rattle.std.proofs.Common.{◌≡◌, drop, map}
use Rattle.std.specs.Prelude.{nat_le}
use Rattle.mon_values.specs.Weights.{depth, greatest}
use Rattle.mon_values.proofs.+nest.Given as goal

abbrev pub invariant-weight::all_nest_at_most-loop-item : goal.invariant-weight::all_nest_at_most-loop-item
invariant-weight::all_nest_at_most-loop-item l = nat_le (greatest (map depth (drop l.item-index l.items))) l.limit ≡ nat_le (greatest (map depth l.items)) l.limit
