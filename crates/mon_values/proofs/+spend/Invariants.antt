use Rattle.std.proofs.Common.{◌≡◌, drop, map}
use Rattle.std.specs.Prelude.{sum}
use Rattle.mon_values.specs.Weights.{weight, left_of}
use Rattle.mon_values.proofs.+spend.Given as goal

abbrev pub invariant-weight::spend_items-loop-item : goal.invariant-weight::spend_items-loop-item
invariant-weight::spend_items-loop-item l = left_of l.left (sum (map weight (drop l.item-index l.items))) ≡ left_of l.budget (sum (map weight l.items))
