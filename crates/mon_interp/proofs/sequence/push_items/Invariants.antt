use Rattle.std.proofs.Common.{◌≡◌, ◌++◌, ◌≤◌, drop}
use Rattle.mon_frames.specs.Items.{items_of, or_none}
use Rattle.mon_interp.proofs.sequence.push_items.Given as goal

abbrev pub invariant-loop-left : goal.invariant-loop-left
invariant-loop-left l = record {
  within : l.left ≤ l.count;
  pushed : l.stack ≡ drop l.left (or_none (items_of l.whole)) ++ l.initial.stack;
}

abbrev pub decreases-loop-left : goal.decreases-loop-left
decreases-loop-left l = l.left
