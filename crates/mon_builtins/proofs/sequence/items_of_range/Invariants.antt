use Rattle.std.proofs.Common.{◌≡◌}
use Rattle.mon_frames.specs.Items.{range_items}
use Rattle.mon_builtins.proofs.sequence.items_of_range.Given as goal

abbrev pub invariant-loop-place : goal.invariant-loop-place
invariant-loop-place l = l.items.items ≡ range_items l.start l.step 0 l.place
