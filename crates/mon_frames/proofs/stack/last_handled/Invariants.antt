use Rattle.std.proofs.Common.{◌≡◌, ◌≤◌, length, take, reverse}
use Rattle.mon_frames.specs.Views.{handled_in}
use Rattle.mon_frames.proofs.stack.last_handled.Given as goal

abbrev pub invariant-loop-at : goal.invariant-loop-at
invariant-loop-at l = record {
  within : l.at ≤ length l.calls;
  so_far : handled_in (reverse (take l.at l.calls)) ≡ handled_in (reverse l.calls);
}

abbrev pub decreases-loop-at : goal.decreases-loop-at
decreases-loop-at l = l.at
