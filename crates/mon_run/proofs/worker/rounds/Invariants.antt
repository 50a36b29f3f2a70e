use Rattle.std.proofs.Common.{◌≡◌, ◌≤◌}
use Rattle.mon_board.specs.Views.{told_of}
use Rattle.mon_gate.specs.Seats.{Belongs}
use Rattle.mon_gate.specs.declared.view.Phase.TheVariants.{Out}
use Rattle.mon_forms.specs.declared.plan.Start.{Start}
use Rattle.mon_run.specs.Controlling.{SameShares}
use Rattle.mon_run.specs.Rounds.{Left}
use Rattle.mon_run.proofs.worker.rounds.Given as goal

abbrev pub invariant-loop : goal.invariant-loop
invariant-loop g l = record {
  next : (goal.iterator-loop g).can_next l.iterator';
  finite : (goal.iterator-loop g).is_finite l.iterator';
  gate : Belongs l.seat.chair l.gate;
  out : l.seat.chair.me.0.phase ≡ Out;
  number : l.seat.chair.me.0.number ≡ l.fn.seat.chair.me.0.number;
  shares : SameShares l.fn.seat.chair.me.0 l.seat.chair.me.0;
  count : l.seat.chair.me.0.stored ≤ l.thread.progress.steps;
  within : l.thread.progress.steps ≤ l.bound;
  left : (s : Start) → Left l.program s (told_of l.fn.seat.chair.me.0) l.fn.thread.progress → Left l.program s (told_of l.seat.chair.me.0) l.thread.progress;
}
