use Rattle.std.proofs.Common.{◌≡◌, ◌≤◌}
use Rattle.mon_gate.specs.Seats.{Belongs}
use Rattle.mon_gate.specs.declared.view.Phase.TheVariants.{Out}
use Rattle.mon_gate.proofs.tests.work.Given as goal

abbrev pub invariant-loop-round : goal.invariant-loop-round
invariant-loop-round g l = record {
  belongs : Belongs l.seat.chair l.gate;
  out : l.seat.chair.me.0.phase ≡ Out;
  stored : l.seat.chair.me.0.stored ≤ l.round;
}
