use Rattle.std.proofs.Common.{◌≡◌}
use Rattle.mon_gate.specs.Seats.{Belongs}
use Rattle.mon_gate.specs.declared.view.Phase.TheVariants.{Attached}
use Rattle.mon_gate.proofs.tests.quieten.Given as goal

abbrev pub invariant-loop-tries : goal.invariant-loop-tries
invariant-loop-tries l = record {
  belongs : Belongs l.seat.chair l.gate;
  attached : l.seat.chair.me.0.phase ≡ Attached;
  stored : l.seat.chair.me.0.stored ≡ l.fn.seat.chair.me.0.stored;
  first : l.seat.chair.me.0.first ≡ l.fn.seat.chair.me.0.first;
}
