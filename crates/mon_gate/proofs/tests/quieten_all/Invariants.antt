use Rattle.std.proofs.Common.{◌≡◌, length}
use Rattle.mon_gate.specs.Seats.{Belongs}
use Rattle.mon_gate.specs.declared.view.Phase.TheVariants.{Attached}
use Rattle.mon_gate.proofs.tests.quieten_all.Given as goal

abbrev pub invariant-loop-location : goal.invariant-loop-location
invariant-loop-location g l = record {
  belongs : Belongs l.seat.chair l.gate;
  attached : l.seat.chair.me.0.phase ≡ Attached;
  stored : l.seat.chair.me.0.stored ≡ 0;
  wide : length l.seat.chair.me.0.first.cells ≡ 4;
}
