use Rattle.std.proofs.Common.{◌≡◌, length}
use Rattle.mon_gate.specs.Seats.{Belongs}
use Rattle.mon_gate.proofs.tests.two_threads_quieten_the_same_locations.Given as goal

abbrev pub invariant-loop-location : goal.invariant-loop-location
invariant-loop-location g l = record {
  belongs : Belongs l.stopped.chair l.gate;
  threads : l.stopped.chair.me.0.threads ≡ 2;
  wide : length l.stopped.chair.me.0.first.cells ≡ 4;
}
