use Rattle.std.proofs.Common.{◌≡◌}
use Rattle.mon_gate.specs.Seats.{Belongs}
use Rattle.mon_gate.proofs.tests.control.Given as goal

abbrev pub invariant-loop : goal.invariant-loop
invariant-loop g l = record {
  belongs : Belongs l.controller.chair l.gate;
  threads : l.controller.chair.me.0.threads ≡ 1;
}
