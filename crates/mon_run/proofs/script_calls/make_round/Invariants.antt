use Rattle.std.proofs.Common.{◌+◌, ◌≤◌, length, take}
use Rattle.mon_gate.specs.Seats.{Belongs}
use Rattle.mon_run.specs.Scripts.{round_from}
use Rattle.mon_run.specs.Controlling.{Governs, Grown, SameShares, SameSizes, calls_due}
use Rattle.mon_run.proofs.script_calls.make_round.Given as goal

abbrev pub invariant-loop-s : goal.invariant-loop-s
invariant-loop-s g l = record {
  gate : Belongs l.idle.chair l.lent.gate.now;
  shares : SameShares l.fn.idle.chair.me.0 l.idle.chair.me.0;
  sizes : SameSizes l.fn.control l.control;
  governs : Governs l.lent.program.now l.control l.idle.chair.me.0;
  grown : Grown l.fn.control.journal l.control.journal (round_from l.round 0 (take l.s l.lent.plan.now.scripts));
  few : length l.control.journal + calls_due l.round l.s l.lent.plan.now.scripts ≤ 256;
}
