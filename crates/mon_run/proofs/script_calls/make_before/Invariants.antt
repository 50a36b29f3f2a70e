use Rattle.std.proofs.Common.{◌≡◌, length, take}
use Rattle.mon_gate.specs.Seats.{Belongs}
use Rattle.mon_run.specs.Turns.{AllZero, asked, first_calls}
use Rattle.mon_run.specs.Controlling.{Governs, SameShares, SameSizes}
use Rattle.mon_run.proofs.script_calls.make_before.Given as goal

abbrev pub invariant-loop-call : goal.invariant-loop-call
invariant-loop-call g l = record {
  gate : Belongs l.idle.chair l.lent.gate.now;
  shares : SameShares l.fn.idle.chair.me.0 l.idle.chair.me.0;
  sizes : SameSizes l.fn.control l.control;
  governs : Governs l.lent.program.now l.control l.idle.chair.me.0;
  asked_are : asked l.control.journal ≡ first_calls (take l.call-index l.lent.plan.now.before);
  zero : AllZero l.control.journal;
  many : length l.control.journal ≡ l.call-index;
}
