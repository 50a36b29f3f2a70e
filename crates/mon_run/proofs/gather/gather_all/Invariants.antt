use Rattle.std.proofs.Common.{◌≡◌, ◌+◌, length, All}
use Rattle.mon_gate.specs.Seats.{Belongs}
use Rattle.mon_gate.specs.declared.view.Phase.TheVariants.{Idle}
use Rattle.mon_control.specs.View.{Shown}
use Rattle.mon_run.specs.Tasks.{IsWorked}
use Rattle.mon_run.specs.Crowding.{Gathered}
use Rattle.mon_run.proofs.gather.gather_all.Given as goal

abbrev pub invariant-loop-task : goal.invariant-loop-task
invariant-loop-task l = record {
  gate : Belongs l.home.chair l.gate;
  idle : l.home.chair.me.0.phase ≡ Idle;
  first : l.home.chair.me.0.first ≡ l.fn.home.chair.me.0.first;
  tickets : l.home.chair.me.0.tickets ≡ l.fn.home.chair.me.0.tickets;
  wide : length l.slots ≡ length l.plan.threads;
  worked : All (IsWorked l.program l.plan l.home.chair.me.0.first l.gate) l.tasks.items;
  ended : length l.home.chair.me.0.ended + length l.tasks.items ≡ length l.fn.home.chair.me.0.ended + length l.fn.tasks.items;
  gathered : (c : Shown) → Gathered l.program l.plan c l.fn.home.chair.me.0 l.fn.slots → Gathered l.program l.plan c l.home.chair.me.0 l.slots;
}

abbrev pub decreases-loop-task : goal.decreases-loop-task
decreases-loop-task l = length l.tasks.items
