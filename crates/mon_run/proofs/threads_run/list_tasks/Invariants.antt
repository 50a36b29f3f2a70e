use Rattle.std.proofs.Common.{◌≡◌, ◌+◌, ◌<◌, length, All}
use Rattle.std.specs.Prelude.{vec_capacity}
use Rattle.mon_gate.specs.Seats.{Belongs}
use Rattle.mon_run.specs.Tasks.{IsJob}
use Rattle.mon_run.proofs.threads_run.list_tasks.Given as goal

abbrev pub invariant-loop-turn : goal.invariant-loop-turn
invariant-loop-turn g l = record {
  gate : Belongs l.first.chair l.lent.gate.now;
  view : l.first.chair.me.0 ≡ record l.fn.first.chair.me.0 { tickets = l.first.chair.me.0.tickets };
  tickets : l.first.chair.me.0.tickets + l._turn ≡ l.fn.first.chair.me.0.tickets;
  many : length l.tasks.items ≡ l._turn;
  room : length l.lent.plan.now.threads < vec_capacity l.tasks;
  due : All (IsJob l.lent.program.now l.lent.plan.now l.fn.first.chair.me.0.first l.lent.gate.now) l.tasks.items;
}
