use Rattle.std.proofs.Common.{◌≡◌, ◌<◌, ℕ, take, Some, slice_get}
use Rattle.mon_machine.specs.Advances.{Progress}
use Rattle.mon_run.specs.Serial.{moves_all, rest_of_threads}
use Rattle.mon_run.specs.Replaying.{Holds, IsDone, progress_all, world_of}
use Rattle.mon_run.proofs.serial_run.finish_threads.Given as goal

abbrev pub invariant-loop-number : goal.invariant-loop-number
invariant-loop-number l = record {
  holds : Holds l.program l.plan l.replay.control l.replay.board.chair.me.0 (progress_all l.replay.threads.items) l.replay.made.items;
  world : world_of l.replay.board.chair.me.0 l.replay.control.journal (progress_all l.replay.threads.items) l.replay.made.items ≡ moves_all l.program l.plan (rest_of_threads l.plan.steps 0 (take l.number l.plan.threads)) (world_of l.fn.replay.board.chair.me.0 l.fn.replay.control.journal (progress_all l.fn.replay.threads.items) l.fn.replay.made.items);
  done : (t : ℕ) (q : Progress) → t < l.number → slice_get (progress_all l.replay.threads.items) t ≡ Some q → IsDone l.plan.steps q;
}
