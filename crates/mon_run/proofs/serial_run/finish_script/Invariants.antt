use Rattle.std.proofs.Common.{◌≡◌, ◌+◌, ◌≤◌, length, replicate}
use Rattle.mon_forms.specs.declared.plan.Move.{Move}
use Rattle.mon_run.specs.Serial.{moves_all}
use Rattle.mon_run.specs.Replaying.{Holds, calls_left, progress_all, world_of}
use Rattle.mon_run.proofs.serial_run.finish_script.Given as goal

abbrev pub invariant-loop-call : goal.invariant-loop-call
invariant-loop-call l = record {
  holds : Holds l.program l.plan l.replay.control l.replay.board.chair.me.0 (progress_all l.replay.threads.items) l.replay.made.items;
  world : world_of l.replay.board.chair.me.0 l.replay.control.journal (progress_all l.replay.threads.items) l.replay.made.items ≡ moves_all l.program l.plan (replicate l._call (Move.Call l.number)) (world_of l.fn.replay.board.chair.me.0 l.fn.replay.control.journal (progress_all l.fn.replay.threads.items) l.fn.replay.made.items);
  few : length l.replay.control.journal + calls_left l.plan.scripts l.replay.made.items ≤ 256;
}
