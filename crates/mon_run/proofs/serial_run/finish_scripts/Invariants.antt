use Rattle.std.proofs.Common.{◌≡◌, ◌+◌, ◌≤◌, length, take}
use Rattle.mon_run.specs.Serial.{moves_all, rest_of_scripts}
use Rattle.mon_run.specs.Replaying.{Holds, calls_left, progress_all, world_of}
use Rattle.mon_run.proofs.serial_run.finish_scripts.Given as goal

abbrev pub invariant-loop-number : goal.invariant-loop-number
invariant-loop-number l = record {
  holds : Holds l.program l.plan l.replay.control l.replay.board.chair.me.0 (progress_all l.replay.threads.items) l.replay.made.items;
  world : world_of l.replay.board.chair.me.0 l.replay.control.journal (progress_all l.replay.threads.items) l.replay.made.items ≡ moves_all l.program l.plan (rest_of_scripts 0 (take l.number l.plan.scripts)) (world_of l.fn.replay.board.chair.me.0 l.fn.replay.control.journal (progress_all l.fn.replay.threads.items) l.fn.replay.made.items);
  few : length l.replay.control.journal + calls_left l.plan.scripts l.replay.made.items ≤ 256;
}
