-- What the last lines of frames are read for: events, and nothing else.
use Rattle.std.specs.Prelude.{◌≡◌, ℕ, map, None}
use Rattle.mon_code.specs.Programs.{Parts}
use Rattle.mon_frames.specs.declared.frame.Frame.{Frame}
use Rattle.mon_frames.specs.declared.call.Call.{Call}
use Rattle.mon_frames.specs.declared.generator.Generator.{Generator}
use Rattle.mon_frames.specs.declared.generator.Generator.TheVariants.{NotStarted, Suspended, Running, Finished}
use Rattle.mon_frames.specs.Views.{FramesView}
use Rattle.mon_machine.specs.State.{State}
use Rattle.mon_machine.specs.Run.{after_steps, printed_by}

abbrev pub unlined : Frame → Frame
unlined f = record f { line = None }

abbrev pub unlined_call : Call → Call
unlined_call call = record call { frame = unlined call.frame }

abbrev pub unlined_generator : Generator → Generator
unlined_generator (NotStarted f) = NotStarted (unlined f)
unlined_generator (Suspended f) = Suspended (unlined f)
unlined_generator Running = Running
unlined_generator Finished = Finished

-- all frames without their last lines
abbrev pub without_lines : FramesView → FramesView
without_lines v = record v { calls = map unlined_call v.calls; generators = map unlined_generator v.generators }

abbrev pub unlined_state : State → State
unlined_state s = record s { frames = without_lines s.frames }

-- a run from a state without last lines leads, but for these, where the run from the state does, and prints the same
pub record RunsAlike (p : Parts) (s : State) (n : ℕ) : Type 0 where
  pub state : unlined_state (after_steps p (unlined_state s) n) ≡ unlined_state (after_steps p s n)
  pub printed : printed_by p (unlined_state s) n ≡ printed_by p s n

abbrev pub LastLinesAreForEvents : Type 0
LastLinesAreForEvents = (p : Parts) (s : State) (n : ℕ) → RunsAlike p s n
