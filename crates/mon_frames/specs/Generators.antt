-- The moves of generators: how one is made, goes on, waits and is closed.
use Rattle.std.specs.Prelude.{ℕ, Bool, true, false, List, [], ◌∷◌, ◌++◌, length, Option, Some, None, Result, Ok, Err, slice_get, slice_set, if◌then◌else◌}
use Rattle.mon_values.specs.declared.value.Value.{Value}
use Rattle.mon_values.specs.declared.value.Value.TheOpen.{Value-F}
use Rattle.mon_values.specs.declared.value.Value.TheViews.{out-Value}
use Rattle.mon_values.specs.declared.value.Exc.{Exc}
use Rattle.mon_frames.specs.declared.frame.Frame.{Frame}
use Rattle.mon_frames.specs.declared.call.By.{By}
use Rattle.mon_frames.specs.declared.call.By.TheVariants as by
use Rattle.mon_frames.specs.declared.call.Call.{Call}
use Rattle.mon_frames.specs.declared.call.Origin.{Origin}
use Rattle.mon_frames.specs.declared.call.Origin.TheVariants.{Plain, Generator as Generated}
use Rattle.mon_frames.specs.declared.generator.Generator.{Generator}
use Rattle.mon_frames.specs.declared.generator.Generator.TheVariants.{NotStarted, Suspended, Running, Finished}
use Rattle.mon_frames.specs.declared.generator.Closing.{Closing}
use Rattle.mon_frames.specs.declared.fault.ResumeFault.{ResumeFault}
use Rattle.mon_frames.specs.declared.fault.ResumeFault.TheVariants as fault
use Rattle.mon_frames.specs.Views.{FramesView, has_room, on_top}

-- the frames with these generators
abbrev pub with_generators : FramesView → List Generator → FramesView
with_generators v generators = record v { generators = generators }

-- what follows the innermost frame, and the frame as one more generator; without a frame nothing changes
abbrev pub parked_in : FramesView → List Call → FramesView
parked_in v [] = v
parked_in v (call ∷ calls) = record v { calls = calls; generators = v.generators ++ NotStarted call.frame ∷ [] }

-- the innermost frame becomes a new generator, which is not started and has the next number
abbrev pub parked : FramesView → ℕ × FramesView
parked v = (length v.generators, parked_in v v.calls)

-- the generator of a frame waits with it; a frame that was called plainly has none
abbrev pub waiting_with : Frame → Origin → List Generator → List Generator
waiting_with frame Plain generators = generators
waiting_with frame (Generated number by) generators = slice_set generators number (Suspended frame)

abbrev pub suspended_in : FramesView → List Call → FramesView
suspended_in v [] = v
suspended_in v (call ∷ calls) = record v { calls = calls; generators = waiting_with call.frame call.origin v.generators }

-- the innermost frame is taken off, and its generator is suspended
abbrev pub suspended : FramesView → FramesView
suspended v = suspended_in v v.calls

-- the frame of a generator on top, where one more may stand; the generator runs
abbrev pub running : FramesView → ℕ → By → Frame → Result FramesView ResumeFault
running v number by frame =
    if has_room v.calls then Ok (on_top (with_generators v (slice_set v.generators number Running)) frame (Generated number by)) else Err fault.Full

-- a frame that waits for a value, with that value
abbrev pub sent_to : Frame → Value → Frame
sent_to frame x = record frame { stack = x ∷ frame.stack }

abbrev pub is_none_at : Value-F Value Exc → Bool
is_none_at Value-F.None = true
is_none_at _ = false

abbrev pub is_none : Value → Bool
is_none x = is_none_at (out-Value x)

-- without a generator there is none to go on, and nothing changes
abbrev pub resumed_in : FramesView → ℕ → Value → By → Option Generator → Result FramesView ResumeFault
resumed_in v number sent by None = Ok v
resumed_in v number sent by (Some Running) = Err fault.Running
resumed_in v number sent by (Some Finished) = Err fault.Finished
resumed_in v number sent by (Some (NotStarted frame)) = if is_none sent then running v number by (sent_to frame sent) else Err fault.NotNone
resumed_in v number sent by (Some (Suspended frame)) = running v number by (sent_to frame sent)

-- a generator goes on with a value, which is None where it is not started
abbrev pub resumed : FramesView → ℕ → Value → By → Result FramesView ResumeFault
resumed v number sent by = resumed_in v number sent by (slice_get v.generators number)

abbrev pub entered_in : FramesView → ℕ → By → Option Generator → Result FramesView ResumeFault
entered_in v number by None = Ok v
entered_in v number by (Some Running) = Err fault.Running
entered_in v number by (Some Finished) = Err fault.Finished
entered_in v number by (Some (NotStarted frame)) = running v number by frame
entered_in v number by (Some (Suspended frame)) = running v number by frame

-- a generator's frame on top without a value, for an exception that is thrown into it
abbrev pub entered : FramesView → ℕ → By → Result FramesView ResumeFault
entered v number by = entered_in v number by (slice_get v.generators number)

-- the builtin that closes a generator
abbrev pub close_number : ℕ
close_number = 13

abbrev pub entered_to_close : Result FramesView ResumeFault → Result (Closing × FramesView) ResumeFault
entered_to_close (Ok v) = Ok (Closing.Entered, v)
entered_to_close (Err f) = Err f

abbrev pub closed_in : FramesView → ℕ → Option Generator → Result (Closing × FramesView) ResumeFault
closed_in v number None = Ok (Closing.Closed, v)
closed_in v number (Some Running) = Err fault.Running
closed_in v number (Some Finished) = Ok (Closing.Closed, v)
closed_in v number (Some (NotStarted frame)) = Ok (Closing.Closed, with_generators v (slice_set v.generators number Finished))
closed_in v number (Some (Suspended frame)) = entered_to_close (running v number (by.Call close_number) frame)

-- a generator that is not started is finished; one that waits has its frame on top
abbrev pub closed : FramesView → ℕ → Result (Closing × FramesView) ResumeFault
closed v number = closed_in v number (slice_get v.generators number)

-- the frame of a generator that waits
abbrev pub waiting_frame : Generator → Option Frame
waiting_frame (NotStarted frame) = Some frame
waiting_frame (Suspended frame) = Some frame
waiting_frame Running = None
waiting_frame Finished = None

-- a generator that waits, with a value more on its stack
abbrev pub with_value : Value → Generator → Generator
with_value x (NotStarted frame) = NotStarted (sent_to frame x)
with_value x (Suspended frame) = Suspended (sent_to frame x)
with_value x Running = Running
with_value x Finished = Finished
