-- What the execution of an instruction answers.
use Rattle.std.specs.Prelude.{◌≡◌, ℕ, ◌<◌, nat_lt, Bool, true, false, List, [], ◌∷◌, length, Option, Some, None}
use Rattle.std.specs.declared.vec.Vec.{Vec}
use Rattle.std.specs.declared.alloc.Global.{Global}
use Rattle.mon_values.specs.declared.value.Value.{Value}
use Rattle.mon_frames.specs.Views.{FramesView}
use Rattle.mon_frames.specs.declared.frame.Frame.{Frame}
use Rattle.mon_frames.specs.declared.call.Call.{Call}
use Rattle.mon_events.specs.declared.event.Event.{Event}
use Rattle.mon_values.specs.declared.value.Exc.{Exc}
use Rattle.mon_machine.specs.declared.mode.Ending.{Ending}
use Rattle.mon_machine.specs.State.{State, FrameMove, Move}
use Rattle.mon_code.specs.Programs.{Parts}
use Rattle.mon_machine.specs.Step.{after_ending}
use Rattle.mon_machine.specs.Moves.{callee_in, args_in, below_in, with_stack}
use Rattle.mon_interp.specs.declared.done.Done.{Done}

-- the move of a frame that is now so, where its instruction ends; nothing, for an instruction that is none of its own frame
abbrev pub frame_move : Frame → Option Ending → Option FrameMove
frame_move f None = None
frame_move f (Some ending) = Some (record { frame = f; ending = ending })

-- there is an innermost frame, and it stands at an index that a code may have
abbrev pub Stands : List Call → Type 0
Stands [] = ⊥
Stands (call ∷ calls) = call.frame.index < 65536

-- how a thread goes on after a move
abbrev pub ended_by : Parts → Move → State
ended_by p m = after_ending p m.frames m.ending

abbrev pub texts : Option (List ℕ) → List (List ℕ)
texts None = []
texts (Some text) = text ∷ []

-- the move of frames that are now so, where the instruction is done
abbrev pub frames_move : FramesView → Done → Move
frames_move v done = record { frames = v; ending = done.ending; printed = texts done.printed; ancillary = done.ancillary }

-- an instruction that ended so, and did nothing else but to the frames
abbrev pub plainly : Ending → Done
plainly ending = record { ending = ending; printed = None; ancillary = None }

-- a builtin or a class raised
abbrev pub thrown : Exc → Done
thrown e = record { ending = Ending.Raises e; printed = None; ancillary = Some Event.CRaise }

-- the callee and the arguments of a call were taken, or nothing was
abbrev pub TakesCall : ℕ → Option (Value × Vec Value Global) → Frame → Frame → Type 0
TakesCall count None old new = (callee_in count old.stack ≡ None) × (new ≡ old)
TakesCall count (Some (callee, args)) old new = (callee_in count old.stack ≡ Some callee) × (args.items ≡ args_in count old.stack) × (new ≡ with_stack old (below_in count old.stack))

-- an instruction raises, anew or again, in its own frame, or in the generator whose frame is then on top
abbrev pub raises : List Call → Ending → Bool
raises calls (Ending.Raises e) = true
raises calls (Ending.Reraises e) = true
raises calls (Ending.ThrowsIn e) = nat_lt 0 (length calls)
raises calls _ = false
