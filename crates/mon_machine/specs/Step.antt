-- One step of the plain machine, with all its events. No tools and no words stand here.
use Rattle.std.specs.Prelude.{ℕ, ◌+◌, List, [], ◌∷◌, Option, Some, None, Result, Ok, Err, slice_get}
use Rattle.mon_values.specs.declared.value.Value.{Value, Exc as Raised-value}
use Rattle.mon_values.specs.declared.value.Exc.{Exc}
use Rattle.mon_events.specs.declared.event.Event.{Event}
use Rattle.mon_events.specs.declared.op.Op.{Op}
use Rattle.mon_code.specs.declared.program.Code.{Code}
use Rattle.mon_code.specs.declared.program.Handler.{Handler}
use Rattle.mon_code.specs.declared.program.Location.{Location}
use Rattle.mon_code.specs.Programs.{Parts, op_at, location_at}
use Rattle.mon_frames.specs.declared.frame.Frame.{Frame}
use Rattle.mon_frames.specs.declared.call.By.TheVariants as by
use Rattle.mon_frames.specs.declared.call.Call.{Call}
use Rattle.mon_frames.specs.declared.call.Origin.{Origin}
use Rattle.mon_frames.specs.declared.call.Origin.TheVariants.{Generator as Generated}
use Rattle.mon_frames.specs.Calls.{handler_due}
use Rattle.mon_frames.specs.Items.{lowest}
use Rattle.mon_frames.specs.Views.{FramesView, without_top}
use Rattle.mon_recorders.specs.declared.report.Outcome.{Outcome}
use Rattle.mon_recorders.specs.declared.happening.Happening.{Happening}
use Rattle.mon_machine.specs.declared.mode.Answer.{Answer}
use Rattle.mon_machine.specs.declared.mode.Mode.{Mode}
use Rattle.mon_machine.specs.declared.mode.Ending.{Ending}
use Rattle.mon_machine.specs.State.{State, Move, with_frame, in_mode_of}
use Rattle.mon_machine.specs.Moves.{effect}
use Rattle.mon_machine.specs.Giving.{leaves, yields, parks, outside, raise_answer, answers_call}
use Rattle.mon_machine.specs.Events.{line_after, instruction_events, of_exception, answer_events}

pub record Step : Type 0 where
  pub after : State
  pub printed : List (List ℕ)
  pub events : List Happening

abbrev pub silent : State → Step
silent s = record { after = s; printed = []; events = [] }

abbrev pub stuck : FramesView → Step
stuck v = silent (in_mode_of v Mode.Stuck)

abbrev pub after_ending : Parts → FramesView → Ending → State
after_ending p v Ending.Continues = in_mode_of v Mode.Run
after_ending p v (Ending.Raises e) = in_mode_of v (Mode.Unwind e)
after_ending p v (Ending.Reraises e) = in_mode_of v (Mode.Unwind e)
after_ending p v (Ending.Returns x) = leaves p v v.calls x
after_ending p v (Ending.Yields x) = yields p v v.calls x
after_ending p v Ending.Parks = parks p v v.calls
after_ending p v (Ending.ThrowsIn e) = in_mode_of v (Mode.Unwind e)
after_ending p v Ending.Misses = in_mode_of v Mode.Stuck

abbrev pub with_line : Option ℕ → Frame → Frame
with_line line f = record f { line = line_after line f.line }

abbrev pub performed : Parts → Op → Location → ℕ → Frame → Move → Step
performed p op l location f m = record { after = after_ending p m.frames m.ending; printed = m.printed; events = instruction_events p op l.argument location l.line f m }

-- an instruction at a location, in the top frame
abbrev pub executed : Parts → Code → Op → Location → Frame → FramesView → Step
executed p c op l f v = performed p op l (c.first + f.index) f (effect p c op l.argument (with_line l.line f) (with_frame v (with_line l.line f)))

abbrev pub at_location : Parts → Code → Option Op → Option Location → Frame → FramesView → Step
at_location p c None l f v = stuck v
at_location p c (Some op) None f v = stuck v
at_location p c (Some op) (Some l) f v = executed p c op l f v

abbrev pub in_code : Parts → Option Code → Frame → FramesView → Step
in_code p None f v = stuck v
in_code p (Some c) f v = at_location p c (op_at p.bases c.first f.index) (location_at c f.index) f v

-- the instruction step
abbrev pub runs_top : Parts → FramesView → List Call → Step
runs_top p v [] = stuck v
runs_top p v (call ∷ calls) = in_code p (slice_get p.codes call.frame.code) call.frame v

-- at a handler, with as much on the stack and the handling list as it keeps, and with the exception above
abbrev pub caught_in : Handler → Exc → Frame → Frame
caught_in h e f = record f { index = h.to; stack = Raised-value e ∷ lowest h.stack f.stack; handling = lowest h.handling f.handling }

abbrev pub catches : Parts → FramesView → Handler → Exc → Frame → Step
catches p v h e f = record { after = in_mode_of (with_frame v (caught_in h e f)) Mode.Run; printed = []; events = of_exception p Event.ExceptionHandled e (caught_in h e f) ∷ [] }

-- PY_UNWIND, and RAISE where the exception goes on in the frame that made the call
abbrev pub goes_out : Parts → FramesView → List Call → Origin → Exc → Frame → Step
goes_out p v [] o e f = record { after = in_mode_of v (Mode.Ended (Outcome.Raised (outside o e))); printed = []; events = of_exception p Event.PyUnwind e f ∷ [] }
goes_out p v (call ∷ calls) (Generated number (by.Call builtin)) e f =
    record { after = answers_call v builtin number (raise_answer builtin (outside (Generated number (by.Call builtin)) e)); printed = []; events = of_exception p Event.PyUnwind e f ∷ [] }
goes_out p v (call ∷ calls) o e f =
    record { after = in_mode_of v (Mode.Unwind (outside o e)); printed = []; events = of_exception p Event.PyUnwind e f ∷ of_exception p Event.Raise (outside o e) call.frame ∷ [] }

abbrev pub unwinds_from : Parts → FramesView → Origin → Exc → Frame → Option Handler → Step
unwinds_from p v o e f (Some h) = catches p v h e f
unwinds_from p v o e f None = goes_out p (without_top v) (without_top v).calls o e f

-- the unwind step
abbrev pub unwinds : Parts → FramesView → Exc → List Call → Step
unwinds p v e [] = stuck v
unwinds p v e (call ∷ calls) = unwinds_from p v call.origin e call.frame (handler_due p call.frame.code call.frame.index)

abbrev pub finished : FramesView → Frame → Result Value Exc → State
finished v f (Ok x) = in_mode_of (with_frame v (record f { index = f.index + 1; stack = x ∷ f.stack })) Mode.Run
finished v f (Err e) = in_mode_of v (Mode.Unwind e)

abbrev pub finishes_at : Parts → FramesView → Answer → Code → Frame → Option Location → Step
finishes_at p v a c f None = stuck v
finishes_at p v a c f (Some l) = record { after = finished v f a.result; printed = []; events = answer_events p a (c.first + f.index) f a.result }

abbrev pub finishes_in : Parts → FramesView → Answer → Option Code → Frame → Step
finishes_in p v a None f = stuck v
finishes_in p v a (Some c) f = finishes_at p v a c f (location_at c f.index)

-- the finish step: the call at which the top frame stands has its answer
abbrev pub finishes : Parts → FramesView → Answer → List Call → Step
finishes p v a [] = stuck v
finishes p v a (call ∷ calls) = finishes_in p v a (slice_get p.codes call.frame.code) call.frame

-- a thread that does not go on stands still
abbrev pub in_mode : Parts → FramesView → Mode → Step
in_mode p v Mode.Run = runs_top p v v.calls
in_mode p v (Mode.Unwind e) = unwinds p v e v.calls
in_mode p v (Mode.Finish a) = finishes p v a v.calls
in_mode p v (Mode.Ended outcome) = silent (in_mode_of v (Mode.Ended outcome))
in_mode p v Mode.Stuck = stuck v

unfoldable pub step : Parts → State → Step
step p s = in_mode p s.frames s.mode
