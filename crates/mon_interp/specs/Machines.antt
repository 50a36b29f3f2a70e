-- What a machine has done.
use Rattle.std.specs.Prelude.{◌≡◌, ℕ, ◌+◌, ◌<◌, ◌++◌, [], Bool, true, false, Some, slice_get}
use Rattle.mon_values.specs.declared.value.Exc.{Exc}
use Rattle.mon_code.specs.declared.program.Code.{Code}
use Rattle.mon_code.specs.declared.program.Location.{Location}
use Rattle.mon_code.specs.Programs.{Parts}
use Rattle.mon_frames.specs.declared.frame.Frame.{Frame}
use Rattle.mon_frames.specs.Views.{FramesView, top_of}
use Rattle.mon_words.specs.History.{after}
use Rattle.mon_words.specs.Told.{Told, Polls}
use Rattle.mon_hear.specs.Words.{loads}
use Rattle.mon_hear.specs.Hearing.{Heard, UnwindingHeard, Retiring}
use Rattle.mon_machine.specs.declared.mode.Answer.{Answer}
use Rattle.mon_machine.specs.declared.mode.Mode.{Mode}
use Rattle.mon_machine.specs.State.{State}
use Rattle.mon_machine.specs.Events.{answer_events}
use Rattle.mon_machine.specs.Step.{Step, unwinds, finished}
use Rattle.mon_machine.specs.Advances.{Progress, RanStep, PolledOnce, instruction_due, polls_once}
use Rattle.mon_interp.specs.declared.events.Place.{Place}
use Rattle.mon_interp.specs.declared.machine.Machine.{Machine}
use Rattle.mon_interp.specs.Places.{IsAt}
use Rattle.mon_interp.specs.Retires.{RetiredOnce}

abbrev pub state_of : Machine → State
state_of m = record { frames = m.frames; mode = m.mode }

abbrev pub progress_of : Machine → Progress
progress_of m = record { state = state_of m; printed = m.printed; records = m.records; disables = m.disables; steps = m.steps }

-- a call has its answer, and its finish step is still to be done
abbrev pub finishing : Answer → Progress → Progress
finishing a x = record x { state = record { frames = x.state.frames; mode = Mode.Finish a } }

-- the finish step of a call at this location, at which the innermost frame stands
abbrev pub answered_at : Parts → Answer → ℕ → Frame → FramesView → Step
answered_at p a location f v = record { after = finished v f a.result; printed = []; events = answer_events p a location f a.result }

-- A step was done, and heard by the words that stood before it: that of its location, and what its events need. The word of
-- its location was retired, where its opcode in place is more than its enabled bits need.
pub record HeardStep (s : Step) (location word : ℕ) (a b : Told) (old new : Progress) : Type 0 where
  pub state : new.state ≡ s.after
  pub printed : new.printed ≡ old.printed ++ s.printed
  pub steps : new.steps ≡ old.steps + 1
  pub heard : Heard old.steps s.events a b old.records new.records old.disables new.disables
  pub loads : b.tally.loads ≡ a.tally.loads ++ loads word (after a.first a.seen).global s.events
  pub retired : Retiring a b location word

-- the innermost frame stands at a location of its code
pub record StandsHere (p : Parts) (c : Code) (l : Location) (place : Place) (s : State) : Type 0 where
  pub frame : Frame
  pub top : top_of s.frames.calls ≡ Some frame
  pub code : Some c ≡ slice_get p.codes frame.code
  pub location : Some l ≡ slice_get c.locations frame.index
  pub at : IsAt place frame
  pub number : place.location ≡ c.first + frame.index
  pub small : frame.index < 65536

-- a step was done, and retired what is due
pub record DoneStep (p : Parts) (a b : Told) (old new : Progress) : Type 0 where
  pub at : ℕ
  pub ran : RanStep p at a b old new
  pub retired : RetiredOnce p old.state at a b

-- a step was done, or the thread was asked to stop before it
abbrev pub StepOrStop : Bool → Parts → Told → Told → Progress → Progress → Type 0
StepOrStop true p a b old new = DoneStep p a b old new × PolledOnce p old.state a b
StepOrStop false p a b old new = (new ≡ old) × Polls a true b × (polls_once (instruction_due p old.state) ≡ 1)

-- a step of the search for a handler was done, and heard
pub record RanUnwinding (p : Parts) (e : Exc) (a b : Told) (old new : Progress) : Type 0 where
  pub state : new.state ≡ (unwinds p old.state.frames e old.state.frames.calls).after
  pub printed : new.printed ≡ old.printed
  pub disables : new.disables ≡ old.disables
  pub steps : new.steps ≡ old.steps + 1
  pub heard : UnwindingHeard old.steps (unwinds p old.state.frames e old.state.frames.calls).events a b old.records new.records
  pub loads : b.tally.loads ≡ a.tally.loads ++ loads 0 (after a.first a.seen).global (unwinds p old.state.frames e old.state.frames.calls).events
  pub same : b.tally.retirements ≡ a.tally.retirements

-- a poll was made where one is due
abbrev pub PolledDue : Bool → Bool → Told → Told → Type 0
PolledDue true answer a b = Polls a answer b
PolledDue false answer a b = (answer ≡ false) × (b ≡ a)
