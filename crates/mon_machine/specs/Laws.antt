-- The laws of the plain machine.
use Rattle.std.specs.Prelude.{ℕ, ◌+◌, ◌<◌, ◌≤◌, ◌≡◌, Bool, true, false, List, ◌++◌, length, drop, Some, slice_get}
use Rattle.std.specs.List.{AllByRecursion}
use Rattle.mon_values.specs.declared.value.Value.{Value}
use Rattle.mon_events.specs.declared.event.Event.{Event}
use Rattle.mon_events.specs.declared.event.Slot.{Slot}
use Rattle.mon_code.specs.declared.program.Code.{Code}
use Rattle.mon_code.specs.declared.program.Location.{Location}
use Rattle.mon_code.specs.Programs.{Parts, location_at}
use Rattle.mon_code.specs.Checked.{IsChecked}
use Rattle.mon_code.specs.Sites.{sites_of}
use Rattle.mon_recorders.specs.Proper.{AreProper}
use Rattle.mon_frames.specs.declared.frame.Frame.{Frame}
use Rattle.mon_frames.specs.declared.call.Call.{Call}
use Rattle.mon_frames.specs.Views.{top_of}
use Rattle.mon_recorders.specs.declared.report.Outcome.{Outcome}
use Rattle.mon_recorders.specs.declared.happening.Happening.{Happening}
use Rattle.mon_recorders.specs.declared.happening.Kind.{Kind}
use Rattle.mon_recorders.specs.declared.happening.Kind.TheVariants.{Local, Global, Ancillary}
use Rattle.mon_machine.specs.declared.mode.Answer.{Answer}
use Rattle.mon_machine.specs.declared.mode.Mode.{Mode}
use Rattle.mon_machine.specs.State.{State, goes, start}
use Rattle.mon_machine.specs.Step.{step}
use Rattle.mon_machine.specs.Run.{after_steps, steps_done, printed_by, outcome_of, Goes, is_line}
use Rattle.mon_machine.specs.PlainRun.{state_at, events_at}

-- a run goes on by one step; a thread that goes on before each of n steps does n of them; where it then does not go on,
-- that is all that it ever does, and it stands still
pub record IsRun (p : Parts) (s : State) (n : ℕ) : Type 0 where
  pub one_more : after_steps p s (n + 1) ≡ (step p (after_steps p s n)).after
  pub does : Goes p s n → steps_done p s n ≡ n
  pub no_more : Goes p s n → goes (after_steps p s n).mode ≡ false → (later : ℕ) → n ≤ later → steps_done p s later ≡ n
  pub still : goes (after_steps p s n).mode ≡ false → (later : ℕ) → n ≤ later → after_steps p s later ≡ after_steps p s n

abbrev pub GoesOnByOne : Type 0
GoesOnByOne = (p : Parts) (s : State) (n : ℕ) → IsRun p s n

-- some steps and then more: where they lead and what they print; where the thread does not go on after the first, the
-- others do nothing
pub record IsSum (p : Parts) (s : State) (m n : ℕ) : Type 0 where
  pub state : after_steps p s (m + n) ≡ after_steps p (after_steps p s m) n
  pub printed : printed_by p s (m + n) ≡ printed_by p s m ++ printed_by p (after_steps p s m) n
  pub still : goes (after_steps p s m).mode ≡ false → after_steps p s (m + n) ≡ after_steps p s m
  pub silent : goes (after_steps p s m).mode ≡ false → printed_by p s (m + n) ≡ printed_by p s m

abbrev pub RunsAddUp : Type 0
RunsAddUp = (p : Parts) (s : State) (m n : ℕ) → IsSum p s m n

-- a code of a checked program is called with as many arguments as it has parameters
pub record IsCall (p : Parts) (k : ℕ) (c : Code) (args : List Value) : Type 0 where
  pub checked : IsChecked p
  pub found : slice_get p.codes k ≡ Some c
  pub count : length args ≡ c.parameters

-- no operand, no local, no location and no frame is ever missing
abbrev pub NeverStuck : Type 0
NeverStuck = (p : Parts) (k : ℕ) (c : Code) (args : List Value) → IsCall p k c args → (n : ℕ) → ¬ ((state_at p k c args n).mode ≡ Mode.Stuck)

-- a frame that has so many values more on its operand stack has the depths that its code records at an index
pub record FitsDepths (p : Parts) (f : Frame) (index more : ℕ) : Type 0 where
  pub code : Code
  pub found : slice_get p.codes f.code ≡ Some code
  pub location : Location
  pub stands : location_at code index ≡ Some location
  pub stack : more + length f.stack ≡ location.stack
  pub handling : length f.handling ≡ location.handling

-- before an instruction the top frame has the depths that are recorded there; each frame below waits for one value, with
-- which it has those of the index behind its call, and so does the top frame where its call has an answer
pub record HasDepths (p : Parts) (s : State) : Type 0 where
  pub top : s.mode ≡ Mode.Run → (f : Frame) × (top_of s.frames.calls ≡ Some f) × FitsDepths p f f.index 0
  pub answered : (a : Answer) → s.mode ≡ Mode.Finish a → (f : Frame) × (top_of s.frames.calls ≡ Some f) × FitsDepths p f (f.index + 1) 1
  pub callers : goes s.mode ≡ true → AllByRecursion (λ (call : Call). FitsDepths p call.frame (call.frame.index + 1) 1) (drop 1 s.frames.calls)

-- at each step of a call the depths are as they are recorded
abbrev pub DepthsAsRecorded : Type 0
DepthsAsRecorded = (p : Parts) (k : ℕ) (c : Code) (args : List Value) → IsCall p k c args → (n : ℕ) → HasDepths p (state_at p k c args n)

-- a run has the limit for its outcome exactly where the thread still goes on after n steps, all of which it did
pub record LimitIsBound (p : Parts) (s : State) (n : ℕ) : Type 0 where
  pub reached : outcome_of (after_steps p s n).mode ≡ Outcome.Limit → (goes (after_steps p s n).mode ≡ true) × (steps_done p s n ≡ n)
  pub otherwise : goes (after_steps p s n).mode ≡ true → outcome_of (after_steps p s n).mode ≡ Outcome.Limit

abbrev pub LimitsAreBounds : Type 0
LimitsAreBounds = (p : Parts) (k : ℕ) (c : Code) (args : List Value) → IsCall p k c args → (n : ℕ) → LimitIsBound p (start c k args) n

-- what happens stands at a marked location of its code, and has the line of that location
pub record AtMarked (p : Parts) (h : Happening) : Type 0 where
  pub code : Code
  pub found : slice_get p.codes h.code ≡ Some code
  pub index : ℕ
  pub location : Location
  pub stands : location_at code index ≡ Some location
  pub marked : location.is_marked ≡ true
  pub line : location.line ≡ Some h.at
  pub kind : h.kind ≡ Local (code.first + index) Slot.Line

abbrev pub is_line_kind : Kind → Bool
is_line_kind (Local location slot) = is_line slot
is_line_kind Global = false
is_line_kind (Ancillary location) = false

-- LINE events, and no others, have the kind of one, and stand at marked locations
pub record MarksLine (p : Parts) (h : Happening) : Type 0 where
  pub marked : h.event ≡ Event.Line → AtMarked p h
  pub alone : is_line_kind h.kind ≡ true → h.event ≡ Event.Line

abbrev pub LineMarks : Type 0
LineMarks = (p : Parts) (k : ℕ) (c : Code) (args : List Value) → IsCall p k c args → (n : ℕ) → AllByRecursion (MarksLine p) (events_at p k c args n)

-- and each event stands where its kind says
abbrev pub ProperEvents : Type 0
ProperEvents = (p : Parts) (k : ℕ) (c : Code) (args : List Value) → IsCall p k c args → (n : ℕ) → AreProper (sites_of p) (step p (after_steps p (start c k args) n)).events

-- what happens names a code of the program
abbrev pub NamesCode : Parts → Happening → Type 0
NamesCode p h = h.code < length p.codes

abbrev pub EventsNameCodes : Type 0
EventsNameCodes = (p : Parts) (k : ℕ) (c : Code) (args : List Value) → IsCall p k c args → (n : ℕ) → AllByRecursion (NamesCode p) (events_at p k c args n)
