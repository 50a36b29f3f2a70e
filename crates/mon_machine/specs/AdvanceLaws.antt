-- The laws of advances.
use Rattle.std.specs.Prelude.{◌≡◌, ℕ, ◌+◌, Bool, true, false, List, [], ◌∷◌, ◌++◌, length, slice_index, Option, Some, None, Result}
use Rattle.std.specs.List.{AllByRecursion}
use Rattle.mon_values.specs.declared.value.Value.{Value}
use Rattle.mon_events.specs.declared.event.Event.{Event}
use Rattle.mon_code.specs.declared.program.Code.{Code}
use Rattle.mon_code.specs.Programs.{Parts}
use Rattle.mon_words.specs.Words.{is_called, is_once}
use Rattle.mon_words.specs.History.{after, offs}
use Rattle.mon_words.specs.Tallies.{location_loads}
use Rattle.mon_words.specs.Told.{Told, Owns, Grows, Polls, Leaves, Enters, Continues}
use Rattle.mon_words.specs.declared.handle.WorldStopped.{WorldStopped}
use Rattle.mon_words.specs.declared.history.Board.{Board}
use Rattle.mon_words.specs.declared.history.Mark.{Mark}
use Rattle.mon_recorders.specs.declared.happening.Happening.{Happening}
use Rattle.mon_recorders.specs.declared.happening.Kind.{Kind}
use Rattle.mon_recorders.specs.Readings.{entries_by, in_turn}
use Rattle.mon_recorders.specs.Boards.{reader, AreAt}
use Rattle.mon_machine.specs.State.{State, start}
use Rattle.mon_machine.specs.Step.{step}
use Rattle.mon_machine.specs.Run.{after_steps}
use Rattle.mon_machine.specs.Bare.{IsBare}
use Rattle.mon_machine.specs.Serial.{HasLineWants, line_records}
use Rattle.mon_machine.specs.Laws.{IsCall}
use Rattle.mon_machine.specs.Advances.{Progress, nothing_done, Due, instruction_due, events_from, RanStep, Ran, Stays, Pauses, Polled, PolledOnce, Advanced, is_asked, plain_after}

-- an advance is made of its steps, and of the polls before them
pub record StepsAddUp : Type 0 where
  pub none : (p : Parts) (a : Told) (x : Progress) → Ran p [] a a x x
  pub more : (p : Parts) (at : List ℕ) (next : ℕ) (a b c : Told) (old mid new : Progress) → Ran p at a b old mid → Stays b c → RanStep p next b c mid new → Ran p (at ++ next ∷ []) a c old new
  pub no_polls : (p : Parts) (s : State) (a : Told) → Polled p s 0 false a a
  pub more_polls : (p : Parts) (s : State) (n : ℕ) (a b c : Told) → Polled p s n false a b → PolledOnce p (after_steps p s n) b c → Polled p s (n + 1) false a c

-- what a handle tells within a stay
pub record StayingAddsUp : Type 0 where
  pub none : (a : Told) → Stays a a
  pub both : (a b c : Told) → Stays a b → Stays b c → Stays a c
  pub grows : (a b : Told) (marks : List Mark) → Grows a b marks → Stays a b
  pub poll : (a b : Told) (answer : Bool) → Polls a answer b → Stays a b

-- and between two
pub record PausesAddUp : Type 0 where
  pub none : (a : Told) → Pauses a a
  pub both : (a b c : Told) → Pauses a b → Pauses b c → Pauses a c
  pub leave : (a b : Told) (steps : ℕ) → Leaves a steps b → Pauses a b
  pub enter : (a b : Told) (answer : Result (Unit {0}) WorldStopped) → Owns a → Enters a answer b → Pauses a b

-- two advances, between which a thread left and entered, are one
pub record RunsJoin : Type 0 where
  pub ran : (p : Parts) (at bt : List ℕ) (a b c d : Told) (old mid new : Progress) → Ran p at a b old mid → Pauses b c → Ran p bt c d mid new → Ran p (at ++ bt) a d old new
  pub polls : (p : Parts) (s : State) (m n : ℕ) (asked : Bool) (a b c d : Told) → Polled p s m false a b → Pauses b c → Polled p (after_steps p s m) n asked c d → Polled p s (m + n) asked a d

-- what an advance does to a handle, its disables being the answers of its steps
abbrev pub RunsContinue : Type 0
RunsContinue = (p : Parts) (at : List ℕ) (a b : Told) (old new : Progress) → Owns a → Ran p at a b old new → Stays a b
    → Continues a b (entries_by (reader a.number a.first) b.seen at (events_from p old.state) (length at))

-- the events of a step, where it has this instruction or none
abbrev pub StandAt : Option Due → List Happening → Type 0
StandAt None es = AllByRecursion (λ (e : Happening). e.kind ≡ Kind.Global) es
StandAt (Some due) es = AreAt due.location es

-- the events of an instruction are of its location, or global; without an instruction all are global
abbrev pub EventsStandAtSteps : Type 0
EventsStandAtSteps = (p : Parts) (s : State) → StandAt (instruction_due p s) (step p s).events

abbrev pub location_read : Option Due → ℕ → List (ℕ × ℕ)
location_read None at = []
location_read (Some due) at = (due.location, at) ∷ []

-- the loads of locations are one for each step with an instruction, of its location, at its position
abbrev pub LoadsStandAtSteps : Type 0
LoadsStandAtSteps = (p : Parts) (at : List ℕ) (a b : Told) (old new : Progress) → Ran p at a b old new
    → location_loads b.tally.loads ≡ location_loads a.tally.loads ++ in_turn (λ k. location_read (instruction_due p (after_steps p old.state k)) (slice_index at k)) (length at)

-- where nothing is wanted nothing is recorded, and a thread that was not asked to stop is where the plain run is
pub record BareRuns : Type 0 where
  pub ran : (p : Parts) (at : List ℕ) (a b : Told) (old new : Progress) → IsBare (after a.first a.seen) → Stays a b → Ran p at a b old new → new ≡ plain_after p (length at) old
  pub whole : (p : Parts) (steps : ℕ) (a b : Told) (old new : Progress) → IsBare (after a.first a.seen) → Stays a b → Advanced p steps a b old new → is_asked a b ≡ false → new ≡ plain_after p steps old

-- one tool keeps the LINE events of marked locations; no other event is enabled
pub record KeepsLines (p : Parts) (tool : ℕ) (b : Board) : Type 0 where
  pub wants : HasLineWants p tool b
  pub global : b.global ≡ 0
  pub called : is_called (slice_index b.callbacks tool) Event.Line ≡ true
  pub kept : is_once (slice_index b.callbacks tool) Event.Line ≡ false

-- a thread that runs alone from its start over such a board has no disable, and its LINE events for records
pub record KeptLines (p : Parts) (tool : ℕ) (n : ℕ) (b : Told) (s : State) (new : Progress) : Type 0 where
  pub seen : b.seen ≡ []
  pub records : new.records ≡ line_records p tool 0 s n
  pub disables : new.disables ≡ []

abbrev pub LinesAreKept : Type 0
LinesAreKept = (p : Parts) (k : ℕ) (c : Code) (args : List Value) → IsCall p k c args → (tool : ℕ) (at : List ℕ) (a b : Told) (old new : Progress) → KeepsLines p tool a.first
    → a.seen ≡ [] → offs a.number b.seen ≡ b.seen → old ≡ nothing_done (start c k args) → Ran p at a b old new → KeptLines p tool (length at) b (start c k args) new
