-- What an advance over a handle does: steps of the plain machine, each heard by the words at its position in their history.
use Rattle.std.specs.Prelude.{◌≡◌, ℕ, zero, suc, ◌+◌, ◌<◌, ◌≤◌, nat_lt, Bool, true, false, ◌||◌, cond, List, [], ◌∷◌, ◌++◌, length, take, slice_get, slice_index, slice_index_or, Option, Some, None}
use Rattle.mon_code.specs.declared.program.Code.{Code}
use Rattle.mon_code.specs.declared.program.Location.{Location}
use Rattle.mon_code.specs.Programs.{Parts, location_at}
use Rattle.mon_frames.specs.declared.call.Call.{Call}
use Rattle.mon_words.specs.History.{after, cell_at, offs, puts, Begins}
use Rattle.mon_words.specs.Told.{Told, Owns}
use Rattle.mon_words.specs.declared.history.Board.{Board}
use Rattle.mon_words.specs.declared.history.Mark.{Mark}
use Rattle.mon_words.specs.declared.tally.Load.{Load}
use Rattle.mon_recorders.specs.declared.happening.Happening.{Happening}
use Rattle.mon_recorders.specs.declared.record.Record.{Record}
use Rattle.mon_recorders.specs.declared.record.Disabled.{Disabled}
use Rattle.mon_recorders.specs.Happenings.{for_tools, is_global_kind}
use Rattle.mon_recorders.specs.Readings.{in_turn, Span, OneStep}
use Rattle.mon_recorders.specs.Boards.{is_enabled_by, reader}
use Rattle.mon_machine.specs.declared.mode.Mode.{Mode}
use Rattle.mon_machine.specs.State.{State, goes}
use Rattle.mon_machine.specs.Step.{step}
use Rattle.mon_machine.specs.Run.{after_steps, steps_done, printed_by, Goes}

-- what a thread has done: where it is, what it printed, its records and disables, and its number of steps
pub record Progress : Type 0 where
  pub state : State
  pub printed : List (List ℕ)
  pub records : List Record
  pub disables : List Disabled
  pub steps : ℕ

-- nothing yet
abbrev pub nothing_done : State → Progress
nothing_done s = record { state = s; printed = []; records = []; disables = []; steps = 0 }

-- An instruction that is due: the number of its location, and whether a thread polls before it.
pub record Due : Type 0 where
  pub location : ℕ
  pub is_safe : Bool

abbrev pub due_at : ℕ → Option Location → Option Due
due_at number None = None
due_at number (Some l) = Some (record { location = number; is_safe = l.is_safe })

abbrev pub due_in : Option Code → ℕ → Option Due
due_in None index = None
due_in (Some c) index = due_at (c.first + index) (location_at c index)

abbrev pub due_in_top : Parts → List Call → Option Due
due_in_top p [] = None
due_in_top p (call ∷ calls) = due_in (slice_get p.codes call.frame.code) call.frame.index

-- a call that goes on is at its own location again, and no thread polls before that
abbrev pub unpolled : Option Due → Option Due
unpolled None = None
unpolled (Some due) = Some (record due { is_safe = false })

abbrev pub due_in_mode : Parts → List Call → Mode → Option Due
due_in_mode p calls Mode.Run = due_in_top p calls
due_in_mode p calls (Mode.Unwind e) = None
due_in_mode p calls (Mode.Finish answer) = unpolled (due_in_top p calls)
due_in_mode p calls (Mode.Ended outcome) = None
due_in_mode p calls Mode.Stuck = None

-- the instruction of the next step, or the one that it finishes; an exception that goes on has none
unfoldable pub instruction_due : Parts → State → Option Due
instruction_due p s = due_in_mode p s.frames.calls s.mode

-- ---- loads

abbrev pub any_global : List Happening → Bool
any_global [] = false
any_global (e ∷ es) = is_global_kind e.kind || any_global es

-- a board enables one of these events for a tool
abbrev pub any_enabled : Board → ℕ → List Happening → Bool
any_enabled b tool [] = false
any_enabled b tool (e ∷ es) = is_enabled_by (cell_at b) b.global e.kind tool e.event || any_enabled b tool es

-- what these events need to be heard: the global word where one is global, and the callback word of each tool for which one
-- is enabled
abbrev pub loads_for : Board → List Happening → List Load
loads_for b es = cond (any_global es) (Load.Global ∷ []) [] ++ for_tools (λ t. any_enabled b t es) Load.Callbacks 6

abbrev pub location_load : Option Due → ℕ → List Load
location_load None at = []
location_load (Some due) at = Load.Location due.location at ∷ []

-- the loads of a step that reads at a position, where this board stands: its location, and what its events need
abbrev pub loads_of : Parts → State → Board → ℕ → List Load
loads_of p s b at = location_load (instruction_due p s) at ++ loads_for b (step p s).events

-- the board that a history shows at a position
abbrev pub board_at : Board → List Mark → ℕ → Board
board_at first seen at = after first (take at seen)

-- ---- steps

-- the events of the k-th step from a state
abbrev pub events_from : Parts → State → ℕ → List Happening
events_from p s k = (step p (after_steps p s k)).events

-- the loads of m steps, of which the k-th reads at the k-th position
abbrev pub loads_by : Parts → State → Board → List Mark → List ℕ → ℕ → List Load
loads_by p s first seen at m = in_turn (λ k. loads_of p (after_steps p s k) (board_at first seen (slice_index at k)) (slice_index at k)) m

-- One step was done over a handle, and read at this position. A step without an instruction reads at what was seen before it.
pub record RanStep (p : Parts) (at : ℕ) (a b : Told) (old new : Progress) : Type 0 where
  pub goes : goes old.state.mode ≡ true
  pub state : new.state ≡ (step p old.state).after
  pub printed : new.printed ≡ old.printed ++ (step p old.state).printed
  pub steps : new.steps ≡ old.steps + 1
  pub records : List Record
  pub disables : List Disabled
  pub records_are : new.records ≡ old.records ++ records
  pub disables_are : new.disables ≡ old.disables ++ disables
  pub reads : OneStep (reader a.number a.first) (step p old.state).events old.steps at a.seen b.seen records disables
  pub unwinds : instruction_due p old.state ≡ None → at ≡ length a.seen
  pub loads : b.tally.loads ≡ a.tally.loads ++ loads_of p old.state (board_at a.first b.seen at) at

-- Some steps were done over a handle, one for each of these positions, at which they read. Records, disables, and marks of
-- the thread are what they heard and answered; their loads are the only ones.
pub record Ran (p : Parts) (at : List ℕ) (a b : Told) (old new : Progress) : Type 0 where
  pub number : b.number ≡ a.number
  pub first : b.first ≡ a.first
  pub goes : Goes p old.state (length at)
  pub state : new.state ≡ after_steps p old.state (length at)
  pub printed : new.printed ≡ old.printed ++ printed_by p old.state (length at)
  pub steps : new.steps ≡ old.steps + length at
  pub records : List Record
  pub disables : List Disabled
  pub records_are : new.records ≡ old.records ++ records
  pub disables_are : new.disables ≡ old.disables ++ disables
  pub span : Span (reader a.number a.first) (events_from p old.state) old.steps at a.seen b.seen records disables
  pub loads : b.tally.loads ≡ a.tally.loads ++ loads_by p old.state a.first b.seen at (length at)

-- Within one stay: nothing was added to what was seen but disables, and of what is told only the thread's disables, polls,
-- loads, and tries to retire are others than before.
pub record Stays (a b : Told) : Type 0 where
  pub begins : Begins a.seen b.seen
  pub quiet : puts b.seen ≡ puts a.seen
  pub owns : Owns a → Owns b
  pub rest : b ≡ record a { seen = b.seen; own = b.own; tally = record a.tally { polls = b.tally.polls; polled = b.tally.polled; loads = b.tally.loads; retirements = b.tally.retirements; disables = b.tally.disables } }

-- Between two stays: more may have been seen, in which no disable is this thread's, and no load and no poll was made.
pub record Pauses (a b : Told) : Type 0 where
  pub number : b.number ≡ a.number
  pub first : b.first ≡ a.first
  pub begins : Begins a.seen b.seen
  pub own : offs a.number b.seen ≡ offs a.number a.seen
  pub loads : b.tally.loads ≡ a.tally.loads
  pub polls : b.tally.polls ≡ a.tally.polls
  pub polled : b.tally.polled ≡ a.tally.polled

-- ---- polls

abbrev pub polls_once : Option Due → ℕ
polls_once None = 0
polls_once (Some due) = cond due.is_safe 1 0

-- the polls of n steps: one before each instruction at which a thread may be stopped
unfoldable pub polls_of : Parts → State → ℕ → ℕ
polls_of p s zero = 0
polls_of p s (suc n) = polls_of p s n + polls_once (instruction_due p (after_steps p s n))

-- a poll was answered by yes
abbrev pub is_asked : Told → Told → Bool
is_asked a b = nat_lt a.tally.polled b.tally.polled

-- The polls were those of n steps, answered by no, and one more where the thread was asked to stop, the only one that was
-- answered by yes.
pub record Polled (p : Parts) (s : State) (n : ℕ) (asked : Bool) (a b : Told) : Type 0 where
  pub polls : b.tally.polls ≡ a.tally.polls + polls_of p s n + cond asked 1 0
  pub polled : b.tally.polled ≡ a.tally.polled + cond asked 1 0

-- the polls of one step
pub record PolledOnce (p : Parts) (s : State) (a b : Told) : Type 0 where
  pub polls : b.tally.polls ≡ a.tally.polls + polls_once (instruction_due p s)
  pub polled : b.tally.polled ≡ a.tally.polled

-- ---- a whole advance

-- A thread advanced by at most so many steps: by all, until it ended, or until it was asked to stop before an instruction.
pub record Advanced (p : Parts) (steps : ℕ) (a b : Told) (old new : Progress) : Type 0 where
  pub at : List ℕ
  pub ran : Ran p at a b old new
  pub within : length at ≤ steps
  -- a step without an instruction, as the first, reads at what was seen at entry
  pub unwinds : instruction_due p old.state ≡ None → slice_index_or at 0 (length a.seen) ≡ length a.seen
  pub polls : Polled p old.state (length at) (is_asked a b) a b
  pub asked : is_asked a b ≡ true → (length at < steps) × (goes new.state.mode ≡ true) × (polls_once (instruction_due p new.state) ≡ 1)
  pub spent : is_asked a b ≡ false → goes new.state.mode ≡ true → length at ≡ steps

-- what at most n steps of the plain run make of a thread, of which nothing is recorded
abbrev pub plain_after : Parts → ℕ → Progress → Progress
plain_after p n x = record {
  state = after_steps p x.state n;
  printed = x.printed ++ printed_by p x.state n;
  records = x.records;
  disables = x.disables;
  steps = x.steps + steps_done p x.state n;
}
