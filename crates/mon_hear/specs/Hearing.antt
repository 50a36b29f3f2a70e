-- What a step does to a handle.
use Rattle.std.specs.Prelude.{◌≡◌, ℕ, ◌<◌, ◌%◌, ◌==◌, Bool, false, not, IsTrue, Option, Some, None, List, [], ◌∷◌, ◌++◌, length}
use Rattle.mon_words.specs.Words.{cell_of, form, need}
use Rattle.mon_words.specs.Told.{Told, Grows}
use Rattle.mon_words.specs.declared.tally.Load.{Load}
use Rattle.mon_words.specs.History.{after, cell_at}
use Rattle.mon_words.specs.declared.history.Board.{Board}
use Rattle.mon_words.specs.declared.history.Mark.{Mark}
use Rattle.mon_recorders.specs.declared.happening.Happening.{Happening}
use Rattle.mon_recorders.specs.declared.happening.Kind.{Kind}
use Rattle.mon_recorders.specs.declared.record.Record.{Record}
use Rattle.mon_recorders.specs.declared.record.Disabled.{Disabled}
use Rattle.mon_recorders.specs.Happenings.{delivered, answers, records_in, disables_in, is_global_kind}
use Rattle.mon_recorders.specs.Readings.{OneStep}
use Rattle.mon_recorders.specs.Boards.{let_through, mark_of, reader}
use Rattle.mon_hear.specs.Words.{any_global, callback_loads, loads}

-- disables alone
pub record Disabling (a b : Told) (marks : List Mark) : Type 0 where
  pub grows : Grows a b marks
  pub retirements : b.tally.retirements ≡ a.tally.retirements
  pub loads : b.tally.loads ≡ a.tally.loads

-- the kind's location is one of the board
abbrev pub IsWithin : Told → Kind → Type 0
IsWithin a (Kind.Local l s) = l < length a.first.cells
IsWithin a (Kind.Ancillary l) = Unit {0}
IsWithin a Kind.Global = Unit {0}

abbrev pub AreWithin : Told → List Happening → Type 0
AreWithin a [] = Unit {0}
AreWithin a (e ∷ es) = IsWithin a e.kind × AreWithin a es

-- and it has a slot
abbrev pub HasSlot : Told → Kind → Type 0
HasSlot a (Kind.Local l s) = l < length a.first.cells
HasSlot a (Kind.Ancillary l) = ⊥
HasSlot a Kind.Global = ⊥

-- the events of step number i were heard by the board of what was seen before
pub record Heard (i : ℕ) (events : List Happening) (a b : Told) (old_records new_records : List Record) (old_disables new_disables : List Disabled) : Type 0 where
  pub grows : Grows a b (delivered (answers (let_through (after a.first a.seen))) (mark_of a.number) events)
  pub records : new_records ≡ old_records ++ records_in (let_through (after a.first a.seen)) i events
  pub disables : new_disables ≡ old_disables ++ disables_in (let_through (after a.first a.seen)) i events

-- the opcode in place is more than the enabled bits need
abbrev pub is_due : ℕ → Bool
is_due word = not (word % 256 == form (cell_of word).base (need (cell_of word)))

-- one try to retire the word where that is due, and none where it is not
pub record Retiring (a b : Told) (location word : ℕ) : Type 0 where
  pub due : IsTrue (is_due word) → (done : Bool) × (b.tally.retirements ≡ a.tally.retirements ++ record { location = location; old = word; done = done } ∷ [])
  pub not_due : is_due word ≡ false → b.tally.retirements ≡ a.tally.retirements

-- Step number i at a location read the history where its word was loaded: once, and of the others those that its events need.
pub record StepHeard (i location : ℕ) (events : List Happening) (a b : Told) (old_records new_records : List Record) (old_disables new_disables : List Disabled) : Type 0 where
  pub at : ℕ
  pub records : List Record
  pub disables : List Disabled
  pub records_are : new_records ≡ old_records ++ records
  pub disables_are : new_disables ≡ old_disables ++ disables
  pub step : OneStep (reader a.number a.first) events i at a.seen b.seen records disables
  pub word : ℕ
  pub global : ℕ
  pub loaded : b.tally.loads ≡ a.tally.loads ++ Load.Location location at ∷ loads word global events
  pub retired : Retiring a b location word

-- the word of a location was loaded, and no other
pub record LoadsOnce (a b : Told) (location : ℕ) : Type 0 where
  pub at : ℕ
  pub loaded : b.tally.loads ≡ a.tally.loads ++ Load.Location location at ∷ []

abbrev pub IsLoaded : Option ℕ → ℕ → Type 0
IsLoaded (Some n) word = n ≡ word
IsLoaded None word = ⊥

-- all events are global
abbrev pub AreGlobal : List Happening → Type 0
AreGlobal [] = Unit {0}
AreGlobal (e ∷ es) = IsTrue (is_global_kind e.kind) × AreGlobal es

-- a step without a location reads at what was seen before, and has no disable
pub record UnwindingHeard (i : ℕ) (events : List Happening) (a b : Told) (old_records new_records : List Record) : Type 0 where
  pub records : List Record
  pub records_are : new_records ≡ old_records ++ records
  pub step : OneStep (reader a.number a.first) events i (length a.seen) a.seen b.seen records []

-- the word of a location, and the global word where an event is enabled by it, are those of what was seen before, since when
-- no board and no mark of this thread was added
pub record InHand (a b : Told) (location word global : ℕ) (events : List Happening) : Type 0 where
  pub grows : Grows a b []
  pub word_is : cell_of word ≡ cell_at (after a.first a.seen) location
  pub global_is : IsTrue (any_global events) → global ≡ (after a.first a.seen).global

-- by this board nothing is heard of these events and none is answered, and no callback word is due for them
pub record Unheard (b : Board) (word global : ℕ) (events : List Happening) : Type 0 where
  pub records : (i : ℕ) → records_in (let_through b) i events ≡ []
  pub disables : (i : ℕ) → disables_in (let_through b) i events ≡ []
  pub marks : (t : ℕ) → delivered (answers (let_through b)) (mark_of t) events ≡ []
  pub loads : callback_loads word global events 6 ≡ []
