-- Steps in turn.
use Rattle.std.specs.Prelude.{◌≡◌, ℕ, zero, suc, ◌<◌, List, [], ◌∷◌, ◌++◌, length}
use Rattle.mon_words.specs.Told.{Told, Grows}
use Rattle.mon_words.specs.Tallies.{positions}
use Rattle.mon_words.specs.declared.history.Board.{Board}
use Rattle.mon_words.specs.declared.history.Mark.{Mark}
use Rattle.mon_recorders.specs.declared.happening.Happening.{Happening}
use Rattle.mon_recorders.specs.declared.record.Record.{Record}
use Rattle.mon_recorders.specs.declared.record.Disabled.{Disabled}
use Rattle.mon_recorders.specs.Readings.{Span}
use Rattle.mon_recorders.specs.Boards.{reader, AreAt}
use Rattle.mon_hear.specs.declared.turns.Turn.{Turn}

abbrev pub events_of : List Turn → ℕ → List Happening
events_of [] k = []
events_of (t ∷ ts) zero = t.events
events_of (t ∷ ts) (suc k) = events_of ts k

-- each step's location is one of the board, and so are its events
abbrev pub AreTurns : Board → List Turn → Type 0
AreTurns b [] = Unit {0}
AreTurns b (t ∷ ts) = (t.location < length b.cells) × AreAt t.location t.events × AreTurns b ts

-- The first n of these steps were heard: by the positions at which the locations of this call were loaded.
pub record AllHeard (turns : List Turn) (n first : ℕ) (a b : Told) (old_records new_records : List Record) (old_disables new_disables : List Disabled) : Type 0 where
  pub marks : List Mark
  pub grows : Grows a b marks
  pub at : List ℕ
  pub count : length at ≡ n
  pub loaded : positions b.tally.loads ≡ positions a.tally.loads ++ at
  pub records : List Record
  pub disables : List Disabled
  pub records_are : new_records ≡ old_records ++ records
  pub disables_are : new_disables ≡ old_disables ++ disables
  pub span : Span (reader a.number a.first) (events_of turns) first at a.seen b.seen records disables
