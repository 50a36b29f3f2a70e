-- How a thread reads a history of changes and disables, and a word history.
use Rattle.std.specs.Prelude.{◌≡◌, ℕ, ◌<◌, ◌≤◌, ◌==◌, ◌↔◌, if◌then◌else◌, List, [], ◌∷◌, length, take, slice_get, slice_index, Some}
use Rattle.mon_events.specs.declared.event.Slot.{Slot}
use Rattle.mon_code.specs.declared.site.Site.{Site}
use Rattle.mon_words.specs.History.{offs}
use Rattle.mon_words.specs.declared.history.Board.{Board}
use Rattle.mon_words.specs.declared.history.Mark.{Mark}
use Rattle.mon_words.specs.declared.history.Mark.TheVariants.{Put}
use Rattle.mon_recorders.specs.declared.happening.Happening.{Happening}
use Rattle.mon_recorders.specs.declared.happening.Kind.{Kind}
use Rattle.mon_recorders.specs.declared.record.Record.{Record}
use Rattle.mon_recorders.specs.declared.record.Disabled.{Disabled}
use Rattle.mon_recorders.specs.Readings.{Reader, Span, entries_by}
use Rattle.mon_recorders.specs.Boards.{reader as word_reader}
use Rattle.mon_history.specs.Heard.{heard_by}
use Rattle.mon_history.specs.Histories.{config_after}
use Rattle.mon_history.specs.declared.journal.Entry.{Entry}
use Rattle.mon_history.specs.declared.journal.JournalLine.{JournalLine}

-- the disables of thread t
abbrev pub own : ℕ → List Entry → List Entry
own t [] = []
own t (Entry.Change number counts ∷ H) = own t H
own t (Entry.Disable u l s tool ∷ H) = if u == t then Entry.Disable u l s tool ∷ own t H else own t H

-- the entry of an answer of thread t; events without a slot are not answered
abbrev pub entry_at : Kind → ℕ → ℕ → Entry
entry_at (Kind.Local l s) t tool = Entry.Disable t l s tool
entry_at (Kind.Ancillary l) t tool = Entry.Disable t l Slot.Line tool
entry_at Kind.Global t tool = Entry.Disable t 0 Slot.Line tool

abbrev pub entry_of : ℕ → Happening → ℕ → Entry
entry_of t e tool = entry_at e.kind t tool

-- how thread t reads the changes and disables of a journal
abbrev pub reader : List Site → List JournalLine → ℕ → Reader Entry
reader sites J t = record { own = own t; entry = entry_of t; lets = λ H. heard_by (config_after J H) sites }

-- The steps of thread t, of which each has a position, had these events and read H legally: their records and disables are
-- those of the configurations that they read.
pub record LegalReading (sites : List Site) (J : List JournalLine) (H : List Entry) (t : ℕ) (events : ℕ → List Happening) (at : List ℕ) (records : List Record) (disables : List Disabled) : Type 0 where
  -- the positions never fall; the records and disables step by step; the disables of t in H are those of its steps, in order:
  -- those of a step stand from its position on, before the position of the next
  pub span : Span (reader sites J t) events 0 at [] H records disables
  -- step i reads exactly the changes whose count for t is at most i; no count is above the number of steps
  pub changes : (k number : ℕ) (counts : List ℕ) → slice_get H k ≡ Some (Entry.Change number counts)
      → (slice_index counts t ≤ length at) × ((i : ℕ) → i < length at → (k < slice_index at i) ↔ (slice_index counts t ≤ i))
  -- the disables of a step stand before each change whose count is above the step
  pub own_changes : (k number : ℕ) (counts : List ℕ) → slice_get H k ≡ Some (Entry.Change number counts) → own t (take k H) ≡ entries_by (reader sites J t) H at events (slice_index counts t)

-- the steps of thread t had these events and read a word history behind a first board
pub record Reads (t : ℕ) (first : Board) (events : ℕ → List Happening) (at : List ℕ) (log : List Mark) (records : List Record) (disables : List Disabled) : Type 0 where
  pub span : Span (word_reader t first) events 0 at [] log records disables
  pub changes : (k : ℕ) (stops : List ℕ) (b : Board) → slice_get log k ≡ Some (Put stops b)
      → (slice_index stops t ≤ length at) × ((i : ℕ) → i < length at → (k < slice_index at i) ↔ (slice_index stops t ≤ i))
  pub own_changes : (k : ℕ) (stops : List ℕ) (b : Board) → slice_get log k ≡ Some (Put stops b) → offs t (take k log) ≡ entries_by (word_reader t first) log at events (slice_index stops t)
