-- The laws of histories.
use Rattle.std.specs.Prelude.{◌≡◌, ℕ, ◌<◌, ◌≤◌, List, length, take}
use Rattle.mon_code.specs.declared.site.Site.{Site}
use Rattle.mon_words.specs.History.{after}
use Rattle.mon_words.specs.declared.history.Board.{Board}
use Rattle.mon_words.specs.declared.history.Mark.{Mark}
use Rattle.mon_recorders.specs.declared.happening.Happening.{Happening}
use Rattle.mon_recorders.specs.declared.record.Record.{Record}
use Rattle.mon_recorders.specs.declared.record.Disabled.{Disabled}
use Rattle.mon_recorders.specs.Happenings.{answers, records_in, disables_in}
use Rattle.mon_recorders.specs.Boards.{let_through}
use Rattle.mon_recorders.specs.Proper.{IsProper, AreProper}
use Rattle.mon_history.specs.declared.journal.JournalLine.{JournalLine}
use Rattle.mon_history.specs.Heard.{heard_by}
use Rattle.mon_history.specs.Histories.{config_after, entries}
use Rattle.mon_history.specs.Readings.{LegalReading, Reads}
use Rattle.mon_history.specs.Stands.{StandsFor}

-- at each place of a word history that stands for a journal, the words let through what the configuration there lets through,
-- and answer what it answers
pub record LetsThrough (sites : List Site) (J : List JournalLine) (first : Board) (W : List Mark) (p : ℕ) : Type 0 where
  pub hears : (e : Happening) (t : ℕ) → IsProper sites e → t < 6 → (let_through (after first (take p W))).hears t e ≡ (heard_by (config_after J (entries 0 (take p W))) sites).hears t e
  pub answers_are : (e : Happening) (t : ℕ) → IsProper sites e → t < 6 → answers (let_through (after first (take p W))) t e ≡ answers (heard_by (config_after J (entries 0 (take p W))) sites) t e
  pub records : (i : ℕ) (es : List Happening) → AreProper sites es → records_in (let_through (after first (take p W))) i es ≡ records_in (heard_by (config_after J (entries 0 (take p W))) sites) i es
  pub disables : (i : ℕ) (es : List Happening) → AreProper sites es → disables_in (let_through (after first (take p W))) i es ≡ disables_in (heard_by (config_after J (entries 0 (take p W))) sites) i es

abbrev pub LetThrough : Type 0
LetThrough = (sites : List Site) (J : List JournalLine) (first : Board) (W : List Mark) (p : ℕ) → StandsFor sites J first W → p ≤ length W → LetsThrough sites J first W p

-- a thread that read a word history which stands for a journal read the history of its changes and disables legally
abbrev pub ReadLegally : Type 0
ReadLegally = (sites : List Site) (J : List JournalLine) (first : Board) (W : List Mark) (t : ℕ) (events : ℕ → List Happening) (at : List ℕ) (records : List Record) (disables : List Disabled)
    → StandsFor sites J first W → ((i : ℕ) → i < length at → AreProper sites (events i)) → Reads t first events at W records disables → LegalReading sites J (entries 0 W) t events at records disables
