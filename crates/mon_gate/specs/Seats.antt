-- Which seats belong to a gate.
use Rattle.std.specs.Prelude.{◌≡◌, ℕ, List, [], ◌∷◌, ◌++◌, IsTrue, is_some}
use Rattle.atomic_table.specs.declared.shared.Seat.{Seat}
use Rattle.mon_words.specs.Words.{Shows}
use Rattle.mon_words.specs.History.{after, cell_at}
use Rattle.mon_words.specs.Standing.{noted_of}
use Rattle.mon_words.specs.declared.history.Mark.{Mark}
use Rattle.mon_words.specs.declared.history.Mark.TheVariants.{Off}
use Rattle.mon_gate.specs.Rule.{first_board}
use Rattle.mon_gate.specs.Plays.{Adds}
use Rattle.mon_gate.specs.declared.gate.Gate.{Gate}
use Rattle.mon_gate.specs.declared.view.View.{View}

-- it is a seat of the gate's table, and has its number of threads and its first board
pub record Belongs (s : Seat (Unit {0}) View) (g : Gate) : Type 0 where
  pub table : s.table_id ≡ g.table.shared.table_id
  pub threads : s.me.0.threads ≡ g.threads
  pub first : s.me.0.first ≡ first_board g.table.shared.key

-- the count of a thread was read in this stop
abbrev pub IsNoted : View → ℕ → Type 0
IsNoted v thread = IsTrue (is_some (noted_of v.noted thread))

-- A disable by the bit k of a location found this word: more had been seen before the mark, in which nothing was added but
-- disables of others, and the word was lawful there.
pub record Disabled (old : View) (number location k word : ℕ) (new : View) : Type 0 where
  pub before : List Mark
  pub adds : Adds old before
  pub seen : new.seen ≡ before ++ Off number location k ∷ []
  pub mine : new.mine ≡ old.mine ++ Off number location k ∷ []
  pub shows : Shows (cell_at (after old.first before) location) word
