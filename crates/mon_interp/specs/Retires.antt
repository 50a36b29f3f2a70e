-- The words that steps retire.
use Rattle.std.specs.Prelude.{◌≡◌, ℕ, ◌<◌, Bool, false, cond, List, [], ◌∷◌, ◌++◌, length, slice_index, get_or, Option, Some, None}
use Rattle.mon_code.specs.Programs.{Parts}
use Rattle.mon_words.specs.Words.{Shows}
use Rattle.mon_words.specs.History.{cell_at}
use Rattle.mon_words.specs.Told.{Told}
use Rattle.mon_words.specs.declared.history.Board.{Board}
use Rattle.mon_words.specs.declared.tally.Retirement.{Retirement}
use Rattle.mon_hear.specs.Hearing.{is_due}
use Rattle.mon_recorders.specs.Readings.{in_turn}
use Rattle.mon_machine.specs.State.{State}
use Rattle.mon_machine.specs.Run.{after_steps}
use Rattle.mon_machine.specs.Advances.{Progress, Due, Ran, instruction_due, board_at}

-- the word that a step loaded, and whether that gave way where the step tried to retire it
pub record Loaded : Type 0 where
  pub word : ℕ
  pub gave : Bool

abbrev pub not_loaded : Loaded
not_loaded = record { word = 0; gave = false }

-- what a step with this instruction, or none, tries to retire: the word that it loaded, once, where the opcode in place is
-- more than the enabled bits need
abbrev pub tries_of : Option Due → Loaded → List Retirement
tries_of None l = []
tries_of (Some due) l = cond (is_due l.word) (record { location = due.location; old = l.word; done = l.gave } ∷ []) []

-- the word is one that may stand for the cell of the instruction
abbrev pub IsLawful : Option Due → Board → ℕ → Type 0
IsLawful None b word = Unit {0}
IsLawful (Some due) b word = Shows (cell_at b due.location) word

-- what one step from a state retired, which read at this position
pub record RetiredOnce (p : Parts) (s : State) (at : ℕ) (a b : Told) : Type 0 where
  pub loaded : Loaded
  pub lawful : IsLawful (instruction_due p s) (board_at a.first b.seen at) loaded.word
  pub tries : b.tally.retirements ≡ a.tally.retirements ++ tries_of (instruction_due p s) loaded

-- what steps in turn retired, which read at these positions
pub record RetiredBy (p : Parts) (s : State) (at : List ℕ) (a b : Told) : Type 0 where
  pub loaded : List Loaded
  pub count : length loaded ≡ length at
  pub lawful : (k : ℕ) → k < length at → IsLawful (instruction_due p (after_steps p s k)) (board_at a.first b.seen (slice_index at k)) (get_or loaded k not_loaded).word
  pub tries : b.tally.retirements ≡ a.tally.retirements ++ in_turn (λ k. tries_of (instruction_due p (after_steps p s k)) (get_or loaded k not_loaded)) (length at)

-- the steps of an advance retired what is due, and nothing else
pub record Retired (p : Parts) (a b : Told) (old new : Progress) : Type 0 where
  pub at : List ℕ
  pub ran : Ran p at a b old new
  pub retired : RetiredBy p old.state at a b
