-- What a handle tells, what each of its calls says of it, and what some calls do together.
use Rattle.std.specs.Prelude.{◌≡◌, ℕ, ◌≤◌, ◌<◌, ◌==◌, Bool, false, List, [], ◌∷◌, ◌++◌, Result, is_ok, IfErr, slice_index, length}
use Rattle.mon_words.specs.Words.{cell_of, Shows, mask_of, stop_bit}
use Rattle.mon_words.specs.History.{after, cell_at, offs, puts, Begins, Still, Between}
use Rattle.mon_words.specs.Tallies.{loaded_at, loaded_global, loaded_callbacks, disabled_once, tried, polled_once, entered_once}
use Rattle.mon_words.specs.declared.handle.WorldStopped.{WorldStopped}
use Rattle.mon_words.specs.declared.history.Board.{Board}
use Rattle.mon_words.specs.declared.history.Mark.{Mark}
use Rattle.mon_words.specs.declared.history.Mark.TheVariants.{Off}
use Rattle.mon_words.specs.declared.tally.Tally.{Tally}

pub record Told : Type 0 where
  -- the thread's number
  pub number : ℕ
  -- the board that stood before the history
  pub first : Board
  -- the history, as far as this thread has seen it
  pub seen : List Mark
  -- the thread's own disables
  pub own : List Mark
  pub attached : Bool
  -- the step count that the thread stored last
  pub count : ℕ
  -- what the thread has done
  pub tally : Tally

-- the thread's marks in what was seen are its own disables
abbrev pub Owns : Told → Type 0
Owns a = offs a.number a.seen ≡ a.own

-- the history goes on from what was seen; nothing was added but disables of others
pub record Extends (a : Told) (log : List Mark) : Type 0 where
  pub begins : Begins a.seen log
  pub quiet : puts log ≡ puts a.seen
  pub own : offs a.number log ≡ a.own

-- a load of a location gave a word, which is lawful at what is seen then
pub record Loads (a : Told) (location word : ℕ) (b : Told) : Type 0 where
  pub extends : Extends a b.seen
  pub rest : b ≡ record a { seen = b.seen; tally = loaded_at a.tally location (length b.seen) }
  pub shows : Shows (cell_at (after a.first b.seen) location) word
  -- base opcodes never change
  pub base : (cell_of word).base ≡ (cell_at a.first location).base

-- all ones but one live bit
abbrev pub OneBit : ℕ → Type 0
OneBit mask = (k : ℕ) × (k < 24) × (mask ≡ mask_of k)

-- a disable by the bit k of the location found a word: it was lawful at the history before the mark that was added
pub record Clears (a : Told) (location k word : ℕ) (b : Told) : Type 0 where
  pub before : List Mark
  pub extends : Extends a before
  pub rest : b ≡ record a { seen = before ++ Off a.number location k ∷ []; own = a.own ++ Off a.number location k ∷ []; tally = disabled_once a.tally }
  pub shows : Shows (cell_at (after a.first before) location) word

abbrev pub Disables : Told → ℕ → ℕ → ℕ → Told → Type 0
Disables a location mask word b = (k : ℕ) → k < 24 → mask ≡ mask_of k → Clears a location k word b

-- one try to retire: a word was found, which is lawful at what is seen then; it gave way exactly where it is the old one,
-- which is the answer
pub record Retires (a : Told) (location old : ℕ) (answer : Bool) (b : Told) : Type 0 where
  pub found : ℕ
  pub extends : Extends a b.seen
  pub rest : b ≡ record a { seen = b.seen; tally = tried a.tally location old answer }
  pub shows : Shows (cell_at (after a.first b.seen) location) found
  pub answer_is : answer ≡ (found == old)

-- a load of the global word
pub record LoadsGlobal (a : Told) (word : ℕ) (b : Told) : Type 0 where
  pub extends : Extends a b.seen
  pub rest : b ≡ record a { seen = b.seen; tally = loaded_global a.tally }
  pub shows : word ≡ (after a.first b.seen).global

-- a load of a tool's callback word
pub record LoadsCallbacks (a : Told) (tool word : ℕ) (b : Told) : Type 0 where
  pub extends : Extends a b.seen
  pub rest : b ≡ record a { seen = b.seen; tally = loaded_callbacks a.tally tool }
  pub shows : word ≡ slice_index (after a.first b.seen).callbacks tool

pub record Polls (a : Told) (answer : Bool) (b : Told) : Type 0 where
  pub owns : Owns b
  pub rest : b ≡ record a { tally = polled_once a.tally answer }

-- a try to enter: more may have been seen, in which no disable of this thread was added, and each board added has the
-- stored count as this thread's stop; a refusal carries a word with the stop bit
pub record Enters (a : Told) (answer : Result (Unit {0}) WorldStopped) (b : Told) : Type 0 where
  pub begins : Begins a.seen b.seen
  pub own : offs a.number b.seen ≡ a.own
  pub still : Still (length a.seen) a.number a.count b.seen
  pub rest : b ≡ record a { seen = b.seen; attached = is_ok answer; tally = entered_once a.tally }
  pub refused : IfErr answer (λ w. stop_bit ≤ w.0)

pub record Leaves (a : Told) (steps : ℕ) (b : Told) : Type 0 where
  pub owns : Owns b
  pub rest : b ≡ record a { attached = false; count = steps }

-- Over some calls within one stay more may have been seen, in which nothing was added but disables; those of this thread are
-- these marks. Beside it only loads, disables and tries to retire were told.
pub record Grows (a b : Told) (marks : List Mark) : Type 0 where
  pub begins : Begins a.seen b.seen
  pub quiet : puts b.seen ≡ puts a.seen
  pub owns : Owns a → Owns b
  pub own : b.own ≡ a.own ++ marks
  pub rest : b ≡ record a { seen = b.seen; own = b.own; tally = record a.tally { loads = b.tally.loads; retirements = b.tally.retirements; disables = b.tally.disables } }

-- Over any calls, and any rounds of entering and leaving, more may have been seen. The disables of this thread in it are these
-- marks; each board that was added has as this thread's stop a count from the one stored at first to the one stored last;
-- none was added without a try to enter.
pub record Continues (a b : Told) (marks : List Mark) : Type 0 where
  pub number : b.number ≡ a.number
  pub first : b.first ≡ a.first
  pub begins : Begins a.seen b.seen
  pub owns : Owns a → Owns b
  pub own : b.own ≡ a.own ++ marks
  pub more : a.count ≤ b.count
  pub between : Between (length a.seen) a.number a.count b.count b.seen
  pub entries : a.tally.entries ≤ b.tally.entries
  pub quiet : b.tally.entries ≡ a.tally.entries → puts b.seen ≡ puts a.seen
