-- The words that are due for a configuration, and what the walks over the locations do.
use Rattle.std.specs.Prelude.{◌≡◌, ℕ, zero, suc, ◌+◌, ◌-◌, ◌^◌, ◌<◌, ◌≤◌, ◌==◌, Bool, true, false, not, ◌&&◌, List, [], ◌∷◌, ◌++◌, map, length, if◌then◌else◌, slice_index, slice_index_or}
use Rattle.mon_words.specs.Words.{normal}
use Rattle.mon_words.specs.History.{no_cell, cell_at}
use Rattle.mon_words.specs.Halted.{Halt}
use Rattle.mon_words.specs.declared.history.Board.{Board}
use Rattle.mon_words.specs.declared.history.Cell.{Cell}
use Rattle.mon_words.specs.declared.tally.Tally.{Tally}
use Rattle.mon_events.specs.Sets.{packed, slot_of, tool_of}
use Rattle.mon_code.specs.declared.site.Site.{Site}
use Rattle.mon_code.specs.Sites.{site_at}
use Rattle.mon_history.specs.Configuration.{Configuration}
use Rattle.mon_history.specs.Stands.{wants_bit, globals, callbacks}
use Rattle.mon_instrument.specs.declared.walking.Reach.{Reach}

-- the 24 want bits of a location
abbrev pub due_want : Configuration → Site → ℕ
due_want C site = packed (λ k. wants_bit C site (slot_of k) (tool_of k)) 24

abbrev pub due_live : Bool → ℕ → ℕ
due_live all live = if all then 2 ^ 24 - 1 else live

-- the cell with the want bits that are due, and with all live bits where `all` says so
abbrev pub due_cell : Configuration → Site → Bool → Cell → Cell
due_cell C site all c = record c { want = due_want C site; live = due_live all c.live }

abbrev pub walked_cell : Configuration → List Site → Bool → ℕ → Cell → Cell
walked_cell C sites all l c = due_cell C (site_at sites l) all c

abbrev pub is_reached : Reach → Site → Bool
is_reached Reach.Nowhere site = false
is_reached (Reach.Code code) site = site.code == code
is_reached Reach.Everywhere site = true

-- the reach names one of so many codes
abbrev pub IsReach : ℕ → Reach → Type 0
IsReach codes (Reach.Code code) = code < codes
IsReach codes _ = Unit {0}

-- the cell at a place, where only what is in reach is changed
abbrev pub reached_cell : Configuration → List Site → Reach → Bool → ℕ → Cell → Cell
reached_cell C sites reach all l c = if is_reached reach (site_at sites l) then walked_cell C sites all l c else c

-- each word is its own normal form
abbrev pub AllNormal : List (ℕ × ℕ) → Type 0
AllNormal [] = Unit {0}
AllNormal (w ∷ ws) = (normal w.1 ≡ w.1) × AllNormal ws

-- want bits or live bits differ
abbrev pub differs : Cell → Cell → Bool
differs c d = not ((c.want == d.want) && (c.live == d.live))

-- those of n numbers from `from` on that pass a test, in ascending order
abbrev pub chosen : (ℕ → Bool) → ℕ → ℕ → List ℕ
chosen test from zero = []
chosen test from (suc n) = chosen test from n ++ (if test (from + n) then (from + n) ∷ [] else [])

-- the tally with these locations read, and so many rewritten
abbrev pub walked_also : Tally → List ℕ → ℕ → Tally
walked_also tally reads rewrites = record tally { reads = tally.reads ++ reads; rewrites = tally.rewrites + rewrites }

-- The cells from a place on below another were changed by their places, by words in normal form; nothing else was. Those that
-- pass a test were read once each, and those whose bits were to differ were rewritten once each, all in ascending order.
pub record Walked (f : ℕ → Cell → Cell) (test : ℕ → Bool) (from to : ℕ) (old new : Halt) : Type 0 where
  pub cells : List Cell
  pub more : List (ℕ × ℕ)
  pub is : new ≡ record old { board = record old.board { cells = cells }; written = old.written ++ more; tally = walked_also old.tally (chosen test from (to - from)) (length more) }
  pub wide : length cells ≡ length old.board.cells
  pub inside : (l : ℕ) → from ≤ l → l < to → slice_index_or cells l no_cell ≡ f l (cell_at old.board l)
  pub below : (l : ℕ) → l < from → slice_index_or cells l no_cell ≡ cell_at old.board l
  pub above : (l : ℕ) → to ≤ l → slice_index_or cells l no_cell ≡ cell_at old.board l
  pub normals : AllNormal more
  pub stored : map (λ w. w.0) more ≡ chosen (λ l. differs (f l (cell_at old.board l)) (cell_at old.board l)) from (to - from)

-- the global word and the callback words of the first n tools were made those of the configuration; nothing else was changed
pub record Worded (C : Configuration) (n : ℕ) (old new : Halt) : Type 0 where
  pub words : List ℕ
  pub is : new ≡ record old { board = record old.board { global = globals C; callbacks = words } }
  pub six : length words ≡ length old.board.callbacks
  pub callbacks_are : (t : ℕ) → t < n → slice_index words t ≡ callbacks C t

-- the callback words of the tools 0 to 5
abbrev pub callback_words : Configuration → List ℕ
callback_words C = callbacks C 0 ∷ callbacks C 1 ∷ callbacks C 2 ∷ callbacks C 3 ∷ callbacks C 4 ∷ callbacks C 5 ∷ []

-- the board has the locations with their base opcodes, and a callback word for each tool
pub record IsLaidOut (sites : List Site) (b : Board) : Type 0 where
  pub wide : length b.cells ≡ length sites
  pub six : length b.callbacks ≡ 6
  pub bases : (l : ℕ) → l < length sites → (cell_at b l).base ≡ (site_at sites l).base

-- the words were made those of a configuration, by words in normal form: each location was read once, and those whose bits
-- were to differ were rewritten once each
pub record Applied (sites : List Site) (C : Configuration) (all : Bool) (old new : Halt) : Type 0 where
  pub board : Board
  pub more : List (ℕ × ℕ)
  pub is : new ≡ record old { board = board; written = old.written ++ more; tally = walked_also old.tally (chosen (λ _. true) 0 (length sites)) (length more) }
  pub laid : IsLaidOut sites board
  pub cells : (l : ℕ) → l < length sites → cell_at board l ≡ due_cell C (site_at sites l) all (cell_at old.board l)
  pub global_is : board.global ≡ globals C
  pub callbacks_are : (t : ℕ) → t < 6 → slice_index board.callbacks t ≡ callbacks C t
  pub normals : AllNormal more
  pub stored : map (λ w. w.0) more ≡ chosen (λ l. differs (due_cell C (site_at sites l) all (cell_at old.board l)) (cell_at old.board l)) 0 (length sites)
