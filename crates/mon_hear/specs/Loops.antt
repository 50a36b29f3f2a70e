-- The LINE events of a loop under a callback that answers DISABLE, worked out over many steps.
use Rattle.std.specs.Prelude.{◌≡◌, ℕ, ◌*◌, List, [], ◌∷◌, ◌++◌, take, drop}
use Rattle.mon_events.specs.declared.event.Event.{Event}
use Rattle.mon_events.specs.declared.event.Slot.{Slot}
use Rattle.mon_words.specs.History.{after}
use Rattle.mon_words.specs.declared.history.Board.{Board}
use Rattle.mon_words.specs.declared.history.Cell.{Cell}
use Rattle.mon_recorders.specs.declared.happening.Happening.{Happening}
use Rattle.mon_recorders.specs.declared.happening.Kind.{Kind}
use Rattle.mon_recorders.specs.declared.record.Record.{Record}
use Rattle.mon_recorders.specs.declared.record.Disabled.{Disabled}
use Rattle.mon_recorders.specs.Happenings.{delivered, answers, records_in, disables_in}
use Rattle.mon_recorders.specs.Boards.{let_through, mark_of}

-- an event with the number of its step
pub record Numbered : Type 0 where
  pub step : ℕ
  pub event : Happening

abbrev line : ℕ → ℕ → ℕ → Numbered
line step location at = record { step = step; event = record { event = Event.Line; kind = Kind.Local location Slot.Line; code = 0; at = at; offset = 2 * location; dest = 0; first = []; second = [] } }

-- three turns of a loop: its head is line 3 at location 3, its body line 4 at location 7
abbrev loop : List Numbered
loop = line 1 1 2 ∷ line 3 3 3 ∷ line 7 7 4 ∷ line 12 3 3 ∷ line 16 7 4 ∷ line 21 3 3 ∷ line 25 7 4 ∷ line 30 3 3 ∷ line 34 12 5 ∷ []

-- all is live; LINE is wanted for tool 1 at the marked locations
abbrev cell : ℕ → Cell
cell want = record { base = 0; want = want; live = 16777215 }

-- tool 1 has a callback for LINE that answers DISABLE
abbrev board : Board
board = record {
  global = 0;
  callbacks = 0 ∷ 32768 ∷ 0 ∷ 0 ∷ 0 ∷ 0 ∷ [];
  cells = cell 0 ∷ cell 2 ∷ cell 0 ∷ cell 2 ∷ cell 0 ∷ cell 0 ∷ cell 0 ∷ cell 2 ∷ cell 0 ∷ cell 0 ∷ cell 0 ∷ cell 0 ∷ cell 2 ∷ [];
}

-- the board behind the answers to an event
abbrev behind : Board → Numbered → Board
behind b n = after b (delivered (answers (let_through b)) (mark_of 0) (n.event ∷ []))

-- what is heard of these events, from a board on
abbrev recorded_from : Board → List Numbered → List Record
recorded_from b [] = []
recorded_from b (n ∷ ns) = records_in (let_through b) n.step (n.event ∷ []) ++ recorded_from (behind b n) ns

abbrev disabled_from : Board → List Numbered → List Disabled
disabled_from b [] = []
disabled_from b (n ∷ ns) = disables_in (let_through b) n.step (n.event ∷ []) ++ disabled_from (behind b n) ns

abbrev rec : ℕ → ℕ → Record
rec step at = record { step = step; tool = 1; event = Event.Line; code = 0; at = at; dest = 0; first = []; second = [] }

abbrev off : ℕ → ℕ → Disabled
off step offset = record { step = step; tool = 1; event = Event.Line; code = 0; at = offset }

-- each location is heard once
abbrev pub HeardOnce : Type 0
HeardOnce = recorded_from board loop ≡ rec 1 2 ∷ rec 3 3 ∷ rec 7 4 ∷ rec 34 5 ∷ []

-- and disabled there
abbrev pub DisabledOnce : Type 0
DisabledOnce = disabled_from board loop ≡ off 1 2 ∷ off 3 6 ∷ off 7 14 ∷ off 34 24 ∷ []

-- where all was made live again behind the fifth event, once more
abbrev pub HeardAgain : Type 0
HeardAgain = (recorded_from board (take 5 loop) ++ recorded_from board (drop 5 loop)) ≡ rec 1 2 ∷ rec 3 3 ∷ rec 7 4 ∷ rec 21 3 ∷ rec 25 4 ∷ rec 34 5 ∷ []

abbrev pub DisabledAgain : Type 0
DisabledAgain = (disabled_from board (take 5 loop) ++ disabled_from board (drop 5 loop)) ≡ off 1 2 ∷ off 3 6 ∷ off 7 14 ∷ off 21 6 ∷ off 25 14 ∷ off 34 24 ∷ []
