-- Deliveries, worked out.
use Rattle.std.specs.Prelude.{◌≡◌, ℕ, List, [], ◌∷◌, codes}
use Rattle.mon_events.specs.declared.event.Event.{Event}
use Rattle.mon_events.specs.declared.event.Slot.{Slot}
use Rattle.mon_words.specs.declared.history.Board.{Board}
use Rattle.mon_words.specs.declared.history.Mark.TheVariants.{Off}
use Rattle.mon_recorders.specs.declared.happening.Happening.{Happening}
use Rattle.mon_recorders.specs.declared.happening.Kind.{Kind}
use Rattle.mon_recorders.specs.declared.record.Record.{Record}
use Rattle.mon_recorders.specs.Happenings.{delivered, answers, records_in, disables_in}
use Rattle.mon_recorders.specs.Boards.{let_through, mark_of}

abbrev happens : Event → Kind → Happening
happens event kind = record { event = event; kind = kind; code = 3; at = 16; offset = 16; dest = 0; first = codes "len"; second = [] }

-- a call that raises, and LINE before it
abbrev happened : List Happening
happened =
    record (happens Event.Line (Kind.Local 0 Slot.Line)) { at = 5; first = [] }
    ∷ happens Event.Call (Kind.Local 0 Slot.Main)
    ∷ happens Event.CRaise (Kind.Ancillary 0)
    ∷ happens Event.Raise Kind.Global
    ∷ []

-- LINE is wanted for tools 0 and 5, and CALL for all but 2; CALL is off for tool 5; RAISE is wanted for tools 2 and 5
abbrev board : Board
board = record {
  global = 36;
  -- CALL and C_RAISE kept; CALL, C_RAISE and LINE once; RAISE once; CALL by the value 3; none; LINE once, CALL once, RAISE kept
  callbacks = 20 ∷ 32808 ∷ 536870912 ∷ 12 ∷ 0 ∷ 268468232 ∷ [];
  cells = record { base = 28; want = 241697; live = 131071 } ∷ [];
}

abbrev recorded : Event → ℕ → ℕ → List ℕ → Record
recorded event tool at first = record { step = 9; tool = tool; event = event; code = 3; at = at; dest = 0; first = first; second = [] }

-- to each event the tools that hear it, in ascending order
abbrev pub HeardInTurn : Type 0
HeardInTurn = records_in (let_through board) 9 happened ≡
    recorded Event.Line 5 5 []
    ∷ recorded Event.Call 0 16 (codes "len")
    ∷ recorded Event.Call 1 16 (codes "len")
    ∷ recorded Event.CRaise 0 16 (codes "len")
    ∷ recorded Event.CRaise 1 16 (codes "len")
    ∷ recorded Event.Raise 2 16 (codes "len")
    ∷ recorded Event.Raise 5 16 (codes "len")
    ∷ []

-- DISABLE is answered to local events alone, and is told by the offset
abbrev pub DisabledInTurn : Type 0
DisabledInTurn = disables_in (let_through board) 9 happened ≡
    record { step = 9; tool = 5; event = Event.Line; code = 3; at = 16 }
    ∷ record { step = 9; tool = 1; event = Event.Call; code = 3; at = 16 }
    ∷ []

-- by its slot and tool
abbrev pub MarkedInTurn : Type 0
MarkedInTurn = delivered (answers (let_through board)) (mark_of 4) happened ≡ Off 4 0 5 ∷ Off 4 0 13 ∷ []
