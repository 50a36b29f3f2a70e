-- An advance, worked out: a tool that answers DISABLE hears of two lines.
use Rattle.std.specs.Prelude.{ℕ, Bool, true, false, List, [], ◌∷◌, Option, Some, None, codes}
use Rattle.mon_values.specs.declared.value.Value.{Bool as Truth}
use Rattle.mon_events.specs.declared.event.Event.{Event}
use Rattle.mon_code.specs.declared.program.Code.{Code}
use Rattle.mon_code.specs.declared.program.Location.{Location}
use Rattle.mon_code.specs.Programs.{Parts}
use Rattle.mon_words.specs.Told.{Told}
use Rattle.mon_words.specs.Tallies.{no_tally}
use Rattle.mon_words.specs.declared.history.Board.{Board}
use Rattle.mon_words.specs.declared.history.Cell.{Cell}
use Rattle.mon_words.specs.declared.history.Mark.{Mark}
use Rattle.mon_words.specs.declared.history.Mark.TheVariants.{Off}
use Rattle.mon_words.specs.declared.tally.Load.{Load}
use Rattle.mon_recorders.specs.declared.record.Record.{Record}
use Rattle.mon_recorders.specs.declared.record.Disabled.{Disabled}
use Rattle.mon_machine.specs.State.{State, start}
use Rattle.mon_machine.specs.Run.{after_steps}
use Rattle.mon_machine.specs.Advances.{Progress, nothing_done, Advanced}

abbrev location : Option ℕ → Bool → Bool → ℕ → Location
location line is_marked is_safe stack = record { argument = 0; line = line; is_marked = is_marked; is_safe = is_safe; handler = None; stack = stack; handling = 0 }

-- 1 def f():
-- 2     x = True
-- 3     return x
abbrev f : Code
f = record {
  parameters = 0;
  locals = codes "x" ∷ [];
  globals = [];
  constants = Truth true ∷ [];
  first = 0;
  locations = location None false true 0 ∷ location (Some 2) true false 0 ∷ location (Some 2) false false 1 ∷ location (Some 3) true false 0 ∷ location (Some 3) false false 1 ∷ [];
}

abbrev pub program : Parts
program = record { names = codes "f" ∷ []; constants = []; codes = f ∷ []; bases = 1 ∷ 2 ∷ 4 ∷ 3 ∷ 29 ∷ [] }

abbrev pub called : State
called = start f 0 []

abbrev cell : ℕ → ℕ → Cell
cell base want = record { base = base; want = want; live = 16777215 }

-- tool 1 wants LINE, with a callback that answers DISABLE
abbrev pub board : Board
board = record { global = 0; callbacks = 0 ∷ 32768 ∷ 0 ∷ 0 ∷ 0 ∷ 0 ∷ []; cells = cell 1 0 ∷ cell 2 2 ∷ cell 4 0 ∷ cell 3 2 ∷ cell 29 0 ∷ [] }

abbrev before : Told
before = record { number = 4; first = board; seen = []; own = []; attached = true; count = 0; tally = no_tally }

abbrev pub marks : List Mark
marks = Off 4 1 1 ∷ Off 4 3 1 ∷ []

-- each location was loaded when so much was seen, and the tool's callback word where it had an event; of the first location
-- alone there was a poll
abbrev later : Told
later = record before {
  seen = marks;
  own = marks;
  tally = record no_tally {
    polls = 1;
    loads = Load.Location 0 0 ∷ Load.Location 1 0 ∷ Load.Callbacks 1 ∷ Load.Location 2 1 ∷ Load.Location 3 1 ∷ Load.Callbacks 1 ∷ Load.Location 4 2 ∷ [];
    disables = 2;
  };
}

abbrev heard : ℕ → ℕ → Record
heard step line = record { step = step; tool = 1; event = Event.Line; code = 0; at = line; dest = 0; first = []; second = [] }

abbrev off : ℕ → ℕ → Disabled
off step offset = record { step = step; tool = 1; event = Event.Line; code = 0; at = offset }

-- the thread has ended before ten steps
abbrev ended : Progress
ended = record { state = after_steps program called 5; printed = []; records = heard 1 2 ∷ heard 3 3 ∷ []; disables = off 1 2 ∷ off 3 6 ∷ []; steps = 5 }

abbrev pub WorkedAdvance : Type 0
WorkedAdvance = Advanced program 10 before later (nothing_done called) ended
