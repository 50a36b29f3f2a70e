-- Rows, worked out.
use Rattle.std.specs.Prelude.{◌≡◌, ℕ, List, [], ◌∷◌, codes}
use Rattle.mon_events.specs.declared.event.Event.{Event}
use Rattle.mon_recorders.specs.declared.record.Record.{Record}
use Rattle.mon_recorders.specs.declared.report.Outcome.{Outcome}
use Rattle.mon_recorders.specs.declared.report.ThreadReport.{ThreadReport}
use Rattle.mon_recorders.specs.declared.rows.Counting.{Counting}
use Rattle.mon_recorders.specs.declared.rows.Row.{Row}
use Rattle.mon_recorders.specs.Rows.{rows, coverage}

-- a line of a code, and a call and a branch of it, for tool 1
abbrev line : ℕ → ℕ → Record
line code at = record { step = 9; tool = 1; event = Event.Line; code = code; at = at; dest = 0; first = []; second = [] }

abbrev call : ℕ → List ℕ → Record
call code name = record (line code 4) { event = Event.Call; first = name }

abbrev branch : ℕ → ℕ → ℕ → Record
branch code at dest = record (line code at) { event = Event.Branch; dest = dest }

abbrev thread : List Record → ThreadReport
thread records = record { printed = []; records = records; disables = []; steps = 10; outcome = Outcome.Limit }

abbrev row : ℕ → List ℕ → List ℕ → Row
row code name numbers = record { code = code; name = name; numbers = numbers }

-- the records of two threads; those of another tool are not counted
abbrev threads : List ThreadReport
threads =
    thread (line 1 7 ∷ call 1 (codes "str") ∷ line 0 3 ∷ branch 0 6 20 ∷ record (line 0 3) { tool = 2 } ∷ line 1 5 ∷ line 0 3 ∷ call 1 (codes "len") ∷ [])
    ∷ thread (line 1 7 ∷ branch 0 6 8 ∷ call 0 (codes "str") ∷ call 1 (codes "str") ∷ branch 0 6 20 ∷ branch 0 2 20 ∷ [])
    ∷ []

abbrev pub LinesOfAllThreads : Type 0
LinesOfAllThreads = rows Counting.Lines 1 threads ≡ row 0 [] (3 ∷ 2 ∷ []) ∷ row 1 [] (5 ∷ 1 ∷ []) ∷ row 1 [] (7 ∷ 2 ∷ []) ∷ []

-- by code and then by name
abbrev pub CallsByName : Type 0
CallsByName = rows Counting.Calls 1 threads ≡ row 0 (codes "str") (1 ∷ []) ∷ row 1 (codes "len") (1 ∷ []) ∷ row 1 (codes "str") (2 ∷ []) ∷ []

-- by offset and then by destination
abbrev pub BranchesBySide : Type 0
BranchesBySide = rows Counting.Branches 1 threads ≡ row 0 [] (2 ∷ 20 ∷ 1 ∷ []) ∷ row 0 [] (6 ∷ 8 ∷ 1 ∷ []) ∷ row 0 [] (6 ∷ 20 ∷ 2 ∷ []) ∷ []

abbrev pub LinesCovered : Type 0
LinesCovered = coverage 1 threads ≡ row 0 [] (3 ∷ []) ∷ row 1 [] (5 ∷ 7 ∷ []) ∷ []
