-- What one tool hears that listens to LINE everywhere, alone.
use Rattle.std.specs.Prelude.{ℕ, zero, suc, ◌+◌, ◌^◌, ◌<◌, ◌≡◌, ◌==◌, Bool, false, ◌&&◌, List, [], ◌∷◌, ◌++◌, length, Some, slice_get, if◌then◌else◌}
use Rattle.mon_code.specs.declared.program.Code.{Code}
use Rattle.mon_code.specs.declared.program.Location.{Location}
use Rattle.mon_code.specs.Programs.{Parts, location_at}
use Rattle.mon_words.specs.declared.history.Board.{Board}
use Rattle.mon_words.specs.History.{cell_at}
use Rattle.mon_recorders.specs.declared.record.Record.{Record}
use Rattle.mon_recorders.specs.declared.happening.Kind.{Kind}
use Rattle.mon_recorders.specs.declared.happening.Kind.TheVariants.{Local, Global, Ancillary}
use Rattle.mon_machine.specs.State.{State}
use Rattle.mon_machine.specs.Step.{step}
use Rattle.mon_machine.specs.Run.{is_line, heard}

abbrev pub wants_line : ℕ → Kind → ℕ → Bool
wants_line tool (Local location slot) t = is_line slot && t == tool
wants_line tool Global t = false
wants_line tool (Ancillary location) t = false

-- its records of n steps, from step number i on
unfoldable pub line_records : Parts → ℕ → ℕ → State → ℕ → List Record
line_records p tool i s zero = []
line_records p tool i s (suc n) = heard (wants_line tool) i (step p s).events ++ line_records p tool (i + 1) (step p s).after n

-- a cell that wants LINE for this tool where the location is marked, and else nothing; all bits are live
pub record WantsLine (tool : ℕ) (b : Board) (number : ℕ) (l : Location) : Type 0 where
  pub want : (cell_at b number).want ≡ (if l.is_marked then 2 ^ tool else 0)
  pub live : (cell_at b number).live ≡ 16777215

-- a board with such cells at the locations of a program
pub record HasLineWants (p : Parts) (tool : ℕ) (b : Board) : Type 0 where
  pub within : tool < 6
  pub cells : (k i : ℕ) (c : Code) (l : Location) → slice_get p.codes k ≡ Some c → location_at c i ≡ Some l → WantsLine tool b (c.first + i) l

-- one thing for each of these locations, which are numbered from `from` on
abbrev pub of_locations : {X : Type 0} → (ℕ → Location → X) → ℕ → List Location → List X
of_locations g from [] = []
of_locations g from (l ∷ ls) = g from l ∷ of_locations g (from + 1) ls

-- one for each location of these codes in turn
abbrev pub of_codes : {X : Type 0} → (ℕ → Location → X) → ℕ → List Code → List X
of_codes g from [] = []
of_codes g from (c ∷ cs) = of_locations g from c.locations ++ of_codes g (from + length c.locations) cs
