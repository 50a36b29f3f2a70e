-- The depths that are recorded at the indexes of a code, and when an instruction fits into them.
use Rattle.std.specs.Prelude.{◌≡◌, ℕ, ◌+◌, ◌-◌, ◌<◌, ◌≤◌, Bool, true, false, IsTrue, Option, Some, None}
use Rattle.mon_code.specs.Effects.{Effect}
use Rattle.mon_code.specs.declared.program.Handler.{Handler}

-- how many values are on the operand stack, and how many exceptions on the handling list
pub record Depth : Type 0 where
  pub stack : ℕ
  pub handling : ℕ

-- what is recorded at each index
abbrev pub Table : Type 0
Table = ℕ → Option Depth

abbrev pub Records : Table → ℕ → ℕ → ℕ → Type 0
Records t at stack handling = t at ≡ Some (record { stack = stack; handling = handling })

-- an index other than 0 has this record
abbrev pub Lands : Table → ℕ → ℕ → ℕ → Type 0
Lands t to stack handling = (0 < to) × Records t to stack handling

abbrev pub LandsIf : Table → Bool → ℕ → ℕ → ℕ → Type 0
LandsIf t false to stack handling = Unit {0}
LandsIf t true to stack handling = Lands t to stack handling

-- the handler finds its index with the exception above what it keeps, which is there
abbrev pub Catches : Table → Option Handler → ℕ → ℕ → Type 0
Catches t None stack handling = Unit {0}
Catches t (Some h) stack handling = Lands t h.to (1 + h.stack) h.handling × (h.stack ≤ stack) × (h.handling ≤ handling)

-- what stands at an index of a code
pub record Standing : Type 0 where
  pub effect : Effect
  -- where it jumps, if it does
  pub to : ℕ
  pub handler : Option Handler
  -- the depths before it
  pub stack : ℕ
  pub handling : ℕ

-- an instruction finds what it takes, goes where what it leaves is recorded, and so does an exception that it raises
pub record Fits (t : Table) (at : ℕ) (i : Standing) : Type 0 where
  pub has : i.effect.takes ≤ i.stack
  pub holds : i.effect.drops ≤ i.handling
  pub next : IsTrue i.effect.goes_on → Records t (at + 1) (i.effect.puts + (i.stack - i.effect.takes)) (i.effect.adds + (i.handling - i.effect.drops))
  pub jumps : LandsIf t i.effect.jumps i.to (i.effect.carries + (i.stack - i.effect.takes)) (i.effect.adds + (i.handling - i.effect.drops))
  pub caught : Catches t i.handler (i.stack - i.effect.takes) (i.handling - i.effect.drops)
