-- Instructions as they stand in a code: with numbers for labels, and fitting into the depths that the code records.
use Rattle.std.specs.Prelude.{ℕ, ◌+◌, List, [], ◌∷◌, Option, Some, None, slice_get}
use Rattle.mon_code.specs.Effects.{effect_of}
use Rattle.mon_code.specs.Depths.{Depth, Table, Records, Standing, Fits}
use Rattle.mon_code.specs.declared.program.Handler as checked
use Rattle.mon_compile.specs.declared.assembly.Instruction.{Instruction}
use Rattle.mon_compile.specs.declared.assembly.Argument.{Argument}
use Rattle.mon_compile.specs.declared.assembly.Argument.TheVariants.{Number, Constant, Name, Destination}
use Rattle.mon_compile.specs.declared.assembly.Handler.{Handler}
use Rattle.mon_compile.specs.declared.assembly.Label.{Label}
use Rattle.mon_compile.specs.declared.assembly.Label.TheVariants.{At, EndOf, HandlerOf}

-- an open label is index 0, where nothing lands
abbrev pub index_of : Label → ℕ
index_of (At n) = n
index_of (EndOf d) = 0
index_of (HandlerOf d) = 0

-- the number of an argument; constants and names are numbered apart
abbrev pub number_in : Argument → ℕ
number_in (Number n) = n
number_in (Constant v) = 0
number_in (Name name) = 0
number_in (Destination l) = index_of l

abbrev pub placed_handler : Option Handler → Option checked.Handler
placed_handler None = None
placed_handler (Some h) = Some (record { to = index_of h.to; stack = h.stack; handling = h.handling })

abbrev pub standing : Instruction → Standing
standing i = record {
  effect = effect_of i.op (number_in i.argument);
  to = number_in i.argument;
  handler = placed_handler i.spot.handler;
  stack = i.spot.stack;
  handling = i.spot.handling;
}

abbrev pub depth_in : Option Instruction → Option Depth
depth_in None = None
depth_in (Some i) = Some (record { stack = i.spot.stack; handling = i.spot.handling })

-- the depths that a code records
abbrev pub table_of : List Instruction → Table
table_of code at = depth_in (slice_get code at)

-- instructions in turn, from an index on
abbrev pub AllFit : Table → ℕ → List Instruction → Type 0
AllFit t at [] = Unit {0}
AllFit t at (i ∷ code) = Fits t at (standing i) × AllFit t (at + 1) code

-- a whole code: it begins with nothing on the stack and on the handling list, and each instruction fits
pub record IsFitted (code : List Instruction) : Type 0 where
  pub start : Records (table_of code) 0 0 0
  pub each : AllFit (table_of code) 0 code
