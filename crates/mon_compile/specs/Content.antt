-- What stands at each index of a compiled program, by content: arguments are the values, names and indexes themselves.
use Rattle.std.specs.Prelude.{◌≡◌, ℕ, map, length, Option, Some, None, slice_get}
use Rattle.mon_code.specs.declared.program.Code.{Code}
use Rattle.mon_code.specs.declared.program.Location.{Location}
use Rattle.mon_code.specs.Programs.{Parts, op_at, location_at}
use Rattle.mon_trees.specs.declared.tree.Function.{Function}
use Rattle.mon_trees.specs.declared.tree.Module.{Module}
use Rattle.mon_compile.specs.declared.assembly.Instruction.{Instruction}
use Rattle.mon_compile.specs.declared.assembly.Argument.{Argument}
use Rattle.mon_compile.specs.declared.assembly.Argument.TheVariants.{Number, Constant, Name, Destination}
use Rattle.mon_compile.specs.Functions.{locals_of, function_code}
use Rattle.mon_compile.specs.Placed.{index_of, placed_handler}
use Rattle.mon_compile.specs.Modules.{compiled, functions_of, function_name, module_constants}
use Rattle.mon_compile.specs.Faults.{compile_fault}

-- what a location's argument reads
abbrev pub Reads : Code → Argument → ℕ → Type 0
Reads c (Number n) a = a ≡ n
Reads c (Constant v) a = slice_get c.constants a ≡ Some v
Reads c (Name name) a = slice_get c.globals a ≡ Some name
Reads c (Destination l) a = a ≡ index_of l

-- an instruction stands at an index
pub record Holds (p : Parts) (c : Code) (at : ℕ) (i : Instruction) : Type 0 where
  pub location : Location
  pub stands : location_at c at ≡ Some location
  pub op : op_at p.bases c.first at ≡ Some i.op
  pub line : location.line ≡ i.spot.line
  pub handler : location.handler ≡ placed_handler i.spot.handler
  pub reads : Reads c i.argument location.argument

-- past the end nothing stands
abbrev pub HoldsAt : Parts → Code → ℕ → Option Instruction → Type 0
HoldsAt p c at None = location_at c at ≡ None
HoldsAt p c at (Some i) = Holds p c at i

pub record HasCode (p : Parts) (c : Code) (f : Function) : Type 0 where
  pub parameters : c.parameters ≡ length f.parameters
  pub locals : c.locals ≡ locals_of f
  pub holds : (at : ℕ) → HoldsAt p c at (slice_get (function_code f) at)

abbrev pub HasCodeOf : Parts → Option Code → Option Function → Type 0
HasCodeOf p (Some c) (Some f) = HasCode p c f
HasCodeOf p None None = Unit {0}
HasCodeOf p _ _ = ⊥

pub record HasContent (p : Parts) (m : Module) : Type 0 where
  pub names : p.names ≡ map function_name (functions_of m.items)
  pub constants : p.constants ≡ module_constants m.items
  pub codes : (k : ℕ) → HasCodeOf p (slice_get p.codes k) (slice_get (functions_of m.items) k)

abbrev pub ContentLaw : Type 0
ContentLaw = (m : Module) → compile_fault m ≡ None → HasContent (compiled m) m
