-- The program of a module.
use Rattle.std.specs.Prelude.{ℕ, ◌+◌, false, List, [], ◌∷◌, ◌++◌, length, map, Option, Some, None}
use Rattle.mon_events.specs.Ops.{number_of}
use Rattle.mon_code.specs.declared.program.Code.{Code}
use Rattle.mon_code.specs.declared.program.Location.{Location}
use Rattle.mon_code.specs.declared.program.ModuleConstant.{ModuleConstant}
use Rattle.mon_code.specs.Programs.{Parts}
use Rattle.mon_code.specs.Checked.{is_marked, is_safe}
use Rattle.mon_values.specs.declared.value.Value.{Value}
use Rattle.mon_values.specs.declared.value.Value as value
use Rattle.mon_trees.specs.declared.tree.Constant.{Constant as Written}
use Rattle.mon_trees.specs.declared.tree.Constant.TheOpen.{Constant-F}
use Rattle.mon_trees.specs.declared.tree.Constant.TheFolds.{fold-Constant}
use Rattle.mon_trees.specs.declared.tree.Function.{Function}
use Rattle.mon_trees.specs.declared.tree.Module.{Module}
use Rattle.mon_trees.specs.declared.tree.ModuleItem.{ModuleItem}
use Rattle.mon_trees.specs.declared.tree.ModuleItem.TheVariants as item
use Rattle.mon_compile.specs.declared.assembly.Instruction.{Instruction}
use Rattle.mon_compile.specs.declared.assembly.Argument.{Argument}
use Rattle.mon_compile.specs.declared.assembly.Argument.TheVariants.{Number, Constant, Name, Destination}
use Rattle.mon_compile.specs.Expressions.{single_value}
use Rattle.mon_compile.specs.Functions.{locals_of, function_code}
use Rattle.mon_compile.specs.Placed.{index_of, placed_handler}

-- each constant and each name of a code has a number of its own, in the order of the code

abbrev pub constants_in : Argument → List Value
constants_in (Constant v) = v ∷ []
constants_in _ = []

abbrev pub constants_of : List Instruction → List Value
constants_of [] = []
constants_of (i ∷ code) = constants_in i.argument ++ constants_of code

abbrev pub globals_in : Argument → List (List ℕ)
globals_in (Name name) = name ∷ []
globals_in _ = []

abbrev pub globals_of : List Instruction → List (List ℕ)
globals_of [] = []
globals_of (i ∷ code) = globals_in i.argument ++ globals_of code

-- the number of an argument behind so many constants and globals
abbrev pub argument_of : ℕ → ℕ → Argument → ℕ
argument_of constants globals (Number n) = n
argument_of constants globals (Constant v) = constants
argument_of constants globals (Name name) = globals
argument_of constants globals (Destination l) = index_of l

-- the location of an instruction behind so many constants and globals, not marked
abbrev pub location_of : ℕ → ℕ → Instruction → Location
location_of constants globals i = record {
  argument = argument_of constants globals i.argument;
  line = i.spot.line;
  is_marked = false;
  is_safe = is_safe i.op;
  handler = placed_handler i.spot.handler;
  stack = i.spot.stack;
  handling = i.spot.handling;
}

-- the locations behind so many constants and globals
abbrev pub locations_of : ℕ → ℕ → List Instruction → List Location
locations_of constants globals [] = []
locations_of constants globals (i ∷ code) = location_of constants globals i ∷ locations_of (constants + length (constants_in i.argument)) (globals + length (globals_in i.argument)) code

abbrev pub unmarked : ℕ → Function → Code
unmarked first f =
    let code = function_code f in
    record {
      parameters = length f.parameters;
      locals = locals_of f;
      globals = globals_of code;
      constants = constants_of code;
      first = first;
      locations = locations_of 0 0 code;
    }

-- locations from an index on, behind one with the line `before`, each with the mark that it has in a code
abbrev pub marks : List ℕ → Code → ℕ → Option (Option ℕ) → List Location → List Location
marks bases c at before [] = []
marks bases c at before (l ∷ ls) = record l { is_marked = is_marked bases c at before l.line } ∷ marks bases c (at + 1) (Some l.line) ls

abbrev pub marked : List ℕ → Code → Code
marked bases c = record c { locations = marks bases c 0 None c.locations }

abbrev pub op_number : Instruction → ℕ
op_number i = number_of i.op

abbrev pub bases_of : List Function → List ℕ
bases_of [] = []
bases_of (f ∷ fs) = map op_number (function_code f) ++ bases_of fs

-- the codes of these functions, the first of which begins with a location
abbrev pub codes_of : List ℕ → ℕ → List Function → List Code
codes_of bases first [] = []
codes_of bases first (f ∷ fs) = marked bases (unmarked first f) ∷ codes_of bases (first + length (function_code f)) fs

-- the items of a module

abbrev pub functions_of : List ModuleItem → List Function
functions_of [] = []
functions_of (item.Function f ∷ items) = f ∷ functions_of items
functions_of (item.Constant line name c ∷ items) = functions_of items
functions_of (item.Text t ∷ items) = functions_of items

abbrev pub constant_value_step : Constant-F Value → Value
constant_value_step (Constant-F.Integer n) = value.Int n
constant_value_step (Constant-F.Text t) = value.Text t
constant_value_step (Constant-F.Single single) = single_value single
constant_value_step Constant-F.Empty = value.Tuple []
constant_value_step (Constant-F.Tuple parts) = value.Tuple parts

abbrev pub constant_value : Written → Value
constant_value = fold-Constant Value constant_value_step

abbrev pub module_constants : List ModuleItem → List ModuleConstant
module_constants [] = []
module_constants (item.Function f ∷ items) = module_constants items
module_constants (item.Constant line name c ∷ items) = record { name = name; value = constant_value c } ∷ module_constants items
module_constants (item.Text t ∷ items) = module_constants items

abbrev pub function_name : Function → List ℕ
function_name f = f.name

abbrev pub compiled : Module → Parts
compiled m =
    let functions = functions_of m.items in
    let bases = bases_of functions in
    record { names = map function_name functions; constants = module_constants m.items; codes = codes_of bases 0 functions; bases = bases }
