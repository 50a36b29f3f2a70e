-- Generators in a program.
use Rattle.std.specs.Prelude.{◌≡◌, ℕ, ◌==◌, ◌||◌, Bool, true, false, List, [], ◌∷◌, Some, slice_get}
use Rattle.mon_events.specs.Ops.{number_of}
use Rattle.mon_events.specs.declared.op.Op.{Op}
use Rattle.mon_code.specs.Programs.{op_in}
use Rattle.mon_trees.specs.declared.tree.Function.{Function}
use Rattle.mon_trees.specs.declared.tree.Module.{Module}
use Rattle.mon_compile.specs.Functions.{is_generator}
use Rattle.mon_compile.specs.Modules.{compiled, functions_of}

-- RETURN_GENERATOR is one of these base opcodes
abbrev pub has_generators : List ℕ → Bool
has_generators [] = false
has_generators (base ∷ bases) = base == number_of Op.ReturnGenerator || has_generators bases

-- one of these functions has a `yield`
abbrev pub any_generator : List Function → Bool
any_generator [] = false
any_generator (f ∷ fs) = is_generator f || any_generator fs

-- whether a code that is no generator's may have this opcode
abbrev pub is_plain_op : Op → Bool
is_plain_op Op.ReturnGenerator = false
is_plain_op Op.YieldValue = false
is_plain_op _ = true

-- The program of a module has RETURN_GENERATOR exactly where one of the module's functions has a `yield`.
abbrev pub GeneratorsYield : Type 0
GeneratorsYield = (m : Module) → has_generators (compiled m).bases ≡ any_generator (functions_of m.items)

-- Without RETURN_GENERATOR it has no opcode of generators.
abbrev pub PlainWithoutGenerators : Type 0
PlainWithoutGenerators = (m : Module) → has_generators (compiled m).bases ≡ false → (location : ℕ) (op : Op) → op_in (slice_get (compiled m).bases location) ≡ Some op → is_plain_op op ≡ true
