-- Laws of the compile scheme.
use Rattle.std.specs.Prelude.{◌≡◌, None}
use Rattle.mon_code.specs.Checked.{IsChecked}
use Rattle.mon_trees.specs.declared.tree.Function.{Function}
use Rattle.mon_trees.specs.declared.tree.Module.{Module}
use Rattle.mon_compile.specs.Functions.{function_code}
use Rattle.mon_compile.specs.Modules.{compiled}
use Rattle.mon_compile.specs.Faults.{compile_fault}
use Rattle.mon_compile.specs.Placed.{IsFitted}

-- At each index of a function's code the depths are as recorded, and each jump and handler lands on a recorded index
-- other than 0.
abbrev pub FitsDepths : Type 0
FitsDepths = (f : Function) → IsFitted (function_code f)

-- The program of a module without a fault meets the invariant of programs.
abbrev pub ProgramsAreChecked : Type 0
ProgramsAreChecked = (m : Module) → compile_fault m ≡ None → IsChecked (compiled m)
