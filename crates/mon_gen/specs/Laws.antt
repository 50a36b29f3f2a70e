-- Laws of the generated programs and plans.
use Rattle.std.specs.Prelude.{◌≡◌, ℕ, ◌≤◌, None}
use Rattle.mon_compile.specs.Faults.{compile_fault}
use Rattle.mon_compile.specs.Modules.{compiled}
use Rattle.mon_forms.specs.Fits.{FitsProgram}
use Rattle.mon_gen.specs.Generated.{generated}
use Rattle.mon_gen.specs.Plans.{generated_plan}
use Rattle.mon_gen.specs.declared.module.TheConstants.{MAX_LOOPS}

-- The program of each size has no fault.
abbrev pub ProgramsHaveNoFault : Type 0
ProgramsHaveNoFault = (n : ℕ) → n ≤ MAX_LOOPS → compile_fault (generated n) ≡ None

-- The plan of each size fits the size's program.
abbrev pub PlansFit : Type 0
PlansFit = (n : ℕ) → n ≤ MAX_LOOPS → FitsProgram (compiled (generated n)) (generated_plan n)
