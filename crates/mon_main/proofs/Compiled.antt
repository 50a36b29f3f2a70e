-- The programs of modules.
use Rattle.std.proofs.Common.{◌≡◌, ◌∙◌, ℕ, List, sym, ap, Ok, Err}
use Rattle.std.specs.Prelude.{Option, Some, None}
use Rattle.mon_code.specs.Programs.{Parts}
use Rattle.mon_trees.specs.declared.tree.Module.{Module}
use Rattle.mon_compile.specs.declared.fault.CompileFault.{CompileFault}
use Rattle.mon_compile.specs.Answered.{AnswersCompiled}
use Rattle.mon_compile.specs.Faults.{compile_fault}
use Rattle.mon_compile.specs.Modules as modules
use Rattle.mon_compile.specs.declared.fault.CompileFault.TheVariants as compile
use Rattle.mon_main.specs.Answers.{says, uncompiled, program_of, program_without}
use Rattle.mon_main.specs.Sources.{uncompiled_line}
use Rattle.mon_main.specs.declared.status.Status.{Status}

pub program_is : (m : Module) (p : Parts) → compile_fault m ≡ None → p ≡ modules.compiled m → program_of m ≡ Ok p
unfolding program_of
program_is m p fault e = ap (λ (f : Option CompileFault). program_without f m) fault ∙ ap (λ (q : Parts). Ok q) (sym e)

pub fault_is : (m : Module) (fault : CompileFault) → compile_fault m ≡ Some fault → program_of m ≡ Err (uncompiled fault)
unfolding program_of
fault_is m fault e = ap (λ (f : Option CompileFault). program_without f m) e

-- a fault that has a line
abbrev pub IsLine : CompileFault → Type 0
IsLine compile.Memory = ⊥
IsLine _ = Unit {0}

-- such a fault is answered by its line
pub uncompiled_is : (m : Module) (fault : CompileFault) (line : List ℕ) → IsLine fault → AnswersCompiled (Err fault) m → line ≡ uncompiled_line fault → program_of m ≡ Err (says Status.Source line)
uncompiled_is m (compile.DuplicateName n) line h e is = fault_is m (compile.DuplicateName n) e ∙ ap (λ l. Err (says Status.Source l)) (sym is)
uncompiled_is m (compile.Misplaced n) line h e is = fault_is m (compile.Misplaced n) e ∙ ap (λ l. Err (says Status.Source l)) (sym is)
uncompiled_is m (compile.TooLarge n) line h e is = fault_is m (compile.TooLarge n) e ∙ ap (λ l. Err (says Status.Source l)) (sym is)
uncompiled_is m compile.TooManyLocations line h e is = fault_is m compile.TooManyLocations e ∙ ap (λ l. Err (says Status.Source l)) (sym is)
uncompiled_is m compile.Memory line h e is = absurd h
