-- What a compilation answers.
use Rattle.std.specs.Prelude.{◌≡◌, ℕ, ◌+◌, ◌<◌, ◌≤◌, List, [], ◌∷◌, ◌++◌, length, Some, None, Result, Ok, Err, Vec}
use Rattle.std.specs.declared.alloc.Global.{Global}
use Rattle.mon_code.specs.Programs.{Parts}
use Rattle.mon_code.specs.declared.program.Code.{Code}
use Rattle.mon_trees.specs.declared.tree.Function.{Function}
use Rattle.mon_trees.specs.declared.tree.Module.{Module}
use Rattle.mon_compile.specs.declared.assembly.Instruction.{Instruction}
use Rattle.mon_compile.specs.declared.emitter.EmitFault.{EmitFault}
use Rattle.mon_compile.specs.declared.emitter.EmitFault.TheVariants as emission
use Rattle.mon_compile.specs.declared.fault.CompileFault.{CompileFault}
use Rattle.mon_compile.specs.declared.fault.CompileFault.TheVariants.{TooManyLocations, Memory}
use Rattle.mon_compile.specs.declared.program.Listing.{Listing}
use Rattle.mon_compile.specs.Faults.{compile_fault, most_locations}
use Rattle.mon_compile.specs.Functions.{function_code}
use Rattle.mon_compile.specs.Marking.{code_of}
use Rattle.mon_compile.specs.Modules.{bases_of, compiled}

-- the code of a function, or that it would be longer than this
abbrev pub AnswersCode : Result (Vec Instruction Global) EmitFault → ℕ → Function → Type 0
AnswersCode (Ok code) limit f = (code.items ≡ function_code f) × (length code.items ≤ limit)
AnswersCode (Err emission.TooManyLocations) limit f = limit < length (function_code f)
AnswersCode (Err emission.Memory) limit f = Unit {0}

abbrev pub fault_of_emission : EmitFault → CompileFault
fault_of_emission emission.TooManyLocations = TooManyLocations
fault_of_emission emission.Memory = Memory

-- the codes of functions, each with the marks of its own jumps and handlers
abbrev pub own_codes : ℕ → List Function → List Code
own_codes first [] = []
own_codes first (f ∷ fs) = code_of first f ∷ own_codes (first + length (function_code f)) fs

-- codes and base opcodes with those of more functions, or that these would be too many
abbrev pub AddsCodes : Result (Unit {0}) CompileFault → Listing → Listing → List Function → Type 0
AddsCodes (Ok done) old new fs = (new.codes ≡ old.codes ++ own_codes (length old.bases.items) fs) × ((new.bases.items ≡ old.bases.items ++ bases_of fs) × (length new.bases.items ≤ most_locations))
AddsCodes (Err Memory) old new fs = Unit {0}
AddsCodes (Err TooManyLocations) old new fs = most_locations < length (old.bases.items ++ bases_of fs)
AddsCodes (Err _) old new fs = ⊥

-- the codes and base opcodes of functions, or that these are too many
abbrev pub ListsCodes : Result Listing CompileFault → List Function → Type 0
ListsCodes (Ok l) fs = (l.codes ≡ own_codes 0 fs) × ((l.bases.items ≡ bases_of fs) × (length (bases_of fs) ≤ most_locations))
ListsCodes (Err Memory) fs = Unit {0}
ListsCodes (Err TooManyLocations) fs = most_locations < length (bases_of fs)
ListsCodes (Err _) fs = ⊥

-- the program of a module with its base opcodes, or the fault that it has; memory may be wanting beside anything
abbrev pub AnswersCompiled : Result (Parts × Vec ℕ Global) CompileFault → Module → Type 0
AnswersCompiled (Ok r) m = (compile_fault m ≡ None) × ((r.0 ≡ compiled m) × (r.1.items ≡ (compiled m).bases))
AnswersCompiled (Err Memory) m = Unit {0}
AnswersCompiled (Err fault) m = compile_fault m ≡ Some fault
