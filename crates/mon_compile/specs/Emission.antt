-- The code of a function while it is made, as an emitter is seen.
use Rattle.std.specs.Prelude.{◌≡◌, ℕ, ◌<◌, ◌≤◌, List, [], ◌∷◌, ◌++◌, length, Result, Ok, Err}
use Rattle.mon_compile.specs.declared.assembly.Instruction.{Instruction}
use Rattle.mon_compile.specs.declared.emitter.EmitFault.{EmitFault}
use Rattle.mon_compile.specs.declared.emitter.EmitFault.TheVariants.{TooManyLocations, Memory}
use Rattle.mon_compile.specs.Contexts.{FromAt}
use Rattle.mon_compile.specs.Expressions.{Locals}
use Rattle.mon_compile.specs.Faults.{most_locations}

-- a function's locals, how many instructions it may have, and its code so far
pub record Emission : Type 0 where
  pub locals : Locals
  pub limit : ℕ
  pub code : List Instruction

-- with more code, which begins at the next index
abbrev pub emitted : Emission → FromAt → Emission
emitted e more = record e { code = e.code ++ more (length e.code) }

-- one instruction is the same at each index
abbrev pub one : Instruction → FromAt
one i at = i ∷ []

-- the code that is added, or that with it the code would pass the limit; memory may be wanting beside anything
abbrev pub Emits : Result (Unit {0}) EmitFault → Emission → Emission → FromAt → Type 0
Emits (Ok done) old new more = new ≡ emitted old more
Emits (Err TooManyLocations) old new more = old.limit < length (emitted old more).code
Emits (Err Memory) old new more = Unit {0}

-- a count, or that it passes the limit
abbrev pub Counts : Result ℕ EmitFault → ℕ → ℕ → Type 0
Counts (Ok n) limit count = (n ≡ count) × (count ≤ most_locations)
Counts (Err TooManyLocations) limit count = limit < count
Counts (Err Memory) limit count = ⊥
