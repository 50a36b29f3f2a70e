-- The marks of a code, by the jumps and handlers of its own instructions.
use Rattle.std.specs.Prelude.{◌≡◌, ℕ, ◌+◌, ◌<◌, ◌==◌, ◌&&◌, ◌||◌, Bool, false, not, is_some, if◌then◌else◌, List, [], ◌∷◌, length, slice_index_or, Option, Some, None}
use Rattle.mon_events.specs.declared.op.Op.{Op}
use Rattle.mon_code.specs.Effects.{effect_of}
use Rattle.mon_code.specs.Checked.{follows_line}
use Rattle.mon_code.specs.declared.program.Code.{Code}
use Rattle.mon_code.specs.declared.program.Handler.{Handler}
use Rattle.mon_code.specs.declared.program.Location.{Location}
use Rattle.mon_trees.specs.declared.tree.Function.{Function}
use Rattle.mon_compile.specs.declared.assembly.Instruction.{Instruction}
use Rattle.mon_compile.specs.Functions.{function_code}
use Rattle.mon_compile.specs.Modules.{unmarked}

-- where an instruction jumps, and where its exception goes
abbrev pub jump_of : Op → ℕ → Option ℕ
jump_of op argument = if (effect_of op argument).jumps then Some argument else None

abbrev pub catch_of : Option Handler → Option ℕ
catch_of None = None
catch_of (Some h) = Some h.to

abbrev pub goes_to : Option ℕ → ℕ → Bool
goes_to None at = false
goes_to (Some to) at = to == at

-- one of these instructions, which have these locations, goes to an index
abbrev pub is_reached : List Instruction → List Location → ℕ → Bool
is_reached [] ls at = false
is_reached (i ∷ code) [] at = false
is_reached (i ∷ code) (l ∷ ls) at = goes_to (jump_of i.op l.argument) at || (goes_to (catch_of l.handler) at || is_reached code ls at)

-- a flag for each index
abbrev pub Flags : List Instruction → List Location → List Bool → Type 0
Flags code ls flags = (at : ℕ) → at < length ls → slice_index_or flags at false ≡ is_reached code ls at

-- the flag of an index that may be gone to is set too
pub record Flagged (old new : List Bool) (to : Option ℕ) : Type 0 where
  pub same : length new ≡ length old
  pub flags : (at : ℕ) → at < length old → slice_index_or new at false ≡ (slice_index_or old at false || goes_to to at)

-- the mark of a location, behind one with the line `before`
abbrev pub mark : Bool → Option (Option ℕ) → Option ℕ → Bool
mark is_target before line = is_some line && (not (follows_line before line) || is_target)

-- the locations from an index on, marked
abbrev pub marked_by : (ℕ → Bool) → ℕ → Option (Option ℕ) → List Location → List Location
marked_by target at before [] = []
marked_by target at before (l ∷ ls) = record l { is_marked = mark (target at) before l.line } ∷ marked_by target (at + 1) (Some l.line) ls

-- the code of a function, the first location of which has a number
abbrev pub code_of : ℕ → Function → Code
code_of first f =
    let c = unmarked first f in
    record c { locations = marked_by (is_reached (function_code f) c.locations) 0 None c.locations }
