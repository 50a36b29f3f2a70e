-- The contexts of the code, in which what is not known yet is a label, and how labels become indexes.
use Rattle.std.specs.Prelude.{ℕ, zero, suc, ◌+◌, ◌==◌, if◌then◌else◌, List, [], ◌∷◌, ◌++◌, length, map, Option, Some, None}
use Rattle.mon_compile.specs.declared.assembly.Instruction.{Instruction}
use Rattle.mon_compile.specs.declared.assembly.Label.{Label}
use Rattle.mon_compile.specs.declared.assembly.Label.TheVariants.{At, EndOf, HandlerOf}
use Rattle.mon_compile.specs.declared.surroundings.Surroundings.{Surroundings}
use Rattle.mon_compile.specs.declared.surroundings.Surroundings.TheOpen.{Surroundings-F}
use Rattle.mon_compile.specs.declared.surroundings.Surroundings.TheFolds.{fold-Surroundings}
use Rattle.mon_compile.specs.Contexts.{Entry, While, For, Try, Except, ExceptAs, Finally, Raised, Returning, Context}
use Rattle.mon_compile.specs.Expressions.{Locals}
use Rattle.mon_compile.specs.Statements.{Scheme, block_code}
use Rattle.mon_compile.specs.Moved.{moved}

-- how many entries there are
abbrev pub depth_step : Surroundings-F ℕ → ℕ
depth_step Surroundings-F.Top = 0
depth_step (Surroundings-F.While x outer) = 1 + outer.now
depth_step (Surroundings-F.For x outer) = 1 + outer.now
depth_step (Surroundings-F.Try outer) = 1 + outer.now
depth_step (Surroundings-F.Except outer) = 1 + outer.now
depth_step (Surroundings-F.ExceptAs n outer) = 1 + outer.now
depth_step (Surroundings-F.Finally last outer) = 1 + outer.now
depth_step (Surroundings-F.Raised outer) = 1 + outer.now
depth_step (Surroundings-F.Returning outer) = 1 + outer.now

abbrev pub depth_of : Surroundings → ℕ
depth_of = fold-Surroundings ℕ depth_step

-- the context of a function with these locals
abbrev pub open_step : Locals → Surroundings-F Context → Context
open_step locals Surroundings-F.Top = []
open_step locals (Surroundings-F.While x outer) = While x (EndOf (length outer.now)) ∷ outer.now
open_step locals (Surroundings-F.For x outer) = For x (EndOf (length outer.now)) ∷ outer.now
open_step locals (Surroundings-F.Try outer) = Try (HandlerOf (length outer.now)) ∷ outer.now
open_step locals (Surroundings-F.Except outer) = Except ∷ outer.now
open_step locals (Surroundings-F.ExceptAs n outer) = ExceptAs n (HandlerOf (length outer.now)) ∷ outer.now
open_step locals (Surroundings-F.Finally last outer) =
    let f = block_code locals last.now in
    Finally (f (Returning ∷ outer.now)) (f outer.now) (HandlerOf (length outer.now)) ∷ outer.now
open_step locals (Surroundings-F.Raised outer) = Raised ∷ outer.now
open_step locals (Surroundings-F.Returning outer) = Returning ∷ outer.now

abbrev pub open_context : Locals → Surroundings → Context
open_context locals = fold-Surroundings Context (open_step locals)

-- the entry of an `except` clause, by the local of its exception, if it has one
abbrev pub clause_entry : Option ℕ → Label → Entry
clause_entry None c = Except
clause_entry (Some n) c = ExceptAs n c

-- an open label becomes an index
abbrev pub settle_label : Label → ℕ → Label → Label
settle_label (EndOf d) done (EndOf e) = if e == d then At done else EndOf e
settle_label (HandlerOf d) done (HandlerOf e) = if e == d then At done else HandlerOf e
settle_label _ done l = l

abbrev pub settled : Label → ℕ → Instruction → Instruction
settled label done = moved (settle_label label done)

-- the instructions from an index on, changed
abbrev pub changed_from : (Instruction → Instruction) → ℕ → List Instruction → List Instruction
changed_from f zero code = map f code
changed_from f (suc n) [] = []
changed_from f (suc n) (i ∷ code) = i ∷ changed_from f n code

-- a part inside an entry whose label is the index so many instructions behind the part
abbrev pub inside : (Label → Entry) → ℕ → Scheme → Scheme
inside entry behind a context at = a (entry (At (at + length (a (entry (At 0) ∷ context) at) + behind)) ∷ context) at

-- a part that jumps to its end
abbrev pub ending : (Label → Scheme) → Scheme
ending a context at = a (At (at + length (a (At 0) context at))) context at

-- a part inside the entry of a `finally`, whose handler stands one instruction behind the last part, and the last part
abbrev pub covered : Scheme → Scheme → Scheme
covered body f context at =
    let entry = Finally (f (Returning ∷ context)) (f context) in
    let usual = f context (at + length (body (entry (At 0) ∷ context) at)) in
    body (entry (At (at + length (body (entry (At 0) ∷ context) at) + length usual + 1)) ∷ context) at ++ usual
