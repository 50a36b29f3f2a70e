-- The parts of a statement and what stands round them: lengths that depend on no label, and contexts with indexes alone.
use Rattle.std.specs.Prelude.{◌≡◌, ℕ, List, [], ◌∷◌, length, map}
use Rattle.mon_trees.specs.declared.tree.Handler.{Handler}
use Rattle.mon_trees.specs.declared.tree.Statement.{Statement}
use Rattle.mon_compile.specs.declared.assembly.Label.{Label}
use Rattle.mon_compile.specs.declared.assembly.Label.TheVariants.{At}
use Rattle.mon_compile.specs.Contexts.{Entry, Except, Raised, Returning, Context}
use Rattle.mon_compile.specs.Contexts as entry
use Rattle.mon_compile.specs.Expressions.{Locals}
use Rattle.mon_compile.specs.Statements.{Scheme, block_code, handler_code, clauses_code, guarded}
use Rattle.mon_compile.specs.Moved.{Fixes, moved, moved_context}

-- with other labels in its context, a part is the same code with other labels
abbrev pub Carrying : (Label → Label) → Scheme → Type 0
Carrying g a = (context : Context) → Fixes g → (at : ℕ) → a (moved_context g context) at ≡ map (moved g) (a context at)

abbrev pub HasLabels : Scheme → Type 0
HasLabels a = (g : Label → Label) → Carrying g a

-- a context with indexes alone: other labels change nothing
abbrev pub Closed : Context → Type 0
Closed c = (g : Label → Label) → Fixes g → moved_context g c ≡ c

-- An entry that a statement puts round a part of it, but for its label: that of a `finally` by its last part.
pub data Around : Type 0 where
  While : (x : ℕ) → Around
  For : (x : ℕ) → Around
  Try : Around
  ExceptAs : (n : ℕ) → Around
  Finally : (last : Scheme) → Around

-- the entry in a context, with its label
abbrev pub entry_of : Around → Context → Label → Entry
entry_of (While x) c l = entry.While x l
entry_of (For x) c l = entry.For x l
entry_of Try c l = entry.Try l
entry_of (ExceptAs n) c l = entry.ExceptAs n l
entry_of (Finally last) c l = entry.Finally (last (Returning ∷ c)) (last c) l

abbrev pub IsAround : Around → Type 0
IsAround (Finally last) = HasLabels last
IsAround _ = Unit {0}

-- The code of a block has the labels of its context and no others, and so has the body of a `try` with its clauses.
pub record HasLabelsOfContext (locals : Locals) (body : List Statement) : Type 0 where
  pub block : HasLabels (block_code locals body)
  pub guarded_block : (clauses : List Handler) → HasLabels (guarded (block_code locals body) (map (handler_code locals) clauses))

abbrev pub AllHaveLabels : Type 0
AllHaveLabels = (locals : Locals) (body : List Statement) → HasLabelsOfContext locals body

-- A part is as long with one index in the entry round it as with another.
abbrev pub SameLength : Type 0
SameLength =
    (a : Scheme) → HasLabels a → (e : Around) → IsAround e → (c : Context) → Closed c → (n at : ℕ)
    → length (a (entry_of e c (At 0) ∷ c) at) ≡ length (a (entry_of e c (At n) ∷ c) at)

-- So are the clauses of a `try`, wherever the statement ends.
abbrev pub ClausesSameLength : Type 0
ClausesSameLength =
    (locals : Locals) (clauses : List Handler) (c : Context) → Closed c → (n at : ℕ)
    → length (clauses_code (map (handler_code locals) clauses) (At 0) c at) ≡ length (clauses_code (map (handler_code locals) clauses) (At n) c at)

-- each context of a part inside a context
pub record InnerAreClosed (c : Context) : Type 0 where
  pub around : (e : Around) → IsAround e → (n : ℕ) → Closed (entry_of e c (At n) ∷ c)
  pub except : Closed (Except ∷ c)
  pub raised : Closed (Raised ∷ c)
  pub returning : Closed (Returning ∷ c)

-- A function's body stands in a closed context, and inside a closed context each inner one is closed.
pub record ContextsAreClosed : Type 0 where
  pub outermost : Closed []
  pub inner : (c : Context) → Closed c → InnerAreClosed c
