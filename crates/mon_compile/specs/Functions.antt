-- The locals and the code of a function.
use Rattle.std.specs.Prelude.{ℕ, Bool, true, false, if◌then◌else◌, List, [], ◌∷◌, ◌++◌, length, map, Option, Some, None}
use Rattle.mon_events.specs.declared.op.Op.{Op}
use Rattle.mon_values.specs.declared.value.Value as value
use Rattle.mon_trees.specs.declared.tree.Expression.{Expression}
use Rattle.mon_trees.specs.declared.tree.Expression.TheOpen.{Expression-F}
use Rattle.mon_trees.specs.declared.tree.Expression.TheFolds.{fold-Expression}
use Rattle.mon_trees.specs.declared.tree.Function.{Function}
use Rattle.mon_trees.specs.declared.tree.Simple.{Simple}
use Rattle.mon_trees.specs.declared.tree.Simple.TheVariants as simple
use Rattle.mon_trees.specs.declared.tree.Statement.{Statement}
use Rattle.mon_trees.specs.declared.tree.Statement.TheOpen.{Statement-F, Handler-F}
use Rattle.mon_trees.specs.declared.tree.Statement.TheFolds.{fold-Statement}
use Rattle.mon_trees.specs.declared.tree.Targets.{Targets}
use Rattle.mon_trees.specs.declared.tree.Targets.TheVariants as targets
use Rattle.mon_compile.specs.declared.assembly.Instruction.{Instruction}
use Rattle.mon_compile.specs.declared.assembly.Argument.TheVariants.{Number, Constant}
use Rattle.mon_compile.specs.Contexts.{put, none, above, no_line}
use Rattle.mon_compile.specs.Expressions.{Locals, is_local}
use Rattle.mon_compile.specs.Statements.{block_code}

abbrev pub joined : {A : Type 0} → List (List A) → List A
joined [] = []
joined (xs ∷ more) = xs ++ joined more

-- the names that a statement assigns to, in the order of the text

abbrev pub target_names : Targets → List (List ℕ)
target_names (targets.Name n) = n ∷ []
target_names (targets.Tuple ns) = ns

abbrev pub simple_names : Simple → List (List ℕ)
simple_names (simple.Augmented n op e) = n ∷ []
simple_names (simple.Assign t e) = target_names t
simple_names _ = []

abbrev pub names_step : Statement-F (List (List ℕ)) (List (List ℕ)) → List (List ℕ)
names_step (Statement-F.Simple line s) = simple_names s
names_step (Statement-F.If line c a b) = joined a ++ joined b
names_step (Statement-F.While line c a) = joined a
names_step (Statement-F.For line t e a) = target_names t ++ joined a
names_step (Statement-F.Try line a handlers f) = joined a ++ (joined handlers ++ joined f)

abbrev pub or_empty : Option (List ℕ) → List (List ℕ)
or_empty None = []
or_empty (Some n) = n ∷ []

abbrev pub handler_names_step : Handler-F (List (List ℕ)) (List (List ℕ)) → List (List ℕ)
handler_names_step h = or_empty h.name ++ joined h.body

abbrev pub names_of : Statement → List (List ℕ)
names_of = fold-Statement (List (List ℕ)) (List (List ℕ)) names_step handler_names_step

-- each name once, by its first place
abbrev pub with_names : Locals → List (List ℕ) → Locals
with_names names [] = names
with_names names (n ∷ ns) = if is_local names n then with_names names ns else with_names (names ++ n ∷ []) ns

-- parameters, then the others
abbrev pub locals_of : Function → Locals
locals_of f = with_names f.parameters (joined (map names_of f.body))

-- the lines of the `yield`s of an expression

abbrev pub lines_in : Option (List ℕ) → List ℕ
lines_in None = []
lines_in (Some lines) = lines

abbrev pub yields_step : Expression-F (List ℕ) → List ℕ
yields_step (Expression-F.Tuple parts) = joined parts
yields_step (Expression-F.Yield line e) = line ∷ lines_in e
yields_step (Expression-F.If a test b) = a ++ (test ++ b)
yields_step (Expression-F.Or a b) = a ++ b
yields_step (Expression-F.And a b) = a ++ b
yields_step (Expression-F.Not a) = a
yields_step (Expression-F.Compare op a b) = a ++ b
yields_step (Expression-F.Is a single) = a
yields_step (Expression-F.IsNot a single) = a
yields_step (Expression-F.Binary op a b) = a ++ b
yields_step (Expression-F.Negative a) = a
yields_step (Expression-F.Call f args) = f ++ joined args
yields_step (Expression-F.Method o method args) = o ++ joined args
yields_step (Expression-F.Subscript a i) = a ++ i
yields_step _ = []

abbrev pub yields_in : Expression → List ℕ
yields_in = fold-Expression (List ℕ) yields_step

abbrev pub yields_within : Option Expression → List ℕ
yields_within None = []
yields_within (Some e) = yields_in e

-- those of a statement

abbrev pub simple_yields : Simple → List ℕ
simple_yields (simple.Return e) = yields_within e
simple_yields (simple.Raise e) = yields_within e
simple_yields (simple.Augmented n op e) = yields_in e
simple_yields (simple.Assign t e) = yields_in e
simple_yields (simple.Expression e) = yields_in e
simple_yields _ = []

abbrev pub statement_yields_step : Statement-F (List ℕ) (List ℕ) → List ℕ
statement_yields_step (Statement-F.Simple line s) = simple_yields s
statement_yields_step (Statement-F.If line c a b) = yields_in c ++ (joined a ++ joined b)
statement_yields_step (Statement-F.While line c a) = yields_in c ++ joined a
statement_yields_step (Statement-F.For line t e a) = yields_in e ++ joined a
statement_yields_step (Statement-F.Try line a handlers f) = joined a ++ (joined handlers ++ joined f)

abbrev pub handler_yields_step : Handler-F (List ℕ) (List ℕ) → List ℕ
handler_yields_step h = yields_within h.class ++ joined h.body

abbrev pub yields_of : Statement → List ℕ
yields_of = fold-Statement (List ℕ) (List ℕ) statement_yields_step handler_yields_step

abbrev pub is_some_line : List ℕ → Bool
is_some_line [] = false
is_some_line (line ∷ lines) = true

-- a function with a `yield` is a generator function
abbrev pub is_generator : Function → Bool
is_generator f = is_some_line (joined (map yields_of f.body))

-- RETURN_GENERATOR (-); POP_TOP (-), for a generator function alone; RESUME 0 (-)
abbrev pub start_code : Bool → List Instruction
start_code true = put (no_line []) Op.ReturnGenerator none ∷ (put (above 1 (no_line [])) Op.PopTop none ∷ (put (no_line []) Op.Resume (Number 0) ∷ []))
start_code false = put (no_line []) Op.Resume (Number 0) ∷ []

-- LOAD_CONST None (-); RETURN_VALUE (-)
abbrev pub end_code : List Instruction
end_code = put (no_line []) Op.LoadConst (Constant value.None) ∷ (put (above 1 (no_line [])) Op.ReturnValue none ∷ [])

abbrev pub function_code : Function → List Instruction
function_code f =
    let start = start_code (is_generator f) in
    start ++ (block_code (locals_of f) f.body [] (length start) ++ end_code)
