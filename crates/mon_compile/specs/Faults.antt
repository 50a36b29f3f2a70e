-- Why a module has no program: the faults in the order in which they are tried.
use Rattle.std.specs.Prelude.{ℕ, ◌+◌, ◌≤◌, ◌||◌, min, nat_lt, Bool, true, false, if◌then◌else◌, List, [], ◌∷◌, ◌++◌, length, map, Option, Some, None}
use Rattle.mon_values.specs.declared.value.Value.{Value}
use Rattle.mon_values.specs.declared.value.Value as value
use Rattle.mon_values.specs.Weights.{weight, depth, most_weight, most_depth}
use Rattle.mon_trees.specs.declared.tree.Expression.{Expression}
use Rattle.mon_trees.specs.declared.tree.Expression.TheOpen.{Expression-F}
use Rattle.mon_trees.specs.declared.tree.Expression.TheFolds.{fold-Expression}
use Rattle.mon_trees.specs.declared.tree.Function.{Function}
use Rattle.mon_trees.specs.declared.tree.Module.{Module}
use Rattle.mon_trees.specs.declared.tree.ModuleItem.{ModuleItem}
use Rattle.mon_trees.specs.declared.tree.ModuleItem.TheVariants as item
use Rattle.mon_trees.specs.declared.tree.Simple.{Simple}
use Rattle.mon_trees.specs.declared.tree.Simple.TheVariants as simple
use Rattle.mon_trees.specs.declared.tree.Statement.{Statement}
use Rattle.mon_trees.specs.declared.tree.Statement.TheOpen.{Statement-F, Handler-F}
use Rattle.mon_trees.specs.declared.tree.Statement.TheFolds.{fold-Statement}
use Rattle.mon_compile.specs.declared.fault.CompileFault.{CompileFault}
use Rattle.mon_compile.specs.declared.fault.CompileFault.TheVariants.{DuplicateName, Misplaced, TooLarge, TooManyLocations}
use Rattle.mon_compile.specs.Expressions.{single_value, is_local}
use Rattle.mon_compile.specs.Statements.{is_lone_text}
use Rattle.mon_compile.specs.Functions.{joined, locals_of}
use Rattle.mon_compile.specs.Modules.{functions_of, constant_value, bases_of}

-- DuplicateName

abbrev pub has_twin : List (List ℕ) → Bool
has_twin [] = false
has_twin (n ∷ ns) = is_local ns n || has_twin ns

-- the line of the first of these items that binds a name again, behind items that bind the given names
abbrev pub duplicate : List (List ℕ) → List ModuleItem → Option ℕ
duplicate bound [] = None
duplicate bound (item.Function f ∷ items) = if is_local bound f.name || has_twin f.parameters then Some f.line else duplicate (f.name ∷ bound) items
duplicate bound (item.Constant line name c ∷ items) = if is_local bound name then Some line else duplicate (name ∷ bound) items
duplicate bound (item.Text t ∷ items) = duplicate bound items

-- Misplaced: the lines of each `break` and `continue` outside a loop, by whether a loop is open

abbrev pub all_loose : List (Bool → List ℕ) → Bool → List ℕ
all_loose [] inside = []
all_loose (s ∷ rest) inside = s inside ++ all_loose rest inside

abbrev pub unless : Bool → ℕ → List ℕ
unless true line = []
unless false line = line ∷ []

abbrev pub loose_simple : ℕ → Simple → Bool → List ℕ
loose_simple line simple.Break inside = unless inside line
loose_simple line simple.Continue inside = unless inside line
loose_simple line _ inside = []

abbrev pub loose_step : Statement-F (Bool → List ℕ) (Bool → List ℕ) → Bool → List ℕ
loose_step (Statement-F.Simple line s) inside = loose_simple line s inside
loose_step (Statement-F.If line c a b) inside = all_loose a inside ++ all_loose b inside
loose_step (Statement-F.While line c a) inside = all_loose a true
loose_step (Statement-F.For line t e a) inside = all_loose a true
loose_step (Statement-F.Try line a handlers f) inside = all_loose a inside ++ (all_loose handlers inside ++ all_loose f inside)

abbrev pub loose_handler_step : Handler-F (Bool → List ℕ) (Bool → List ℕ) → Bool → List ℕ
loose_handler_step h = all_loose h.body

abbrev pub loose_of : Statement → Bool → List ℕ
loose_of = fold-Statement (Bool → List ℕ) (Bool → List ℕ) loose_step loose_handler_step

abbrev pub most_locals : ℕ
most_locals = 255

-- each of these functions has at most so many
abbrev pub FewLocals : List Function → Type 0
FewLocals [] = Unit {0}
FewLocals (f ∷ fs) = (length (locals_of f) ≤ most_locals) × FewLocals fs

abbrev pub misplaced_in : Function → List ℕ
misplaced_in f = unless (nat_lt (length (locals_of f)) (most_locals + 1)) f.line ++ all_loose (map loose_of f.body) false

-- TooLarge: the lines of what itself has a constant over the limits

abbrev pub is_large : Value → Bool
is_large v = nat_lt most_weight (weight v) || nat_lt most_depth (depth v)

abbrev pub any_large : List Bool → Bool
any_large [] = false
any_large (b ∷ bs) = b || any_large bs

abbrev pub maybe_large : Option Bool → Bool
maybe_large None = false
maybe_large (Some b) = b

abbrev pub large_step : Expression-F Bool → Bool
large_step (Expression-F.Name name) = false
large_step (Expression-F.Integer n) = is_large (value.Int n)
large_step (Expression-F.Text t) = is_large (value.Text t)
large_step (Expression-F.Single single) = is_large (single_value single)
large_step Expression-F.Empty = is_large (value.Tuple [])
large_step (Expression-F.Tuple parts) = any_large parts
large_step (Expression-F.Yield line e) = maybe_large e
large_step (Expression-F.If a test b) = a || (test || b)
large_step (Expression-F.Or a b) = a || b
large_step (Expression-F.And a b) = a || b
large_step (Expression-F.Not a) = a
large_step (Expression-F.Compare op a b) = a || b
large_step (Expression-F.Is a single) = a
large_step (Expression-F.IsNot a single) = a
large_step (Expression-F.Binary op a b) = a || b
large_step (Expression-F.Negative a) = a
large_step (Expression-F.Call f args) = f || any_large args
large_step (Expression-F.Method o method args) = o || any_large args
large_step (Expression-F.Subscript a i) = a || i

abbrev pub has_large : Expression → Bool
has_large = fold-Expression Bool large_step

abbrev pub has_large_within : Option Expression → Bool
has_large_within None = false
has_large_within (Some e) = has_large e

-- a lone text has none
abbrev pub lone_large : Bool → Expression → Bool
lone_large true e = false
lone_large false e = has_large e

abbrev pub simple_large : Simple → Bool
simple_large (simple.Return e) = has_large_within e
simple_large (simple.Raise e) = has_large_within e
simple_large (simple.Augmented n op e) = has_large e
simple_large (simple.Assign t e) = has_large e
simple_large (simple.Expression e) = lone_large (is_lone_text e) e
simple_large _ = false

abbrev pub where_so : Bool → ℕ → List ℕ
where_so true line = line ∷ []
where_so false line = []

abbrev pub large_lines_step : Statement-F (List ℕ) (List ℕ) → List ℕ
large_lines_step (Statement-F.Simple line s) = where_so (simple_large s) line
large_lines_step (Statement-F.If line c a b) = where_so (has_large c) line ++ (joined a ++ joined b)
large_lines_step (Statement-F.While line c a) = where_so (has_large c) line ++ joined a
large_lines_step (Statement-F.For line t e a) = where_so (has_large e) line ++ joined a
large_lines_step (Statement-F.Try line a handlers f) = joined a ++ (joined handlers ++ joined f)

abbrev pub large_handler_step : Handler-F (List ℕ) (List ℕ) → List ℕ
large_handler_step h = where_so (has_large_within h.class) h.line ++ joined h.body

abbrev pub large_lines_of : Statement → List ℕ
large_lines_of = fold-Statement (List ℕ) (List ℕ) large_lines_step large_handler_step

abbrev pub large_lines_in : List ModuleItem → List ℕ
large_lines_in [] = []
large_lines_in (item.Function f ∷ items) = joined (map large_lines_of f.body) ++ large_lines_in items
large_lines_in (item.Constant line name c ∷ items) = where_so (is_large (constant_value c)) line ++ large_lines_in items
large_lines_in (item.Text t ∷ items) = large_lines_in items

-- the first fault

abbrev pub least_of : ℕ → List ℕ → ℕ
least_of n [] = n
least_of n (m ∷ ms) = least_of (min n m) ms

abbrev pub least : List ℕ → Option ℕ
least [] = None
least (n ∷ ns) = Some (least_of n ns)

-- this fault at a line, if there is one, else another
abbrev pub first_fault : (ℕ → CompileFault) → Option ℕ → Option CompileFault → Option CompileFault
first_fault fault None others = others
first_fault fault (Some line) others = Some (fault line)

abbrev pub most_locations : ℕ
most_locations = 65536

abbrev pub too_many : Module → Option CompileFault
too_many m = if nat_lt most_locations (length (bases_of (functions_of m.items))) then Some TooManyLocations else None

-- the faults that the trees show, and then others
abbrev pub fault_before : Option CompileFault → Module → Option CompileFault
fault_before others m =
    let functions = functions_of m.items in
    first_fault DuplicateName (duplicate [] m.items)
    (first_fault Misplaced (least (joined (map misplaced_in functions)))
    (first_fault TooLarge (least (large_lines_in m.items))
    others))

abbrev pub fault_of_tree : Module → Option CompileFault
fault_of_tree = fault_before None

abbrev pub compile_fault : Module → Option CompileFault
compile_fault m = fault_before (too_many m) m
