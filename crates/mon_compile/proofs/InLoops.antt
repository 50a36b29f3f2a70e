-- Which `break` and `continue` stand in a loop, and which are loose.
use Rattle.std.proofs.Common.{◌≡◌, ℕ, Bool, true, false, List, [], ◌∷◌, ◌++◌, length, map, refl, sym, ap, ◌∙◌, subst, nat_lt, ◌+◌}
use Rattle.std.specs.Prelude.{◌&&◌}
use Rattle.std.specs.Bool.{Decides}
use Rattle.mon_trees.specs.declared.tree.Function.{Function}
use Rattle.mon_trees.specs.declared.tree.Handler.{Handler}
use Rattle.mon_trees.specs.declared.tree.Simple.{Simple}
use Rattle.mon_trees.specs.declared.tree.Simple.TheVariants as simple
use Rattle.mon_trees.specs.declared.tree.Statement.{Statement}
use Rattle.mon_trees.specs.declared.tree.Statement.TheViews.{roll-Statement, roll-Handler}
use Rattle.mon_trees.specs.declared.tree.Statement.TheOpen.{Statement-F, Handler-F}
use Rattle.mon_trees.specs.declared.tree.Statement.TheFolds.{fold-Handler, ind-Statement, fold-roll-Statement, fold-roll-Handler, map-Statement, map-Handler}
use Rattle.mon_compile.specs.Functions.{joined, locals_of}
use Rattle.mon_compile.specs.Modules.{functions_of}
use Rattle.mon_compile.specs.Faults.{all_loose, loose_simple, loose_step, loose_handler_step, loose_of, misplaced_in, unless, most_locals}
use Rattle.mon_compile.specs.InLoops.{all_in_loops, simple_in_loop, in_loops_step, in_loops_handler_step, in_loops, block_in_loops, AllInLoops, TellsLoose, BreaksStandInLoops}
use Rattle.mon_compile.proofs.Programs.{empty_left, empty_right, no_misplaced}

abbrev Lines : Type 0
Lines = Bool → List ℕ

abbrev Test : Type 0
Test = Bool → Bool

abbrev is_empty : List ℕ → Bool
is_empty [] = true
is_empty (line ∷ lines) = false

empty_append : (a b : List ℕ) → (is_empty a && is_empty b) ≡ is_empty (a ++ b)
empty_append [] b = refl
empty_append (x ∷ a) b = refl

-- two lists of lines, one behind the other
both_empty : (s t : Bool) (a b : List ℕ) → s ≡ is_empty a → t ≡ is_empty b → (s && t) ≡ is_empty (a ++ b)
both_empty s t a b p q = ap (λ u. u && t) p ∙ ap (λ u. is_empty a && u) q ∙ empty_append a b

abbrev handler_in_loops : Handler → Test
handler_in_loops = fold-Handler Test Test in_loops_step in_loops_handler_step

abbrev loose_of_handler : Handler → Lines
loose_of_handler = fold-Handler Lines Lines loose_step loose_handler_step

abbrev Claim : Statement → Type 0
Claim s = (inside : Bool) → in_loops s inside ≡ is_empty (loose_of s inside)

abbrev HandlerClaim : Handler → Type 0
HandlerClaim h = (inside : Bool) → handler_in_loops h inside ≡ is_empty (loose_of_handler h inside)

abbrev Part : Type 0
Part = (s : Statement) × Claim s

abbrev HandlerPart : Type 0
HandlerPart = (h : Handler) × HandlerClaim h

abbrev trees : List Part → List Statement
trees = map (λ e. e.0)

abbrev handlers_in : List HandlerPart → List Handler
handlers_in = map (λ e. e.0)

block_same : (parts : List Part) (inside : Bool) → all_in_loops (map in_loops (trees parts)) inside ≡ is_empty (all_loose (map loose_of (trees parts)) inside)
block_same [] inside = refl
block_same (e ∷ parts) inside = both_empty (in_loops e.0 inside) _ (loose_of e.0 inside) _ (e.1 inside) (block_same parts inside)

handlers_same : (parts : List HandlerPart) (inside : Bool) → all_in_loops (map handler_in_loops (handlers_in parts)) inside ≡ is_empty (all_loose (map loose_of_handler (handlers_in parts)) inside)
handlers_same [] inside = refl
handlers_same (e ∷ parts) inside = both_empty (handler_in_loops e.0 inside) _ (loose_of_handler e.0 inside) _ (e.1 inside) (handlers_same parts inside)

simple_same : (line : ℕ) (s : Simple) (inside : Bool) → simple_in_loop s inside ≡ is_empty (loose_simple line s inside)
simple_same line simple.Break true = refl
simple_same line simple.Break false = refl
simple_same line simple.Continue true = refl
simple_same line simple.Continue false = refl
simple_same line _ inside = refl

-- one layer

abbrev tests : Statement-F Statement Handler → Statement-F Test Test
tests = map-Statement Statement Handler Test Test in_loops handler_in_loops

abbrev lines : Statement-F Statement Handler → Statement-F Lines Lines
lines = map-Statement Statement Handler Lines Lines loose_of loose_of_handler

abbrev opened : Statement-F Part HandlerPart → Statement-F Statement Handler
opened = map-Statement Part HandlerPart Statement Handler (λ e. e.0) (λ e. e.0)

layer : (y : Statement-F Part HandlerPart) (inside : Bool) → in_loops_step (tests (opened y)) inside ≡ is_empty (loose_step (lines (opened y)) inside)
layer (Statement-F.Simple line s) inside = simple_same line s inside
layer (Statement-F.If line c a b) inside = both_empty (all_in_loops (map in_loops (trees a)) inside) _ (all_loose (map loose_of (trees a)) inside) _ (block_same a inside) (block_same b inside)
layer (Statement-F.While line c a) inside = block_same a true
layer (Statement-F.For line t e a) inside = block_same a true
layer (Statement-F.Try line a handlers f) inside =
    both_empty (all_in_loops (map in_loops (trees a)) inside) _ (all_loose (map loose_of (trees a)) inside) _ (block_same a inside)
    (both_empty (all_in_loops (map handler_in_loops (handlers_in handlers)) inside) _ (all_loose (map loose_of_handler (handlers_in handlers)) inside) _ (handlers_same handlers inside) (block_same f inside))

statement_roll : (x : Statement-F Statement Handler) (y : Statement-F Part HandlerPart) → opened y ≡ x → Claim (roll-Statement x)
statement_roll x y is inside =
    let inner : in_loops_step (tests x) inside ≡ is_empty (loose_step (lines x) inside) = subst (λ (z : Statement-F Statement Handler). in_loops_step (tests z) inside ≡ is_empty (loose_step (lines z) inside)) is (layer y inside) in
    ap (λ (f : Test). f inside) (fold-roll-Statement Test Test in_loops_step in_loops_handler_step x) ∙ inner ∙ sym (ap (λ (f : Lines). is_empty (f inside)) (fold-roll-Statement Lines Lines loose_step loose_handler_step x))

abbrev handler_tests : Handler-F Statement Handler → Handler-F Test Test
handler_tests = map-Handler Statement Handler Test Test in_loops handler_in_loops

abbrev handler_lines : Handler-F Statement Handler → Handler-F Lines Lines
handler_lines = map-Handler Statement Handler Lines Lines loose_of loose_of_handler

handler_roll : (x : Handler-F Statement Handler) (y : Handler-F Part HandlerPart) → map-Handler Part HandlerPart Statement Handler (λ e. e.0) (λ e. e.0) y ≡ x → HandlerClaim (roll-Handler x)
handler_roll x y is inside =
    let inner : in_loops_handler_step (handler_tests x) inside ≡ is_empty (loose_handler_step (handler_lines x) inside)
    = subst (λ (z : Handler-F Statement Handler). in_loops_handler_step (handler_tests z) inside ≡ is_empty (loose_handler_step (handler_lines z) inside)) is (block_same y.body inside) in
    ap (λ (f : Test). f inside) (fold-roll-Handler Test Test in_loops_step in_loops_handler_step x) ∙ inner ∙ sym (ap (λ (f : Lines). is_empty (f inside)) (fold-roll-Handler Lines Lines loose_step loose_handler_step x))

statement_same : (s : Statement) → Claim s
statement_same = ind-Statement Claim HandlerClaim statement_roll handler_roll

body_same : (body : List Statement) (inside : Bool) → block_in_loops body inside ≡ is_empty (all_loose (map loose_of body) inside)
body_same [] inside = refl
body_same (s ∷ body) inside = both_empty (in_loops s inside) _ (loose_of s inside) _ (statement_same s inside) (body_same body inside)

none_loose : (b : Bool) (lines : List ℕ) → b ≡ is_empty lines → Decides b (lines ≡ [])
none_loose b [] e = ((λ h. refl), (λ h. e))
none_loose b (line ∷ lines) e = ((λ h. absurd (differ (sym h ∙ e))), (λ h. cc))
  where
    differ : true ≡ false → ⊥
    differ h = cc

pub tells_loose : TellsLoose
tells_loose body inside = none_loose (block_in_loops body inside) (all_loose (map loose_of body) inside) (body_same body inside)

all_functions : (fs : List Function) → joined (map misplaced_in fs) ≡ [] → AllInLoops fs
all_functions [] h = tt
all_functions (f ∷ fs) h =
    let rest = joined (map misplaced_in fs) in
    let loose = all_loose (map loose_of f.body) false in
    let none : loose ≡ [] = empty_right (unless (nat_lt (length (locals_of f)) (most_locals + 1)) f.line) loose (empty_left (misplaced_in f) rest h) in
    (body_same f.body false ∙ ap is_empty none, all_functions fs (empty_right (misplaced_in f) rest h))

pub breaks_stand_in_loops : BreaksStandInLoops
breaks_stand_in_loops m h = all_functions (functions_of m.items) (no_misplaced m h)
