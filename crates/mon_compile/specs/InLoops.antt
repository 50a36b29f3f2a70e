-- Each `break` and `continue` stands in a loop.
use Rattle.std.specs.Prelude.{◌≡◌, ◌&&◌, Bool, true, false, IsTrue, List, [], ◌∷◌, map, None}
use Rattle.std.specs.Bool.{Decides}
use Rattle.mon_trees.specs.declared.tree.Function.{Function}
use Rattle.mon_trees.specs.declared.tree.Module.{Module}
use Rattle.mon_trees.specs.declared.tree.Simple.{Simple}
use Rattle.mon_trees.specs.declared.tree.Simple.TheVariants as simple
use Rattle.mon_trees.specs.declared.tree.Statement.{Statement}
use Rattle.mon_trees.specs.declared.tree.Statement.TheOpen.{Statement-F, Handler-F}
use Rattle.mon_trees.specs.declared.tree.Statement.TheFolds.{fold-Statement}
use Rattle.mon_compile.specs.Modules.{functions_of}
use Rattle.mon_compile.specs.Faults.{all_loose, loose_of, compile_fault}

-- whether they do, by whether a loop is open round them

abbrev pub all_in_loops : List (Bool → Bool) → Bool → Bool
all_in_loops [] inside = true
all_in_loops (s ∷ rest) inside = s inside && all_in_loops rest inside

abbrev pub simple_in_loop : Simple → Bool → Bool
simple_in_loop simple.Break inside = inside
simple_in_loop simple.Continue inside = inside
simple_in_loop _ inside = true

abbrev pub in_loops_step : Statement-F (Bool → Bool) (Bool → Bool) → Bool → Bool
in_loops_step (Statement-F.Simple line s) inside = simple_in_loop s inside
in_loops_step (Statement-F.If line c a b) inside = all_in_loops a inside && all_in_loops b inside
in_loops_step (Statement-F.While line c a) inside = all_in_loops a true
in_loops_step (Statement-F.For line t e a) inside = all_in_loops a true
in_loops_step (Statement-F.Try line a handlers f) inside = all_in_loops a inside && (all_in_loops handlers inside && all_in_loops f inside)

abbrev pub in_loops_handler_step : Handler-F (Bool → Bool) (Bool → Bool) → Bool → Bool
in_loops_handler_step h = all_in_loops h.body

abbrev pub in_loops : Statement → Bool → Bool
in_loops = fold-Statement (Bool → Bool) (Bool → Bool) in_loops_step in_loops_handler_step

abbrev pub block_in_loops : List Statement → Bool → Bool
block_in_loops body = all_in_loops (map in_loops body)

abbrev pub AllInLoops : List Function → Type 0
AllInLoops [] = Unit {0}
AllInLoops (f ∷ fs) = IsTrue (block_in_loops f.body false) × AllInLoops fs

-- They do where no line is found of one that does not.
abbrev pub TellsLoose : Type 0
TellsLoose = (body : List Statement) (inside : Bool) → Decides (block_in_loops body inside) (all_loose (map loose_of body) inside ≡ [])

-- In a module without a fault each `break` and `continue` stands in a loop.
abbrev pub BreaksStandInLoops : Type 0
BreaksStandInLoops = (m : Module) → compile_fault m ≡ None → AllInLoops (functions_of m.items)
