-- The program of a size n. For each k below n it has the loop
--
--     def fk(n):
--         t = k
--         for i in range(n):
--             t += i
--         return t
--
-- and then the function that adds up what they return,
--
--     def go(n):
--         s = 0
--         s += f0(n)
--         s += f1(n)
--         ..
--         return s
use Rattle.std.specs.Prelude.{ℕ, zero, suc, ◌+◌, ◌*◌, pos, List, [], ◌∷◌, ◌++◌, Some, codes, decimal}
use Rattle.mon_trees.specs.declared.tree.BinaryOperator.{BinaryOperator}
use Rattle.mon_trees.specs.declared.tree.Expression.{Expression}
use Rattle.mon_trees.specs.declared.tree.Expression as expression
use Rattle.mon_trees.specs.declared.tree.Expression.TheViews as node
use Rattle.mon_trees.specs.declared.tree.Function.{Function}
use Rattle.mon_trees.specs.declared.tree.Module.{Module}
use Rattle.mon_trees.specs.declared.tree.ModuleItem.{ModuleItem}
use Rattle.mon_trees.specs.declared.tree.ModuleItem.TheVariants as item
use Rattle.mon_trees.specs.declared.tree.Simple.TheVariants as simple
use Rattle.mon_trees.specs.declared.tree.Statement.{Statement}
use Rattle.mon_trees.specs.declared.tree.Statement as statement
use Rattle.mon_trees.specs.declared.tree.Statement.TheViews as compound
use Rattle.mon_trees.specs.declared.tree.Targets.TheVariants as targets

-- NAME(n)
abbrev pub call : List ℕ → Expression
call name = node.Call (expression.Name name) (expression.Name (codes "n") ∷ [])

-- NAME = NUMBER
abbrev pub assign : ℕ → List ℕ → ℕ → Statement
assign line name number = statement.Simple line (simple.Assign (targets.Name name) (expression.Integer (pos number)))

-- NAME += VALUE
abbrev pub add : ℕ → List ℕ → Expression → Statement
add line name value = statement.Simple line (simple.Augmented name BinaryOperator.Add value)

-- return NAME
abbrev pub give_back : ℕ → List ℕ → Statement
give_back line name = statement.Simple line (simple.Return (Some (expression.Name name)))

-- a function of one parameter, n
abbrev pub function : ℕ → List ℕ → List Statement → Function
function line name body = record { line = line; name = name; parameters = codes "n" ∷ []; body = body }

abbrev pub loop_name : ℕ → List ℕ
loop_name k = codes "f" ++ decimal k

-- the lines before loop k: each loop has five
abbrev pub lines_before : ℕ → ℕ
lines_before k = 5 * k

-- for i in range(n):
--     t += i
abbrev pub additions : ℕ → Statement
additions line = compound.For line (targets.Name (codes "i")) (call (codes "range")) (add (line + 1) (codes "t") (expression.Name (codes "i")) ∷ [])

abbrev pub loop_body : ℕ → ℕ → List Statement
loop_body before k = assign (before + 2) (codes "t") k ∷ additions (before + 3) ∷ give_back (before + 5) (codes "t") ∷ []

abbrev pub loop_function : ℕ → Function
loop_function k = function (lines_before k + 1) (loop_name k) (loop_body (lines_before k) k)

-- the first n loops
abbrev pub loops : ℕ → List ModuleItem
loops zero = []
loops (suc k) = loops k ++ item.Function (loop_function k) ∷ []

-- what the first n loops return is added up, the first of them on this line
abbrev pub sums : ℕ → ℕ → List Statement
sums first zero = []
sums first (suc k) = sums first k ++ add (first + k) (codes "s") (call (loop_name k)) ∷ []

abbrev pub sum_body : ℕ → ℕ → List Statement
sum_body before n = assign (before + 2) (codes "s") 0 ∷ (sums (before + 3) n ++ give_back (before + 3 + n) (codes "s") ∷ [])

-- the function that adds up what n loops return, behind their lines
abbrev pub sum_function : ℕ → Function
sum_function n = function (lines_before n + 1) (codes "go") (sum_body (lines_before n) n)

-- the program
abbrev pub generated : ℕ → Module
generated n = record { items = loops n ++ item.Function (sum_function n) ∷ [] }
