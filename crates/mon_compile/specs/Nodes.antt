-- The nodes of expressions and of statements, for the order of recursions.
use Rattle.std.specs.Prelude.{ℕ, ◌+◌, List, [], ◌∷◌, map, Option, Some, None}
use Rattle.mon_trees.specs.declared.tree.Expression.{Expression}
use Rattle.mon_trees.specs.declared.tree.Expression.TheOpen.{Expression-F}
use Rattle.mon_trees.specs.declared.tree.Expression.TheFolds.{fold-Expression}
use Rattle.mon_trees.specs.declared.tree.Handler.{Handler}
use Rattle.mon_trees.specs.declared.tree.Statement.{Statement}
use Rattle.mon_trees.specs.declared.tree.Statement.TheOpen.{Statement-F, Handler-F}
use Rattle.mon_trees.specs.declared.tree.Statement.TheFolds.{fold-Statement, fold-Handler}
use Rattle.mon_compile.specs.declared.surroundings.Surroundings.{Surroundings}
use Rattle.mon_compile.specs.declared.surroundings.Surroundings.TheOpen.{Surroundings-F}
use Rattle.mon_compile.specs.declared.surroundings.Surroundings.TheFolds.{fold-Surroundings}

abbrev pub total : List ℕ → ℕ
total [] = 0
total (n ∷ ns) = n + total ns

abbrev pub or_zero : Option ℕ → ℕ
or_zero None = 0
or_zero (Some n) = n

abbrev pub nodes_step : Expression-F ℕ → ℕ
nodes_step (Expression-F.Tuple parts) = 1 + total parts
nodes_step (Expression-F.Yield line e) = 1 + or_zero e
nodes_step (Expression-F.If a test b) = 1 + (a + (test + b))
nodes_step (Expression-F.Or a b) = 1 + (a + b)
nodes_step (Expression-F.And a b) = 1 + (a + b)
nodes_step (Expression-F.Not a) = 1 + a
nodes_step (Expression-F.Compare op a b) = 1 + (a + b)
nodes_step (Expression-F.Is a single) = 1 + a
nodes_step (Expression-F.IsNot a single) = 1 + a
nodes_step (Expression-F.Binary op a b) = 1 + (a + b)
nodes_step (Expression-F.Negative a) = 1 + a
nodes_step (Expression-F.Call f args) = 1 + (f + total args)
nodes_step (Expression-F.Method o method args) = 1 + (o + total args)
nodes_step (Expression-F.Subscript a i) = 1 + (a + i)
nodes_step _ = 1

abbrev pub nodes : Expression → ℕ
nodes = fold-Expression ℕ nodes_step

abbrev pub all_nodes : List Expression → ℕ
all_nodes es = total (map nodes es)

-- a clause counts as one, and the expressions of a statement do not count

abbrev pub statement_nodes_step : Statement-F ℕ ℕ → ℕ
statement_nodes_step (Statement-F.Simple line s) = 1
statement_nodes_step (Statement-F.If line c a b) = 1 + (total a + total b)
statement_nodes_step (Statement-F.While line c a) = 1 + total a
statement_nodes_step (Statement-F.For line t e a) = 1 + total a
statement_nodes_step (Statement-F.Try line a handlers f) = 1 + (total a + (total handlers + total f))

abbrev pub handler_nodes_step : Handler-F ℕ ℕ → ℕ
handler_nodes_step h = 1 + total h.body

abbrev pub statement_nodes : Statement → ℕ
statement_nodes = fold-Statement ℕ ℕ statement_nodes_step handler_nodes_step

abbrev pub handler_nodes : Handler → ℕ
handler_nodes = fold-Handler ℕ ℕ statement_nodes_step handler_nodes_step

abbrev pub block_nodes : List Statement → ℕ
block_nodes body = total (map statement_nodes body)

abbrev pub clauses_nodes : List Handler → ℕ
clauses_nodes clauses = total (map handler_nodes clauses)

-- those of the last parts that stand round a statement
abbrev pub last_nodes_step : Surroundings-F ℕ → ℕ
last_nodes_step Surroundings-F.Top = 0
last_nodes_step (Surroundings-F.While x outer) = outer.now
last_nodes_step (Surroundings-F.For x outer) = outer.now
last_nodes_step (Surroundings-F.Try outer) = outer.now
last_nodes_step (Surroundings-F.Except outer) = outer.now
last_nodes_step (Surroundings-F.ExceptAs n outer) = outer.now
last_nodes_step (Surroundings-F.Finally last outer) = block_nodes last.now + outer.now
last_nodes_step (Surroundings-F.Raised outer) = outer.now
last_nodes_step (Surroundings-F.Returning outer) = outer.now

abbrev pub last_nodes : Surroundings → ℕ
last_nodes = fold-Surroundings ℕ last_nodes_step
