-- How many nodes deep a tree is. Blocks, clauses and lists of arguments are no nodes, and brackets that only group make none.
use Rattle.std.specs.Prelude.{ℕ, ◌+◌, max, List, [], ◌∷◌, map, Option, Some, None}
use Rattle.mon_trees.specs.declared.tree.Expression.{Expression}
use Rattle.mon_trees.specs.declared.tree.Expression.TheOpen.{Expression-F}
use Rattle.mon_trees.specs.declared.tree.Expression.TheFolds.{fold-Expression}
use Rattle.mon_trees.specs.declared.tree.Constant.{Constant}
use Rattle.mon_trees.specs.declared.tree.Constant.TheOpen.{Constant-F}
use Rattle.mon_trees.specs.declared.tree.Constant.TheFolds.{fold-Constant}
use Rattle.mon_trees.specs.declared.tree.Statement.{Statement}
use Rattle.mon_trees.specs.declared.tree.Statement.TheOpen.{Statement-F, Handler-F}
use Rattle.mon_trees.specs.declared.tree.Statement.TheFolds.{fold-Statement, fold-Handler}
use Rattle.mon_trees.specs.declared.tree.Handler.{Handler}
use Rattle.mon_trees.specs.declared.tree.Targets.{Targets}
use Rattle.mon_trees.specs.declared.tree.Targets.TheVariants as targets
use Rattle.mon_trees.specs.declared.tree.Simple.{Simple}
use Rattle.mon_trees.specs.declared.tree.Simple.TheVariants as simple
use Rattle.mon_trees.specs.declared.tree.ModuleItem.{ModuleItem}
use Rattle.mon_trees.specs.declared.tree.ModuleItem.TheVariants as item

abbrev pub most : List ℕ → ℕ
most [] = 0
most (n ∷ ns) = max n (most ns)

abbrev pub or_none : Option ℕ → ℕ
or_none None = 0
or_none (Some n) = n

-- a part is given as its depth
abbrev pub expr_depth_step : Expression-F ℕ → ℕ
expr_depth_step (Expression-F.Name n) = 1
expr_depth_step (Expression-F.Integer n) = 1
expr_depth_step (Expression-F.Text s) = 1
expr_depth_step (Expression-F.Single s) = 1
expr_depth_step Expression-F.Empty = 1
expr_depth_step (Expression-F.Tuple parts) = 1 + most parts
expr_depth_step (Expression-F.Yield line value) = 1 + or_none value
expr_depth_step (Expression-F.If a test b) = 1 + max a (max test b)
expr_depth_step (Expression-F.Or a b) = 1 + max a b
expr_depth_step (Expression-F.And a b) = 1 + max a b
expr_depth_step (Expression-F.Not a) = 1 + a
expr_depth_step (Expression-F.Compare op a b) = 1 + max a b
expr_depth_step (Expression-F.Is a s) = 1 + max a 1
expr_depth_step (Expression-F.IsNot a s) = 1 + max a 1
expr_depth_step (Expression-F.Binary op a b) = 1 + max a b
expr_depth_step (Expression-F.Negative a) = 1 + a
expr_depth_step (Expression-F.Call f args) = 1 + max f (most args)
expr_depth_step (Expression-F.Method a m args) = 1 + max a (most args)
expr_depth_step (Expression-F.Subscript a i) = 1 + max a i

abbrev pub expr_depth : Expression → ℕ
expr_depth = fold-Expression ℕ expr_depth_step

abbrev pub const_depth_step : Constant-F ℕ → ℕ
const_depth_step (Constant-F.Tuple parts) = 1 + most parts
const_depth_step _ = 1

abbrev pub const_depth : Constant → ℕ
const_depth = fold-Constant ℕ const_depth_step

-- names are nodes, and so is a tuple of them
abbrev pub targets_depth : Targets → ℕ
targets_depth (targets.Name n) = 1
targets_depth (targets.Tuple names) = 2

abbrev pub maybe_depth : Option Expression → ℕ
maybe_depth None = 0
maybe_depth (Some e) = expr_depth e

abbrev pub simple_depth : Simple → ℕ
simple_depth simple.Pass = 1
simple_depth simple.Break = 1
simple_depth simple.Continue = 1
simple_depth (simple.Return value) = 1 + maybe_depth value
simple_depth (simple.Raise value) = 1 + maybe_depth value
simple_depth (simple.Augmented n op e) = 1 + expr_depth e
simple_depth (simple.Assign to e) = 1 + max (targets_depth to) (expr_depth e)
simple_depth (simple.Expression e) = 1 + expr_depth e

abbrev pub stmt_depth_step : Statement-F ℕ ℕ → ℕ
stmt_depth_step (Statement-F.Simple line s) = simple_depth s
stmt_depth_step (Statement-F.If line test body orelse) = 1 + max (expr_depth test) (max (most body) (most orelse))
stmt_depth_step (Statement-F.While line test body) = 1 + max (expr_depth test) (most body)
stmt_depth_step (Statement-F.For line to over body) = 1 + max (targets_depth to) (max (expr_depth over) (most body))
stmt_depth_step (Statement-F.Try line body handlers last) = 1 + max (most body) (max (most handlers) (most last))

-- the parts of a clause; the name after `as` is a node
abbrev pub handler_depth_step : Handler-F ℕ ℕ → ℕ
handler_depth_step h = max (maybe_depth h.class) (max (name_depth h.name) (most h.body))
  where
    name_depth : Option (List ℕ) → ℕ
    name_depth None = 0
    name_depth (Some n) = 1

abbrev pub stmt_depth : Statement → ℕ
stmt_depth = fold-Statement ℕ ℕ stmt_depth_step handler_depth_step

abbrev pub handler_depth : Handler → ℕ
handler_depth = fold-Handler ℕ ℕ stmt_depth_step handler_depth_step

abbrev pub item_depth : ModuleItem → ℕ
item_depth (item.Function d) = 1 + most (map stmt_depth d.body)
item_depth (item.Constant line n value) = 1 + const_depth value
item_depth (item.Text s) = 2
