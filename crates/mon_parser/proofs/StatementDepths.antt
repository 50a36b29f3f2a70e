-- The depth of each statement, handler and constant.
use Rattle.std.proofs.Common.{◌≡◌, ℕ, ◌+◌, max, List, [], ◌∷◌, ◌++◌, map, sym, ap, ◌∙◌, arith}
use Rattle.std.specs.Prelude.{Option, Some, None}
use Rattle.mon_trees.specs.declared.tree.Expression.{Expression}
use Rattle.mon_trees.specs.declared.tree.Targets.{Targets}
use Rattle.mon_trees.specs.declared.tree.Simple.{Simple}
use Rattle.mon_trees.specs.declared.tree.Statement.{Statement}
use Rattle.mon_trees.specs.declared.tree.Statement as stmt
use Rattle.mon_trees.specs.declared.tree.Statement.TheOpen.{Statement-F}
use Rattle.mon_trees.specs.declared.tree.Statement.TheFolds.{fold-roll-Statement, fold-roll-Handler}
use Rattle.mon_trees.specs.declared.tree.Statement.TheViews as compound
use Rattle.mon_trees.specs.declared.tree.Handler.{Handler}
use Rattle.mon_trees.specs.declared.tree.Constant.{Constant}
use Rattle.mon_trees.specs.declared.tree.Constant.TheOpen.{Constant-F}
use Rattle.mon_trees.specs.declared.tree.Constant.TheFolds.{fold-roll-Constant}
use Rattle.mon_trees.specs.declared.tree.Constant.TheViews as consts
use Rattle.mon_parser.specs.Grammar.{handler}
use Rattle.mon_parser.proofs.Prefixes.{depth_some}
use Rattle.mon_parser.specs.Depth.{expr_depth, targets_depth, simple_depth, stmt_depth, stmt_depth_step, handler_depth, handler_depth_step, const_depth, const_depth_step, most}

pub depth_line : (l : ℕ) (s : Simple) → stmt_depth (stmt.Simple l s) ≡ simple_depth s
depth_line l s = ap stmt_depth (sym (compound.rolls-Simple l s)) ∙ fold-roll-Statement ℕ ℕ stmt_depth_step handler_depth_step (Statement-F.Simple l s)

pub depth_branch : (l : ℕ) (test : Expression) (body other : List Statement) → stmt_depth (compound.If l test body other) ≡ 1 + max (expr_depth test) (max (most (map stmt_depth body)) (most (map stmt_depth other)))
depth_branch l test body other = ap stmt_depth (sym (compound.rolls-If l test body other)) ∙ fold-roll-Statement ℕ ℕ stmt_depth_step handler_depth_step (Statement-F.If l test body other)

pub depth_while : (l : ℕ) (test : Expression) (body : List Statement) → stmt_depth (compound.While l test body) ≡ 1 + max (expr_depth test) (most (map stmt_depth body))
depth_while l test body = ap stmt_depth (sym (compound.rolls-While l test body)) ∙ fold-roll-Statement ℕ ℕ stmt_depth_step handler_depth_step (Statement-F.While l test body)

pub depth_for : (l : ℕ) (to : Targets) (over : Expression) (body : List Statement) → stmt_depth (compound.For l to over body) ≡ 1 + max (targets_depth to) (max (expr_depth over) (most (map stmt_depth body)))
depth_for l to over body = ap stmt_depth (sym (compound.rolls-For l to over body)) ∙ fold-roll-Statement ℕ ℕ stmt_depth_step handler_depth_step (Statement-F.For l to over body)

pub depth_try : (l : ℕ) (body : List Statement) (handlers : List Handler) (last : List Statement) → stmt_depth (compound.Try l body handlers last) ≡ 1 + max (most (map stmt_depth body)) (max (most (map handler_depth handlers)) (most (map stmt_depth last)))
depth_try l body handlers last = ap stmt_depth (sym (compound.rolls-Try l body handlers last)) ∙ fold-roll-Statement ℕ ℕ stmt_depth_step handler_depth_step (Statement-F.Try l body handlers last)

pub depth_constants : (cs : List Constant) → const_depth (consts.Tuple cs) ≡ 1 + most (map const_depth cs)
depth_constants cs = ap const_depth (sym (consts.rolls-Tuple cs)) ∙ fold-roll-Constant ℕ const_depth_step (Constant-F.Tuple cs)

pub most_statements : (ss : List Statement) (s : Statement) → most (map stmt_depth (ss ++ s ∷ [])) ≡ max (most (map stmt_depth ss)) (stmt_depth s)
most_statements [] s = omega arith
most_statements (a ∷ ss) s = let h = most_statements ss s in omega (arith, h)

pub most_constants : (cs : List Constant) (c : Constant) → most (map const_depth (cs ++ c ∷ [])) ≡ max (most (map const_depth cs)) (const_depth c)
most_constants [] c = omega arith
most_constants (a ∷ cs) c = let h = most_constants cs c in omega (arith, h)

pub most_handlers : (hs : List Handler) (h : Handler) → most (map handler_depth (hs ++ h ∷ [])) ≡ max (most (map handler_depth hs)) (handler_depth h)
most_handlers [] h = omega arith
most_handlers (a ∷ hs) h = let i = most_handlers hs h in omega (arith, i)

pub depth_bare : (l : ℕ) (body : List Statement) → handler_depth (handler l None None body) ≡ most (map stmt_depth body)
depth_bare l body = fold-roll-Handler ℕ ℕ stmt_depth_step handler_depth_step (record { line = l; class = None; name = None; body = body }) ∙ omega arith

-- the class is a node, so that the name counts for nothing beside it
pub depth_handler : (l : ℕ) (class : Expression) (name : Option (List ℕ)) (body : List Statement) → handler_depth (handler l (Some class) name body) ≡ max (expr_depth class) (most (map stmt_depth body))
depth_handler l class None body = fold-roll-Handler ℕ ℕ stmt_depth_step handler_depth_step (record { line = l; class = Some class; name = None; body = body }) ∙ omega arith
depth_handler l class (Some n) body = let some = depth_some class in fold-roll-Handler ℕ ℕ stmt_depth_step handler_depth_step (record { line = l; class = Some class; name = Some n; body = body }) ∙ omega arith
