-- The depth of each node.
use Rattle.std.proofs.Common.{◌≡◌, ℕ, ◌+◌, max, List, [], ◌∷◌, ◌++◌, map, sym, ap, ◌∙◌, arith}
use Rattle.std.specs.Prelude.{Some, None}
use Rattle.mon_trees.specs.declared.tree.BinaryOperator.{BinaryOperator}
use Rattle.mon_trees.specs.declared.tree.Comparison.{Comparison}
use Rattle.mon_trees.specs.declared.tree.Single.{Single}
use Rattle.mon_trees.specs.declared.tree.Method.{Method}
use Rattle.mon_trees.specs.declared.tree.Expression.{Expression}
use Rattle.mon_trees.specs.declared.tree.Expression.TheOpen.{Expression-F}
use Rattle.mon_trees.specs.declared.tree.Expression.TheFolds.{fold-roll-Expression}
use Rattle.mon_trees.specs.declared.tree.Expression.TheViews as node
use Rattle.mon_parser.specs.Depth.{expr_depth, expr_depth_step, most}

pub depth_binary : (op : BinaryOperator) (a b : Expression) → expr_depth (node.Binary op a b) ≡ 1 + max (expr_depth a) (expr_depth b)
depth_binary op a b = ap expr_depth (sym (node.rolls-Binary op a b)) ∙ fold-roll-Expression ℕ expr_depth_step (Expression-F.Binary op a b)

pub depth_or : (a b : Expression) → expr_depth (node.Or a b) ≡ 1 + max (expr_depth a) (expr_depth b)
depth_or a b = ap expr_depth (sym (node.rolls-Or a b)) ∙ fold-roll-Expression ℕ expr_depth_step (Expression-F.Or a b)

pub depth_and : (a b : Expression) → expr_depth (node.And a b) ≡ 1 + max (expr_depth a) (expr_depth b)
depth_and a b = ap expr_depth (sym (node.rolls-And a b)) ∙ fold-roll-Expression ℕ expr_depth_step (Expression-F.And a b)

pub depth_compare : (op : Comparison) (a b : Expression) → expr_depth (node.Compare op a b) ≡ 1 + max (expr_depth a) (expr_depth b)
depth_compare op a b = ap expr_depth (sym (node.rolls-Compare op a b)) ∙ fold-roll-Expression ℕ expr_depth_step (Expression-F.Compare op a b)

pub depth_subscript : (a b : Expression) → expr_depth (node.Subscript a b) ≡ 1 + max (expr_depth a) (expr_depth b)
depth_subscript a b = ap expr_depth (sym (node.rolls-Subscript a b)) ∙ fold-roll-Expression ℕ expr_depth_step (Expression-F.Subscript a b)

pub depth_negative : (a : Expression) → expr_depth (node.Negative a) ≡ 1 + expr_depth a
depth_negative a = ap expr_depth (sym (node.rolls-Negative a)) ∙ fold-roll-Expression ℕ expr_depth_step (Expression-F.Negative a)

pub depth_not : (a : Expression) → expr_depth (node.Not a) ≡ 1 + expr_depth a
depth_not a = ap expr_depth (sym (node.rolls-Not a)) ∙ fold-roll-Expression ℕ expr_depth_step (Expression-F.Not a)

pub depth_is : (a : Expression) (s : Single) → expr_depth (node.Is a s) ≡ 1 + max (expr_depth a) 1
depth_is a s = ap expr_depth (sym (node.rolls-Is a s)) ∙ fold-roll-Expression ℕ expr_depth_step (Expression-F.Is a s)

pub depth_is_not : (a : Expression) (s : Single) → expr_depth (node.IsNot a s) ≡ 1 + max (expr_depth a) 1
depth_is_not a s = ap expr_depth (sym (node.rolls-IsNot a s)) ∙ fold-roll-Expression ℕ expr_depth_step (Expression-F.IsNot a s)

pub depth_if : (a c b : Expression) → expr_depth (node.If a c b) ≡ 1 + max (expr_depth a) (max (expr_depth c) (expr_depth b))
depth_if a c b = ap expr_depth (sym (node.rolls-If a c b)) ∙ fold-roll-Expression ℕ expr_depth_step (Expression-F.If a c b)

pub depth_call : (a : Expression) (es : List Expression) → expr_depth (node.Call a es) ≡ 1 + max (expr_depth a) (most (map expr_depth es))
depth_call a es = ap expr_depth (sym (node.rolls-Call a es)) ∙ fold-roll-Expression ℕ expr_depth_step (Expression-F.Call a es)

pub depth_method : (a : Expression) (m : Method) (es : List Expression) → expr_depth (node.Method a m es) ≡ 1 + max (expr_depth a) (most (map expr_depth es))
depth_method a m es = ap expr_depth (sym (node.rolls-Method a m es)) ∙ fold-roll-Expression ℕ expr_depth_step (Expression-F.Method a m es)

pub depth_tuple : (es : List Expression) → expr_depth (node.Tuple es) ≡ 1 + most (map expr_depth es)
depth_tuple es = ap expr_depth (sym (node.rolls-Tuple es)) ∙ fold-roll-Expression ℕ expr_depth_step (Expression-F.Tuple es)

pub depth_yield_some : (l : ℕ) (a : Expression) → expr_depth (node.Yield l (Some a)) ≡ 1 + expr_depth a
depth_yield_some l a = ap expr_depth (sym (node.rolls-Yield l (Some a))) ∙ fold-roll-Expression ℕ expr_depth_step (Expression-F.Yield l (Some a))

pub most_more : (es : List Expression) (e : Expression) → most (map expr_depth (es ++ e ∷ [])) ≡ max (most (map expr_depth es)) (expr_depth e)
most_more [] e = omega arith
most_more (a ∷ es) e = let h = most_more es e in omega (arith, h)

pub depth_yield_none : (l : ℕ) → expr_depth (node.Yield l None) ≡ 1
depth_yield_none l = ap expr_depth (sym (node.rolls-Yield l None)) ∙ fold-roll-Expression ℕ expr_depth_step (Expression-F.Yield l None)
