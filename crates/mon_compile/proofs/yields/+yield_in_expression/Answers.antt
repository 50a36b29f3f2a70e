use Rattle.std.proofs.Common.{◌∙◌, [], ◌∷◌, ℕ, List, map, refl, ap, sym, arith}
use Rattle.std.specs.Prelude.{Option, Some}
use Rattle.mon_trees.specs.declared.tree.Expression.{Expression}
use Rattle.mon_trees.specs.declared.tree.Expression.TheOpen.{Expression-F}
use Rattle.mon_trees.specs.declared.tree.Expression.TheFolds.{fold-roll-Expression}
use Rattle.mon_trees.specs.declared.tree.Expression.TheViews as views
use Rattle.mon_compile.specs.Faults.{least}
use Rattle.mon_compile.specs.Functions.{joined, yields_step, yields_in}
use Rattle.mon_compile.proofs.Least.{earlier_next, least_both, least_three}
use Rattle.mon_compile.proofs.Nodes.{nodes_within}
use Rattle.mon_compile.proofs.yields.+yield_in_expression.Goals as goal

abbrev at_least : Expression → Option ℕ
at_least e = least (yields_in e)

pub yield_in_all-yield_in_expression-requires : goal.yield_in_all-yield_in_expression-requires
yield_in_all-yield_in_expression-requires t c = (omega (arith, nodes_within _ _ _ c.loop-expression-test.true c.expression-item.is, c.decreases), tt)

pub yield_in_all-loop-expression-preserved : goal.yield_in_all-loop-expression-preserved
yield_in_all-loop-expression-preserved t c =
    earlier_next yields_in (λ (l : List Expression). joined (map yields_in l)) (λ x rest. refl) c.args.expressions.now _ _ _ _ _ _ c.loop-expression-test.true c.expression-item.is c.yield_in_expression.ensures c.earlier-line.ensures c.loop-expression.invariant

pub yield_in_expression-returns-in-If : goal.yield_in_expression-returns-in-If
yield_in_expression-returns-in-If t c =
    let e = c.args.expression.now in
    let k = c.in-If in
    least_three (yields_in k.a) (yields_in k.test) (yields_in k.b) (yields_in e) _ _ _ _ _
    (ap yields_in c.in-If.is ∙ ap yields_in (sym (views.rolls-If k.a k.test k.b)) ∙ fold-roll-Expression (List ℕ) yields_step (Expression-F.If k.a k.test k.b))
    (c.yield_in_expression-line.ensures ∙ ap at_least c.get-in-If.ensures) (c.yield_in_expression-in-If.ensures ∙ ap at_least c.get-in-If-2.ensures) (c.yield_in_expression-in-If-2.ensures ∙ ap at_least c.get-in-If-3.ensures)
    c.earlier-line.ensures c.earlier-in-If.ensures

pub yield_in_expression-returns-in-Some : goal.yield_in_expression-returns-in-Some
yield_in_expression-returns-in-Some t c =
    let e = c.args.expression.now in
    let line = c.in-Yield.line in
    let value = c.in-Some.value in
    least_both (line ∷ []) (yields_in value) (yields_in e) _ _ _
    (ap yields_in (c.in-Yield.is ∙ ap (λ (o : Option Expression). views.Yield line o) c.in-Some.is) ∙ ap yields_in (sym (views.rolls-Yield line (Some value))) ∙ fold-roll-Expression (List ℕ) yields_step (Expression-F.Yield line (Some value)))
    refl (c.yield_in_expression.ensures ∙ ap at_least c.get.ensures) c.earlier.ensures
