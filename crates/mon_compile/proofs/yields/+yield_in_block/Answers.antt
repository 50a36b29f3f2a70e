use Rattle.std.proofs.Common.{◌∙◌, ℕ, List, map, refl, ap, arith}
use Rattle.std.specs.Prelude.{Option}
use Rattle.mon_trees.specs.declared.tree.Handler.{Handler}
use Rattle.mon_trees.specs.declared.tree.Statement.{Statement}
use Rattle.mon_trees.specs.declared.tree.Statement.TheFolds.{fold_out-Handler}
use Rattle.mon_compile.specs.Clauses.{clause_yields}
use Rattle.mon_compile.specs.Faults as spec
use Rattle.mon_compile.specs.Functions.{joined, yields_in, yields_within, statement_yields_step, handler_yields_step, yields_of}
use Rattle.mon_compile.specs.Nodes.{statement_nodes, handler_nodes}
use Rattle.mon_compile.proofs.Least.{earlier_next, least_both, least_three}
use Rattle.mon_compile.proofs.Parts.{part_within}
use Rattle.mon_compile.proofs.Unrolled.{at_if, at_while, at_for, at_try}
use Rattle.mon_compile.proofs.yields.+yield_in_block.Goals as goal

abbrev of_block : List Statement → List ℕ
of_block body = joined (map yields_of body)

abbrev of_handlers : List Handler → List ℕ
of_handlers handlers = joined (map clause_yields handlers)

pub yield_in_block-yield_in_statement-requires : goal.yield_in_block-yield_in_statement-requires
yield_in_block-yield_in_statement-requires t c = (omega (arith, part_within statement_nodes _ _ _ c.loop-statement-test.true c.statement-item.is, c.decreases), tt)

pub yield_in_handlers-yield_in_handler-requires : goal.yield_in_handlers-yield_in_handler-requires
yield_in_handlers-yield_in_handler-requires t c = (omega (arith, part_within handler_nodes _ _ _ c.loop-handler-test.true c.handler-item.is, c.decreases), tt)

pub yield_in_block-loop-statement-preserved : goal.yield_in_block-loop-statement-preserved
yield_in_block-loop-statement-preserved t c = earlier_next yields_of of_block (λ x rest. refl) c.args.body.now _ _ _ _ _ _ c.loop-statement-test.true c.statement-item.is c.yield_in_statement.ensures c.earlier-line.ensures c.loop-statement.invariant

pub yield_in_handlers-loop-handler-preserved : goal.yield_in_handlers-loop-handler-preserved
yield_in_handlers-loop-handler-preserved t c = earlier_next clause_yields of_handlers (λ x rest. refl) c.args.handlers.now _ _ _ _ _ _ c.loop-handler-test.true c.handler-item.is c.yield_in_handler.ensures c.earlier-line.ensures c.loop-handler.invariant

abbrev at_least : List Statement → Option ℕ
at_least body = spec.least (of_block body)

pub yield_in_handler-returns : goal.yield_in_handler-returns
yield_in_handler-returns t c =
    let h = c.args.handler.now in
    least_both (yields_within h.class) (of_block h.body) (clause_yields h) _ _ _ (fold_out-Handler (List ℕ) (List ℕ) statement_yields_step handler_yields_step h)
    c.yield_within-line.ensures (c.yield_in_block.ensures ∙ ap at_least c.as_slice.ensures) c.earlier.ensures

pub yield_in_statement-returns-in-If : goal.yield_in_statement-returns-in-If
yield_in_statement-returns-in-If t c =
    let s = c.args.statement.now in
    least_three (yields_in c.in-If.test) (of_block c.in-If.body) (of_block c.in-If.other) (yields_of s) _ _ _ _ _
    (ap yields_of c.in-If.is ∙ at_if (List ℕ) (List ℕ) statement_yields_step handler_yields_step _ c.in-If.test c.in-If.body c.in-If.other)
    c.yield_in_expression-line.ensures (c.yield_in_block.ensures ∙ ap at_least c.as_slice.ensures) (c.yield_in_block-in-If.ensures ∙ ap at_least c.as_slice-in-If.ensures) c.earlier-line.ensures c.earlier.ensures

pub yield_in_statement-returns-in-While : goal.yield_in_statement-returns-in-While
yield_in_statement-returns-in-While t c =
    let s = c.args.statement.now in
    least_both (yields_in c.in-While.test) (of_block c.in-While.body) (yields_of s) _ _ _
    (ap yields_of c.in-While.is ∙ at_while (List ℕ) (List ℕ) statement_yields_step handler_yields_step _ c.in-While.test c.in-While.body)
    c.yield_in_expression-line-in-While.ensures (c.yield_in_block-in-While.ensures ∙ ap at_least c.as_slice-in-While.ensures) c.earlier-in-While.ensures

pub yield_in_statement-returns-in-For : goal.yield_in_statement-returns-in-For
yield_in_statement-returns-in-For t c =
    let s = c.args.statement.now in
    least_both (yields_in c.in-For.whole) (of_block c.in-For.body) (yields_of s) _ _ _
    (ap yields_of c.in-For.is ∙ at_for (List ℕ) (List ℕ) statement_yields_step handler_yields_step _ _ c.in-For.whole c.in-For.body)
    c.yield_in_expression-line-in-For.ensures (c.yield_in_block-in-For.ensures ∙ ap at_least c.as_slice-in-For.ensures) c.earlier-in-For.ensures

pub yield_in_statement-returns-in-Try : goal.yield_in_statement-returns-in-Try
yield_in_statement-returns-in-Try t c =
    let s = c.args.statement.now in
    least_three (of_block c.in-Try.body) (of_handlers c.in-Try.handlers) (of_block c.in-Try.last) (yields_of s) _ _ _ _ _
    (ap yields_of c.in-Try.is ∙ at_try (List ℕ) (List ℕ) statement_yields_step handler_yields_step _ c.in-Try.body c.in-Try.handlers c.in-Try.last)
    (c.yield_in_block-line.ensures ∙ ap at_least c.as_slice-in-Try.ensures) (c.yield_in_handlers.ensures ∙ ap (λ l. spec.least (of_handlers l)) c.as_slice-in-Try-2.ensures)
    (c.yield_in_block-in-Try.ensures ∙ ap at_least c.as_slice-in-Try-3.ensures) c.earlier-line-in-Try.ensures c.earlier-in-Try.ensures
