use Rattle.std.proofs.Common.{◌∙◌, ℕ, List, map, refl, ap, arith}
use Rattle.std.specs.Prelude.{Option}
use Rattle.mon_trees.specs.declared.tree.Handler.{Handler}
use Rattle.mon_trees.specs.declared.tree.Statement.{Statement}
use Rattle.mon_trees.specs.declared.tree.Statement.TheFolds.{fold_out-Handler}
use Rattle.mon_compile.specs.Clauses.{clause_large}
use Rattle.mon_compile.specs.Faults as spec
use Rattle.mon_compile.specs.Functions.{joined}
use Rattle.mon_compile.specs.Nodes.{statement_nodes, handler_nodes}
use Rattle.mon_compile.proofs.Least.{earlier_next, least_both, least_three}
use Rattle.mon_compile.proofs.Parts.{part_within}
use Rattle.mon_compile.proofs.Unrolled.{at_if, at_while, at_for, at_try}
use Rattle.mon_compile.proofs.large.+large_in_block.Goals as goal

abbrev of_block : List Statement → List ℕ
of_block body = joined (map spec.large_lines_of body)

abbrev of_handlers : List Handler → List ℕ
of_handlers handlers = joined (map clause_large handlers)

pub large_in_block-large_in_statement-requires : goal.large_in_block-large_in_statement-requires
large_in_block-large_in_statement-requires t c = (omega (arith, part_within statement_nodes _ _ _ c.loop-statement-test.true c.statement-item.is, c.decreases), tt)

pub large_in_handlers-large_in_handler-requires : goal.large_in_handlers-large_in_handler-requires
large_in_handlers-large_in_handler-requires t c = (omega (arith, part_within handler_nodes _ _ _ c.loop-handler-test.true c.handler-item.is, c.decreases), tt)

pub large_in_block-loop-statement-preserved : goal.large_in_block-loop-statement-preserved
large_in_block-loop-statement-preserved t c = earlier_next spec.large_lines_of of_block (λ x rest. refl) c.args.body.now _ _ _ _ _ _ c.loop-statement-test.true c.statement-item.is c.large_in_statement.ensures c.earlier-line.ensures c.loop-statement.invariant

pub large_in_handlers-loop-handler-preserved : goal.large_in_handlers-loop-handler-preserved
large_in_handlers-loop-handler-preserved t c = earlier_next clause_large of_handlers (λ x rest. refl) c.args.handlers.now _ _ _ _ _ _ c.loop-handler-test.true c.handler-item.is c.large_in_handler.ensures c.earlier-line.ensures c.loop-handler.invariant

abbrev at_least : List Statement → Option ℕ
at_least body = spec.least (of_block body)

pub large_in_handler-returns : goal.large_in_handler-returns
large_in_handler-returns t c =
    let h = c.args.handler.now in
    least_both (spec.where_so (spec.has_large_within h.class) h.line) (of_block h.body) (clause_large h) _ _ _ (fold_out-Handler (List ℕ) (List ℕ) spec.large_lines_step spec.large_handler_step h)
    (c.line_if-line.ensures ∙ ap (λ b. spec.least (spec.where_so b h.line)) c.has_large_within.ensures) (c.large_in_block.ensures ∙ ap at_least c.as_slice.ensures) c.earlier.ensures

pub large_in_statement-returns-in-If : goal.large_in_statement-returns-in-If
large_in_statement-returns-in-If t c =
    let s = c.args.statement.now in
    least_three (spec.where_so (spec.has_large c.in-If.test) c.in-If.line) (of_block c.in-If.body) (of_block c.in-If.other) (spec.large_lines_of s) _ _ _ _ _
    (ap spec.large_lines_of c.in-If.is ∙ at_if (List ℕ) (List ℕ) spec.large_lines_step spec.large_handler_step _ c.in-If.test c.in-If.body c.in-If.other)
    (c.line_if-line.ensures ∙ ap (λ b. spec.least (spec.where_so b c.in-If.line)) c.has_large.ensures) (c.large_in_block.ensures ∙ ap at_least c.as_slice.ensures) (c.large_in_block-in-If.ensures ∙ ap at_least c.as_slice-in-If.ensures) c.earlier-line.ensures c.earlier.ensures

pub large_in_statement-returns-in-While : goal.large_in_statement-returns-in-While
large_in_statement-returns-in-While t c =
    let s = c.args.statement.now in
    least_both (spec.where_so (spec.has_large c.in-While.test) c.in-While.line) (of_block c.in-While.body) (spec.large_lines_of s) _ _ _
    (ap spec.large_lines_of c.in-While.is ∙ at_while (List ℕ) (List ℕ) spec.large_lines_step spec.large_handler_step _ c.in-While.test c.in-While.body)
    (c.line_if-line-in-While.ensures ∙ ap (λ b. spec.least (spec.where_so b c.in-While.line)) c.has_large-in-While.ensures) (c.large_in_block-in-While.ensures ∙ ap at_least c.as_slice-in-While.ensures) c.earlier-in-While.ensures

pub large_in_statement-returns-in-For : goal.large_in_statement-returns-in-For
large_in_statement-returns-in-For t c =
    let s = c.args.statement.now in
    least_both (spec.where_so (spec.has_large c.in-For.whole) c.in-For.line) (of_block c.in-For.body) (spec.large_lines_of s) _ _ _
    (ap spec.large_lines_of c.in-For.is ∙ at_for (List ℕ) (List ℕ) spec.large_lines_step spec.large_handler_step _ _ c.in-For.whole c.in-For.body)
    (c.line_if-line-in-For.ensures ∙ ap (λ b. spec.least (spec.where_so b c.in-For.line)) c.has_large-in-For.ensures) (c.large_in_block-in-For.ensures ∙ ap at_least c.as_slice-in-For.ensures) c.earlier-in-For.ensures

pub large_in_statement-returns-in-Try : goal.large_in_statement-returns-in-Try
large_in_statement-returns-in-Try t c =
    let s = c.args.statement.now in
    least_three (of_block c.in-Try.body) (of_handlers c.in-Try.handlers) (of_block c.in-Try.last) (spec.large_lines_of s) _ _ _ _ _
    (ap spec.large_lines_of c.in-Try.is ∙ at_try (List ℕ) (List ℕ) spec.large_lines_step spec.large_handler_step _ c.in-Try.body c.in-Try.handlers c.in-Try.last)
    (c.large_in_block-line.ensures ∙ ap at_least c.as_slice-in-Try.ensures) (c.large_in_handlers.ensures ∙ ap (λ l. spec.least (of_handlers l)) c.as_slice-in-Try-2.ensures)
    (c.large_in_block-in-Try.ensures ∙ ap at_least c.as_slice-in-Try-3.ensures) c.earlier-line-in-Try.ensures c.earlier-in-Try.ensures
