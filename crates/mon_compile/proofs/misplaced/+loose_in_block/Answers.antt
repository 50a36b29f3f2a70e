use Rattle.std.proofs.Common.{◌∙◌, ℕ, List, Bool, map, refl, ap, arith}
use Rattle.mon_trees.specs.declared.tree.Handler.{Handler}
use Rattle.mon_trees.specs.declared.tree.Statement.{Statement}
use Rattle.mon_compile.specs.Clauses.{clause_loose}
use Rattle.mon_compile.specs.Faults as spec
use Rattle.mon_compile.specs.Nodes.{statement_nodes, handler_nodes}
use Rattle.mon_compile.proofs.Least.{earlier_next, least_both, least_three}
use Rattle.mon_compile.proofs.Parts.{part_within}
use Rattle.mon_compile.proofs.Unrolled.{at_if, at_try}
use Rattle.mon_compile.proofs.misplaced.+loose_in_block.Goals as goal

abbrev of_block : Bool → List Statement → List ℕ
of_block inside body = spec.all_loose (map spec.loose_of body) inside

abbrev of_handlers : Bool → List Handler → List ℕ
of_handlers inside handlers = spec.all_loose (map clause_loose handlers) inside

pub loose_in_block-loose_in_statement-requires : goal.loose_in_block-loose_in_statement-requires
loose_in_block-loose_in_statement-requires t c = (omega (arith, part_within statement_nodes _ _ _ c.loop-statement-test.true c.statement-item.is, c.decreases), tt)

pub loose_in_handlers-loose_in_handler-requires : goal.loose_in_handlers-loose_in_handler-requires
loose_in_handlers-loose_in_handler-requires t c = (omega (arith, part_within handler_nodes _ _ _ c.loop-handler-test.true c.handler-item.is, c.decreases), tt)

pub loose_in_block-loop-statement-preserved : goal.loose_in_block-loop-statement-preserved
loose_in_block-loop-statement-preserved t c =
    earlier_next (λ s. spec.loose_of s c.args.inside) (of_block c.args.inside) (λ x rest. refl) c.args.body.now _ _ _ _ _ _ c.loop-statement-test.true c.statement-item.is c.loose_in_statement.ensures c.earlier-line.ensures c.loop-statement.invariant

pub loose_in_handlers-loop-handler-preserved : goal.loose_in_handlers-loop-handler-preserved
loose_in_handlers-loop-handler-preserved t c =
    earlier_next (λ h. clause_loose h c.args.inside) (of_handlers c.args.inside) (λ x rest. refl) c.args.handlers.now _ _ _ _ _ _ c.loop-handler-test.true c.handler-item.is c.loose_in_handler.ensures c.earlier-line.ensures c.loop-handler.invariant

pub loose_in_statement-returns-in-If : goal.loose_in_statement-returns-in-If
loose_in_statement-returns-in-If t c =
    let inside = c.args.inside in
    least_both (of_block inside c.in-If.body) (of_block inside c.in-If.other) (spec.loose_of c.args.statement.now inside) _ _ _
    (ap (λ (s : Statement). spec.loose_of s inside) c.in-If.is ∙ ap (λ (f : Bool → List ℕ). f inside) (at_if (Bool → List ℕ) (Bool → List ℕ) spec.loose_step spec.loose_handler_step _ _ c.in-If.body c.in-If.other))
    (c.loose_in_block-line.ensures ∙ ap (λ b. spec.least (of_block inside b)) c.as_slice.ensures)
    (c.loose_in_block.ensures ∙ ap (λ b. spec.least (of_block inside b)) c.as_slice-in-If.ensures)
    c.earlier.ensures

pub loose_in_statement-returns-in-Try : goal.loose_in_statement-returns-in-Try
loose_in_statement-returns-in-Try t c =
    let inside = c.args.inside in
    least_three (of_block inside c.in-Try.body) (of_handlers inside c.in-Try.handlers) (of_block inside c.in-Try.last) (spec.loose_of c.args.statement.now inside) _ _ _ _ _
    (ap (λ (s : Statement). spec.loose_of s inside) c.in-Try.is ∙ ap (λ (f : Bool → List ℕ). f inside) (at_try (Bool → List ℕ) (Bool → List ℕ) spec.loose_step spec.loose_handler_step _ c.in-Try.body c.in-Try.handlers c.in-Try.last))
    (c.loose_in_block-line-in-Try.ensures ∙ ap (λ b. spec.least (of_block inside b)) c.as_slice-in-Try.ensures)
    (c.loose_in_handlers.ensures ∙ ap (λ b. spec.least (of_handlers inside b)) c.as_slice-in-Try-2.ensures)
    (c.loose_in_block-in-Try.ensures ∙ ap (λ b. spec.least (of_block inside b)) c.as_slice-in-Try-3.ensures)
    c.earlier-line.ensures c.earlier-in-Try.ensures
