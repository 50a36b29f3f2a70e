use Rattle.std.proofs.Common.{arith, ap}
use Rattle.mon_compile.specs.Nodes.{statement_nodes, handler_nodes}
use Rattle.mon_compile.specs.Clauses.{clause_names}
use Rattle.mon_compile.specs.Functions as spec
use Rattle.mon_compile.proofs.Parts.{part_within}
use Rattle.mon_compile.proofs.Bound.{of_block, of_clauses, bound_next, if_bound, for_bound, try_bound}
use Rattle.mon_compile.proofs.bindings.+bind_block.Goals as goal

pub bind_block-bind_statement-requires : goal.bind_block-bind_statement-requires
bind_block-bind_statement-requires t c = (omega (arith, part_within statement_nodes _ _ _ c.loop-statement-test.true c.statement-item.is, c.decreases), tt)

pub bind_handlers-bind_handler-requires : goal.bind_handlers-bind_handler-requires
bind_handlers-bind_handler-requires t c = (omega (arith, part_within handler_nodes _ _ _ c.loop-handler-test.true c.handler-item.is, c.decreases), tt)

pub bind_block-loop-statement-preserved : goal.bind_block-loop-statement-preserved
bind_block-loop-statement-preserved t c = bound_next _ spec.names_of c.args.body.now _ _ _ _ _ c.loop-statement-test.true c.statement-item.is c.in_ok-bind_statement.ensures c.loop-statement.invariant

pub bind_handlers-loop-handler-preserved : goal.bind_handlers-loop-handler-preserved
bind_handlers-loop-handler-preserved t c = bound_next _ clause_names c.args.handlers.now _ _ _ _ _ c.loop-handler-test.true c.handler-item.is c.in_ok-bind_handler.ensures c.loop-handler.invariant

pub bind_statement-returns-in_ok-bind_block-in-If : goal.bind_statement-returns-in_ok-bind_block-in-If
bind_statement-returns-in_ok-bind_block-in-If t c =
    if_bound c.args.most _ _ _ _ _ c.args.names.now c.bind_block.new.names c.bind_block-in-If.new.names _ _ c.bind_block-in-If.result c.in-If.is (ap of_block c.as_slice.ensures) (ap of_block c.as_slice-in-If.ensures) c.in_ok-bind_block-in-If.ensures c.bind_block-in-If.ensures

pub bind_statement-returns-in_ok-bind_targets-in-For : goal.bind_statement-returns-in_ok-bind_targets-in-For
bind_statement-returns-in_ok-bind_targets-in-For t c =
    for_bound c.args.most _ _ _ _ _ c.args.names.now c.bind_targets.new.names c.bind_block-in-For.new.names _ c.bind_block-in-For.result c.in-For.is (ap of_block c.as_slice-in-For.ensures) c.in_ok-bind_targets-in-For.ensures c.bind_block-in-For.ensures

pub bind_statement-returns-in_ok-bind_handlers-in-Try : goal.bind_statement-returns-in_ok-bind_handlers-in-Try
bind_statement-returns-in_ok-bind_handlers-in-Try t c =
    try_bound c.args.most _ _ _ _ _ c.args.names.now c.bind_block-in-Try.new.names c.bind_handlers.new.names c.bind_block-in-Try-2.new.names _ _ _ c.bind_block-in-Try-2.result c.in-Try.is
    (ap of_block c.as_slice-in-Try.ensures) (ap of_clauses c.as_slice-in-Try-2.ensures) (ap of_block c.as_slice-in-Try-3.ensures) c.in_ok-bind_block-in-Try.ensures c.in_ok-bind_handlers-in-Try.ensures c.bind_block-in-Try-2.ensures
