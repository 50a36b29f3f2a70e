use Rattle.std.proofs.Common.{◌≡◌, ◌+◌, ◌*◌, map, drop}
use Rattle.mon_compile.specs.Bindings.{few_names}
use Rattle.mon_compile.specs.Clauses.{clause_names}
use Rattle.mon_compile.specs.Functions as spec
use Rattle.mon_compile.specs.Nodes.{statement_nodes, handler_nodes, block_nodes, clauses_nodes}
use Rattle.mon_compile.proofs.bindings.+bind_block.Given as goal

abbrev pub invariant-bind_block-loop-statement : goal.invariant-bind_block-loop-statement
invariant-bind_block-loop-statement l = few_names l.most l.names (spec.joined (map spec.names_of (drop l.statement-index l.body))) ≡ few_names l.most l.fn.names (spec.joined (map spec.names_of l.body))

abbrev pub invariant-bind_handlers-loop-handler : goal.invariant-bind_handlers-loop-handler
invariant-bind_handlers-loop-handler l = few_names l.most l.names (spec.joined (map clause_names (drop l.handler-index l.handlers))) ≡ few_names l.most l.fn.names (spec.joined (map clause_names l.handlers))

abbrev pub decreases-bind_block : goal.decreases-bind_block
decreases-bind_block l = 2 * block_nodes l.body.now + 1

abbrev pub decreases-bind_statement : goal.decreases-bind_statement
decreases-bind_statement l = 2 * statement_nodes l.statement.now

abbrev pub decreases-bind_handlers : goal.decreases-bind_handlers
decreases-bind_handlers l = 2 * clauses_nodes l.handlers.now + 1

abbrev pub decreases-bind_handler : goal.decreases-bind_handler
decreases-bind_handler l = 2 * handler_nodes l.handler.now
