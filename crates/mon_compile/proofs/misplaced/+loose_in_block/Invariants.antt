use Rattle.std.proofs.Common.{◌≡◌, ◌+◌, ◌*◌, map, drop}
use Rattle.mon_compile.specs.Clauses.{clause_loose}
use Rattle.mon_compile.specs.Earlier.{earlier}
use Rattle.mon_compile.specs.Faults as spec
use Rattle.mon_compile.specs.Nodes.{statement_nodes, handler_nodes, block_nodes, clauses_nodes}
use Rattle.mon_compile.proofs.misplaced.+loose_in_block.Given as goal

abbrev pub invariant-loose_in_block-loop-statement : goal.invariant-loose_in_block-loop-statement
invariant-loose_in_block-loop-statement l = earlier l.line (spec.least (spec.all_loose (map spec.loose_of (drop l.statement-index l.body)) l.inside)) ≡ spec.least (spec.all_loose (map spec.loose_of l.body) l.inside)

abbrev pub invariant-loose_in_handlers-loop-handler : goal.invariant-loose_in_handlers-loop-handler
invariant-loose_in_handlers-loop-handler l = earlier l.line (spec.least (spec.all_loose (map clause_loose (drop l.handler-index l.handlers)) l.inside)) ≡ spec.least (spec.all_loose (map clause_loose l.handlers) l.inside)

abbrev pub decreases-loose_in_block : goal.decreases-loose_in_block
decreases-loose_in_block l = 2 * block_nodes l.body.now + 1

abbrev pub decreases-loose_in_statement : goal.decreases-loose_in_statement
decreases-loose_in_statement l = 2 * statement_nodes l.statement.now

abbrev pub decreases-loose_in_handlers : goal.decreases-loose_in_handlers
decreases-loose_in_handlers l = 2 * clauses_nodes l.handlers.now + 1

abbrev pub decreases-loose_in_handler : goal.decreases-loose_in_handler
decreases-loose_in_handler l = 2 * handler_nodes l.handler.now
