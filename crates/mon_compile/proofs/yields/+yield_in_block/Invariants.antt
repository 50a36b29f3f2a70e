use Rattle.std.proofs.Common.{◌≡◌, ◌+◌, ◌*◌, map, drop}
use Rattle.mon_compile.specs.Clauses.{clause_yields}
use Rattle.mon_compile.specs.Earlier.{earlier}
use Rattle.mon_compile.specs.Faults as spec
use Rattle.mon_compile.specs.Functions.{joined, yields_of}
use Rattle.mon_compile.specs.Nodes.{statement_nodes, handler_nodes, block_nodes, clauses_nodes}
use Rattle.mon_compile.proofs.yields.+yield_in_block.Given as goal

abbrev pub invariant-yield_in_block-loop-statement : goal.invariant-yield_in_block-loop-statement
invariant-yield_in_block-loop-statement l = earlier l.line (spec.least (joined (map yields_of (drop l.statement-index l.body)))) ≡ spec.least (joined (map yields_of l.body))

abbrev pub invariant-yield_in_handlers-loop-handler : goal.invariant-yield_in_handlers-loop-handler
invariant-yield_in_handlers-loop-handler l = earlier l.line (spec.least (joined (map clause_yields (drop l.handler-index l.handlers)))) ≡ spec.least (joined (map clause_yields l.handlers))

abbrev pub decreases-yield_in_block : goal.decreases-yield_in_block
decreases-yield_in_block l = 2 * block_nodes l.body.now + 1

abbrev pub decreases-yield_in_statement : goal.decreases-yield_in_statement
decreases-yield_in_statement l = 2 * statement_nodes l.statement.now

abbrev pub decreases-yield_in_handlers : goal.decreases-yield_in_handlers
decreases-yield_in_handlers l = 2 * clauses_nodes l.handlers.now + 1

abbrev pub decreases-yield_in_handler : goal.decreases-yield_in_handler
decreases-yield_in_handler l = 2 * handler_nodes l.handler.now
