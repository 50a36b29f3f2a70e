use Rattle.std.proofs.Common.{◌≡◌, ◌+◌, ◌-◌, ◌*◌, []}
use Rattle.mon_parser.specs.StatementReadings.{handlers_from, statements_from}
use Rattle.mon_parser.proofs.statement.+statement.Given as goal

abbrev pub decreases-statement : goal.decreases-statement
decreases-statement l = 8 * l.nodes + 0

abbrev pub decreases-statements : goal.decreases-statements
decreases-statements l = 8 * l.nodes + 1

abbrev pub decreases-block_of : goal.decreases-block_of
decreases-block_of l = 8 * l.nodes + 2

abbrev pub decreases-body : goal.decreases-body
decreases-body l = 8 * l.nodes + 3

abbrev pub decreases-bare_handler : goal.decreases-bare_handler
decreases-bare_handler l = 8 * l.nodes + 3

abbrev pub decreases-handler : goal.decreases-handler
decreases-handler l = 8 * l.nodes + 4

abbrev pub decreases-last : goal.decreases-last
decreases-last l = 8 * l.nodes + 4

abbrev pub decreases-elif : goal.decreases-elif
decreases-elif l = 8 * l.nodes + 4

abbrev pub decreases-other : goal.decreases-other
decreases-other l = 8 * l.nodes + 5

abbrev pub decreases-handlers : goal.decreases-handlers
decreases-handlers l = 8 * l.nodes + 5

abbrev pub decreases-branch : goal.decreases-branch
decreases-branch l = 8 * l.nodes + 6

abbrev pub decreases-while_loop : goal.decreases-while_loop
decreases-while_loop l = 8 * l.nodes + 6

abbrev pub decreases-for_loop : goal.decreases-for_loop
decreases-for_loop l = 8 * l.nodes + 6

abbrev pub decreases-try_block : goal.decreases-try_block
decreases-try_block l = 8 * l.nodes + 6

abbrev pub invariant-handlers-loop-turn : goal.invariant-handlers-loop-turn
invariant-handlers-loop-turn l = handlers_from l.brackets l.nodes [] l.turns l.fn.cursor ≡ handlers_from l.brackets l.nodes l.handlers (l.turns - l._turn) l.cursor

abbrev pub invariant-statements-loop-turn : goal.invariant-statements-loop-turn
invariant-statements-loop-turn l = statements_from l.brackets l.nodes [] l.turns l.fn.cursor ≡ statements_from l.brackets l.nodes l.block (l.turns - l._turn) l.cursor
