use Rattle.std.proofs.Common.{◌≡◌, ℕ, ◌+◌, ◌*◌, ◌<◌, ◌≤◌, length, map, drop}
use Rattle.mon_compile.specs.Emission.{emitted}
use Rattle.mon_compile.specs.declared.surroundings.Surroundings.{Surroundings}
use Rattle.mon_compile.specs.Nodes.{statement_nodes, handler_nodes, block_nodes, clauses_nodes, last_nodes}
use Rattle.mon_compile.specs.Open.{open_context, depth_of}
use Rattle.mon_compile.specs.Statements as statements
use Rattle.mon_compile.proofs.emitter.Emitter.+statement.Given as goal

-- of some nodes inside a context, as the n-th of their functions, the innermost first
abbrev work : ℕ → Surroundings → ℕ → ℕ
work nodes context n = 10 * (nodes + last_nodes context) + (depth_of context + n)

abbrev pub invariant-block-loop-statement : goal.invariant-block-loop-statement
invariant-block-loop-statement l =
    record {
      made : emitted l.self (statements.block_code l.self.locals (drop l.statement-index l.body) (open_context l.self.locals l.context)) ≡ emitted l.fn.self (statements.block_code l.fn.self.locals l.body (open_context l.fn.self.locals l.context));
      deep : depth_of l.context ≤ 2 * length l.self.code;
    }

abbrev pub invariant-each_clause-loop-clause : goal.invariant-each_clause-loop-clause
invariant-each_clause-loop-clause l =
    record {
      made : emitted l.self (statements.clauses_code (map (statements.handler_code l.self.locals) (drop l.clause-index l.clauses)) l.end (open_context l.self.locals l.context))
          ≡ emitted l.fn.self (statements.clauses_code (map (statements.handler_code l.fn.self.locals) l.clauses) l.end (open_context l.fn.self.locals l.context));
      deep : depth_of l.context < 2 * length l.self.code;
    }

abbrev pub decreases-statement : goal.decreases-statement
decreases-statement l = work (statement_nodes l.statement.now) l.context.now 0

abbrev pub decreases-block : goal.decreases-block
decreases-block l = work (block_nodes l.body.now) l.context.now 1

abbrev pub decreases-while_loop : goal.decreases-while_loop
decreases-while_loop l = work (block_nodes l.body.now) l.context.now 4

abbrev pub decreases-while_body : goal.decreases-while_body
decreases-while_body l = work (block_nodes l.body.now) l.context.now 3

abbrev pub decreases-for_loop : goal.decreases-for_loop
decreases-for_loop l = work (block_nodes l.body.now) l.context.now 4

abbrev pub decreases-for_body : goal.decreases-for_body
decreases-for_body l = work (block_nodes l.body.now) l.context.now 3

abbrev pub decreases-branch : goal.decreases-branch
decreases-branch l = work (block_nodes l.body.now + block_nodes l.other.now) l.context.now 3

abbrev pub decreases-if_alone : goal.decreases-if_alone
decreases-if_alone l = work (block_nodes l.body.now) l.context.now 2

abbrev pub decreases-if_else : goal.decreases-if_else
decreases-if_else l = work (block_nodes l.body.now + block_nodes l.other.now) l.context.now 2

abbrev pub decreases-try_statement : goal.decreases-try_statement
decreases-try_statement l = work (block_nodes l.body.now + (clauses_nodes l.clauses.now + block_nodes l.last.now)) l.context.now 9

abbrev pub decreases-finally : goal.decreases-finally
decreases-finally l = work (block_nodes l.body.now + (clauses_nodes l.clauses.now + block_nodes l.last.now)) l.context.now 8

abbrev pub decreases-covered : goal.decreases-covered
decreases-covered l = work (block_nodes l.body.now + (clauses_nodes l.clauses.now + block_nodes l.last.now)) l.context.now 7

abbrev pub decreases-guarded : goal.decreases-guarded
decreases-guarded l = work (block_nodes l.body.now + clauses_nodes l.clauses.now) l.context.now 5

abbrev pub decreases-handlers : goal.decreases-handlers
decreases-handlers l = work (block_nodes l.body.now + clauses_nodes l.clauses.now) l.context.now 4

abbrev pub decreases-try_body : goal.decreases-try_body
decreases-try_body l = work (block_nodes l.body.now) l.context.now 3

abbrev pub decreases-clauses : goal.decreases-clauses
decreases-clauses l = work (clauses_nodes l.clauses.now) l.context.now 2

abbrev pub decreases-each_clause : goal.decreases-each_clause
decreases-each_clause l = work (clauses_nodes l.clauses.now) l.context.now 1

abbrev pub decreases-clause : goal.decreases-clause
decreases-clause l = work (handler_nodes l.clause.now) l.context.now 0

abbrev pub decreases-except_bare : goal.decreases-except_bare
decreases-except_bare l = work (block_nodes l.body.now) l.context.now 5

abbrev pub decreases-except : goal.decreases-except
decreases-except l = work (block_nodes l.body.now) l.context.now 5

abbrev pub decreases-except_body : goal.decreases-except_body
decreases-except_body l = work (block_nodes l.body.now) l.context.now 3

abbrev pub decreases-except_as : goal.decreases-except_as
decreases-except_as l = work (block_nodes l.body.now) l.context.now 5

abbrev pub decreases-except_as_body : goal.decreases-except_as_body
decreases-except_as_body l = work (block_nodes l.body.now) l.context.now 4

abbrev pub decreases-named_body : goal.decreases-named_body
decreases-named_body l = work (block_nodes l.body.now) l.context.now 3

abbrev pub decreases-simple : goal.decreases-simple
decreases-simple l = work 0 l.context.now 4

abbrev pub decreases-leave_function : goal.decreases-leave_function
decreases-leave_function l = work 0 l.context.now 3

abbrev pub decreases-leave_all : goal.decreases-leave_all
decreases-leave_all l = work 0 l.context.now 2

abbrev pub decreases-break_loop : goal.decreases-break_loop
decreases-break_loop l = work 0 l.context.now 3

abbrev pub decreases-leave_loop : goal.decreases-leave_loop
decreases-leave_loop l = work 0 l.context.now 2

abbrev pub decreases-continue_loop : goal.decreases-continue_loop
decreases-continue_loop l = work 0 l.context.now 3

abbrev pub decreases-next_turn : goal.decreases-next_turn
decreases-next_turn l = work 0 l.context.now 2
