use Rattle.std.proofs.Common.{◌-◌, ◌+◌, [], Some, sym, ap, ◌∙◌, arith}
use Rattle.mon_trees.specs.declared.tree.Statement.TheViews as compound
use Rattle.mon_parser.specs.Depth.{stmt_depth}
use Rattle.mon_parser.specs.Reader.{then_read, within}
use Rattle.mon_parser.specs.StatementReadings.{at_line, at_branch, at_while, at_for, at_try, at_elif, handlers_from, at_bare_handler, at_last, block_line, statements_from}
use Rattle.mon_parser.proofs.Giving.{refuses, runs_out, gives_made}
use Rattle.mon_parser.proofs.Calls.{found, missed, taken, passed, picked, unpicked, after, gives_by}
use Rattle.mon_parser.proofs.StatementSteps.{statement_none, statement_is, branch_is, while_is, for_is, try_is, other_is, elif_none, elif_is, handlers_start, handlers_go, handlers_named, handlers_end, handler_is, bare_handler_is, last_is, body_is, block_is, statements_start, statements_go, statements_end}
use Rattle.mon_parser.proofs.statement.+statement.Goals as goal

pub statement-returns-then-nodes-eq0 : goal.statement-returns-then-nodes-eq0
statement-returns-then-nodes-eq0 t c = λ e. statement_none _ _ _ c.if-nodes-eq0.true

pub statement-returns-then-take : goal.statement-returns-then-take
statement-returns-then-take t c = gives_by _ _ _ _ (statement_is c.args.brackets c.args.nodes c.args.cursor.now (omega arith) ∙ taken _ _ c.if-take.ensures.taken ∙ ap (λ l. at_branch c.args.brackets (c.args.nodes - 1) l c.take.new.self) (sym c.line-line.ensures)) c.branch-alloc.ensures

pub statement-returns-then-take-2 : goal.statement-returns-then-take-2
statement-returns-then-take-2 t c = gives_by _ _ _ _ (statement_is c.args.brackets c.args.nodes c.args.cursor.now (omega arith) ∙ passed _ _ c.if-take.ensures.other.0 ∙ taken _ _ (after _ _ c.if-take.ensures.other c.if-take-2.ensures.taken) ∙ ap (λ l. at_while c.args.brackets (c.args.nodes - 1) l c.take-2.new.self) (sym c.line-line.ensures)) c.while_loop.ensures

pub statement-returns-then-take-3 : goal.statement-returns-then-take-3
statement-returns-then-take-3 t c = gives_by _ _ _ _ (statement_is c.args.brackets c.args.nodes c.args.cursor.now (omega arith) ∙ passed _ _ c.if-take.ensures.other.0 ∙ passed _ _ (after _ _ c.if-take.ensures.other c.if-take-2.ensures.other.0) ∙ taken _ _ (after _ _ c.if-take.ensures.other (after _ _ c.if-take-2.ensures.other c.if-take-3.ensures.taken)) ∙ ap (λ l. at_for c.args.brackets (c.args.nodes - 1) l c.take-3.new.self) (sym c.line-line.ensures)) c.for_loop.ensures

pub statement-returns-then-take-4 : goal.statement-returns-then-take-4
statement-returns-then-take-4 t c = gives_by _ _ _ _ (statement_is c.args.brackets c.args.nodes c.args.cursor.now (omega arith) ∙ passed _ _ c.if-take.ensures.other.0 ∙ passed _ _ (after _ _ c.if-take.ensures.other c.if-take-2.ensures.other.0) ∙ passed _ _ (after _ _ c.if-take.ensures.other (after _ _ c.if-take-2.ensures.other c.if-take-3.ensures.other.0)) ∙ taken _ _ (after _ _ c.if-take.ensures.other (after _ _ c.if-take-2.ensures.other (after _ _ c.if-take-3.ensures.other c.if-take-4.ensures.taken))) ∙ ap (λ l. at_try c.args.brackets (c.args.nodes - 1) l c.take-4.new.self) (sym c.line-line.ensures)) c.try_block.ensures

pub statement-returns : goal.statement-returns
statement-returns t c = gives_by _ _ _ _ (statement_is c.args.brackets c.args.nodes c.args.cursor.now (omega arith) ∙ passed _ _ c.if-take.ensures.other.0 ∙ passed _ _ (after _ _ c.if-take.ensures.other c.if-take-2.ensures.other.0) ∙ passed _ _ (after _ _ c.if-take.ensures.other (after _ _ c.if-take-2.ensures.other c.if-take-3.ensures.other.0)) ∙ passed _ _ (after _ _ c.if-take.ensures.other (after _ _ c.if-take-2.ensures.other (after _ _ c.if-take-3.ensures.other c.if-take-4.ensures.other.0))) ∙ ap (λ w. at_line c.args.brackets c.args.nodes w) (sym (c.if-take-4.ensures.other.1 ∙ c.if-take-3.ensures.other.1 ∙ c.if-take-2.ensures.other.1 ∙ c.if-take.ensures.other.1))) c.simple_line.ensures

pub branch-returns-in_err-test : goal.branch-returns-in_err-test
branch-returns-in_err-test t c = refuses _ _ c.in_err-test.field-0.0 _ c.from_residual.ensures.1 (λ e. branch_is _ _ _ _ ∙ missed _ (c.in_err-test.ensures e))

pub branch-returns-in_err-body : goal.branch-returns-in_err-body
branch-returns-in_err-body t c = refuses _ _ c.in_err-body.field-0.0 _ c.from_residual-in_err-body.ensures.1 (λ e. branch_is _ _ _ _ ∙ found _ c.in_ok-test.ensures ∙ missed _ (c.in_err-body.ensures e))

pub branch-returns-in_err-other : goal.branch-returns-in_err-other
branch-returns-in_err-other t c = refuses _ _ c.in_err-other.field-0.0 _ c.from_residual-in_err-other.ensures.1 (λ e. branch_is _ _ _ _ ∙ found _ c.in_ok-test.ensures ∙ found _ c.in_ok-body.ensures ∙ missed _ (c.in_err-other.ensures e))

pub branch-returns : goal.branch-returns
branch-returns t c = gives_made stmt_depth (compound.If _ _ _ _) _ _ _ (branch_is _ _ _ _ ∙ found _ c.in_ok-test.ensures ∙ found _ c.in_ok-body.ensures ∙ found _ c.in_ok-other.ensures) c.branch-line.ensures

pub while_loop-returns-in_err-test : goal.while_loop-returns-in_err-test
while_loop-returns-in_err-test t c = refuses _ _ c.in_err-test.field-0.0 _ c.from_residual.ensures.1 (λ e. while_is _ _ _ _ ∙ missed _ (c.in_err-test.ensures e))

pub while_loop-returns-in_err-body : goal.while_loop-returns-in_err-body
while_loop-returns-in_err-body t c = refuses _ _ c.in_err-body.field-0.0 _ c.from_residual-in_err-body.ensures.1 (λ e. while_is _ _ _ _ ∙ found _ c.in_ok-test.ensures ∙ missed _ (c.in_err-body.ensures e))

pub while_loop-returns : goal.while_loop-returns
while_loop-returns t c = gives_made stmt_depth (compound.While _ _ _) _ _ _ (while_is _ _ _ _ ∙ found _ c.in_ok-test.ensures ∙ found _ c.in_ok-body.ensures) c.while_loop.ensures

pub for_loop-returns-in_err-to : goal.for_loop-returns-in_err-to
for_loop-returns-in_err-to t c = refuses _ _ c.in_err-to.field-0.0 _ c.from_residual.ensures.1 (λ e. for_is _ _ _ _ ∙ missed _ (c.in_err-to.ensures e))

pub for_loop-returns-in_err-expect : goal.for_loop-returns-in_err-expect
for_loop-returns-in_err-expect t c = refuses _ _ c.in_err-expect.field-0.0 _ c.from_residual-in_err-expect.ensures.1 (λ e. for_is _ _ _ _ ∙ found _ c.in_ok-to.ensures ∙ missed _ (c.in_err-expect.ensures e))

pub for_loop-returns-in_err-over : goal.for_loop-returns-in_err-over
for_loop-returns-in_err-over t c = refuses _ _ c.in_err-over.field-0.0 _ c.from_residual-in_err-over.ensures.1 (λ e. for_is _ _ _ _ ∙ found _ c.in_ok-to.ensures ∙ found _ c.in_ok-expect.ensures ∙ missed _ (c.in_err-over.ensures e))

pub for_loop-returns-in_err-body : goal.for_loop-returns-in_err-body
for_loop-returns-in_err-body t c = refuses _ _ c.in_err-body.field-0.0 _ c.from_residual-in_err-body.ensures.1 (λ e. for_is _ _ _ _ ∙ found _ c.in_ok-to.ensures ∙ found _ c.in_ok-expect.ensures ∙ found _ c.in_ok-over.ensures ∙ missed _ (c.in_err-body.ensures e))

pub for_loop-returns : goal.for_loop-returns
for_loop-returns t c = gives_made stmt_depth (compound.For _ _ _ _) _ _ _ (for_is _ _ _ _ ∙ found _ c.in_ok-to.ensures ∙ found _ c.in_ok-expect.ensures ∙ found _ c.in_ok-over.ensures ∙ found _ c.in_ok-body.ensures) c.for_loop.ensures

pub try_block-returns-in_err-body : goal.try_block-returns-in_err-body
try_block-returns-in_err-body t c = refuses _ _ c.in_err-body.field-0.0 _ c.from_residual.ensures.1 (λ e. try_is _ _ _ _ ∙ missed _ (c.in_err-body.ensures e))

pub try_block-returns-in_err-handlers : goal.try_block-returns-in_err-handlers
try_block-returns-in_err-handlers t c = refuses _ _ c.in_err-handlers.field-0.0 _ c.from_residual-in_err-handlers.ensures.1 (λ e. try_is _ _ _ _ ∙ found _ c.in_ok-body.ensures ∙ missed _ (c.in_err-handlers.ensures e))

pub try_block-returns-in_err-last : goal.try_block-returns-in_err-last
try_block-returns-in_err-last t c = refuses _ _ c.in_err-last.field-0.0 _ c.from_residual-in_err-last.ensures.1 (λ e. try_is _ _ _ _ ∙ found _ c.in_ok-body.ensures ∙ found _ c.in_ok-handlers.ensures ∙ ap (λ r. then_read (at_last c.args.brackets c.args.nodes r c.handlers.new.cursor) (λ last end. within stmt_depth (compound.Try c.args.line c.in_ok-body.body c.in_ok-handlers.handlers last) end)) (sym c.is_empty.ensures) ∙ missed _ (c.in_err-last.ensures e))

pub try_block-returns : goal.try_block-returns
try_block-returns t c = gives_made stmt_depth (compound.Try _ _ _ _) _ _ _ (try_is _ _ _ _ ∙ found _ c.in_ok-body.ensures ∙ found _ c.in_ok-handlers.ensures ∙ ap (λ r. then_read (at_last c.args.brackets c.args.nodes r c.handlers.new.cursor) (λ last end. within stmt_depth (compound.Try c.args.line c.in_ok-body.body c.in_ok-handlers.handlers last) end)) (sym c.is_empty.ensures) ∙ found _ c.in_ok-last.ensures) c.try_block.ensures

pub other-returns-then-take : goal.other-returns-then-take
other-returns-then-take t c = gives_by _ _ _ _ (other_is _ _ _ ∙ taken _ _ c.if-take.ensures.taken ∙ ap (λ l. at_elif c.args.brackets c.args.nodes l c.take.new.self) (sym c.line-line.ensures)) c.elif.ensures

pub other-returns-then-take-2 : goal.other-returns-then-take-2
other-returns-then-take-2 t c = gives_by _ _ _ _ (other_is _ _ _ ∙ passed _ _ c.if-take.ensures.other.0 ∙ taken _ _ (after _ _ c.if-take.ensures.other c.if-take-2.ensures.taken)) c.body.ensures

pub other-returns : goal.other-returns
other-returns t c = other_is _ _ _ ∙ passed _ _ c.if-take.ensures.other.0 ∙ passed _ _ (after _ _ c.if-take.ensures.other c.if-take-2.ensures.other.0) ∙ ap (λ w. Some ([], w)) (sym (c.if-take-2.ensures.other.1 ∙ c.if-take.ensures.other.1)) ∙ ap (λ b. Some (b, c.take-2.new.self)) (sym c.new.ensures)

pub elif-returns-then-nodes-eq0 : goal.elif-returns-then-nodes-eq0
elif-returns-then-nodes-eq0 t c = λ e. elif_none _ _ _ _ c.if-nodes-eq0.true

pub elif-returns-in_err-statement : goal.elif-returns-in_err-statement
elif-returns-in_err-statement t c = refuses _ _ c.in_err-statement.field-0.0 _ c.from_residual.ensures.1 (λ e. elif_is c.args.brackets c.args.nodes c.args.line c.args.cursor.now (omega arith) ∙ missed _ (c.in_err-statement.ensures e))

pub elif-returns-in_err-of_one : goal.elif-returns-in_err-of_one
elif-returns-in_err-of_one t c = runs_out _ _ _ c.from_residual-in_err-of_one.ensures.1

pub elif-returns : goal.elif-returns
elif-returns t c = elif_is c.args.brackets c.args.nodes c.args.line c.args.cursor.now (omega arith) ∙ found _ c.in_ok-statement.ensures ∙ ap (λ b. Some (b, c.branch-alloc.new.cursor)) (sym c.in_ok-of_one.ensures)

pub handlers-loop-turn-init : goal.handlers-loop-turn-init
handlers-loop-turn-init t c = handlers_start _ _ _ _ _ c.new-handlers.ensures

pub handlers-returns-then-not-take : goal.handlers-returns-then-not-take
handlers-returns-then-not-take t c = ap (λ n. handlers_from c.args.brackets c.args.nodes [] n c.args.cursor.now) (sym c.len-turns.ensures) ∙ c.loop-turn.invariant ∙ handlers_go _ _ _ _ _ _ c.loop-turn-test.true ∙ passed _ _ c.if-not-take.ensures.other.0 ∙ ap (λ w. Some (c.loop-turn.handlers, w)) (sym c.if-not-take.ensures.other.1)

pub handlers-returns-then-take : goal.handlers-returns-then-take
handlers-returns-then-take t c = gives_by _ _ _ _ (ap (λ n. handlers_from c.args.brackets c.args.nodes [] n c.args.cursor.now) (sym c.len-turns.ensures) ∙ c.loop-turn.invariant ∙ handlers_go _ _ _ _ _ _ c.loop-turn-test.true ∙ taken _ _ c.if-not-take.ensures.taken ∙ taken _ _ c.if-take.ensures.taken ∙ ap (λ l. at_bare_handler c.args.brackets c.args.nodes l c.loop-turn.handlers c.take-in-loop-turn.new.self) (sym c.line-line.ensures)) c.bare_handler.ensures

pub handlers-returns-in_err-handlers : goal.handlers-returns-in_err-handlers
handlers-returns-in_err-handlers t c = refuses _ _ c.in_err-handlers.field-0.0 _ c.from_residual.ensures.1 (λ e. ap (λ n. handlers_from c.args.brackets c.args.nodes [] n c.args.cursor.now) (sym c.len-turns.ensures) ∙ c.loop-turn.invariant ∙ handlers_named _ _ _ _ _ _ _ _ _ _ c.loop-turn-test.true c.line-line.ensures c.if-not-take.ensures.taken c.if-take.ensures.other ∙ missed _ (c.in_err-handlers.ensures e))

pub handlers-loop-turn-preserved : goal.handlers-loop-turn-preserved
handlers-loop-turn-preserved t c = c.loop-turn.invariant ∙ handlers_named _ _ _ _ _ _ _ _ _ _ c.loop-turn-test.true c.line-line.ensures c.if-not-take.ensures.taken c.if-take.ensures.other ∙ found _ c.in_ok-handlers.ensures

pub handlers-returns : goal.handlers-returns
handlers-returns t c = ap (λ n. handlers_from c.args.brackets c.args.nodes [] n c.args.cursor.now) (sym c.len-turns.ensures) ∙ c.loop-turn.invariant ∙ handlers_end _ _ _ _ _ _ (omega (arith, c.loop-turn-test.false))

pub handler-returns-in_err-class : goal.handler-returns-in_err-class
handler-returns-in_err-class t c = refuses _ _ c.in_err-class.field-0.0 _ c.from_residual.ensures.1 (λ e. handler_is _ _ _ _ _ ∙ missed _ (c.in_err-class.ensures e))

pub handler-returns-in_err-name : goal.handler-returns-in_err-name
handler-returns-in_err-name t c = refuses _ _ c.in_err-name.field-0.0 _ c.from_residual-in_err-name.ensures.1 (λ e. handler_is _ _ _ _ _ ∙ found _ c.in_ok-class.ensures ∙ missed _ (c.in_err-name.ensures e))

pub handler-returns-in_err-body : goal.handler-returns-in_err-body
handler-returns-in_err-body t c = refuses _ _ c.in_err-body.field-0.0 _ c.from_residual-in_err-body.ensures.1 (λ e. handler_is _ _ _ _ _ ∙ found _ c.in_ok-class.ensures ∙ found _ c.in_ok-name.ensures ∙ missed _ (c.in_err-body.ensures e))

pub handler-returns-in_err-push : goal.handler-returns-in_err-push
handler-returns-in_err-push t c = runs_out _ _ _ c.from_residual-in_err-push.ensures.1

pub handler-returns : goal.handler-returns
handler-returns t c = handler_is _ _ _ _ _ ∙ found _ c.in_ok-class.ensures ∙ found _ c.in_ok-name.ensures ∙ found _ c.in_ok-body.ensures ∙ ap (λ w. Some (w, c.body.new.cursor)) (sym c.in_ok-push.ensures)

pub bare_handler-returns-in_err-body : goal.bare_handler-returns-in_err-body
bare_handler-returns-in_err-body t c = refuses _ _ c.in_err-body.field-0.0 _ c.from_residual.ensures.1 (λ e. bare_handler_is _ _ _ _ _ ∙ missed _ (c.in_err-body.ensures e))

pub bare_handler-returns-in_err-push_bare : goal.bare_handler-returns-in_err-push_bare
bare_handler-returns-in_err-push_bare t c = runs_out _ _ _ c.from_residual-in_err-push_bare.ensures.1

pub bare_handler-returns : goal.bare_handler-returns
bare_handler-returns t c = bare_handler_is _ _ _ _ _ ∙ found _ c.in_ok-body.ensures ∙ ap (λ w. Some (w, c.block_of.new.cursor)) (sym c.in_ok-push_bare.ensures)

pub last-returns-then-take : goal.last-returns-then-take
last-returns-then-take t c = gives_by _ _ _ _ (last_is _ _ _ _ ∙ taken _ _ c.if-take.ensures.taken) c.body.ensures

pub last-returns-then-is_needed : goal.last-returns-then-is_needed
last-returns-then-is_needed t c = λ e. last_is _ _ _ _ ∙ passed _ _ c.if-take.ensures.other.0 ∙ picked _ _ c.if-is_needed.true

pub last-returns : goal.last-returns
last-returns t c = last_is _ _ _ _ ∙ passed _ _ c.if-take.ensures.other.0 ∙ unpicked _ _ c.if-is_needed.false ∙ ap (λ w. Some ([], w)) (sym c.if-take.ensures.other.1) ∙ ap (λ b. Some (b, c.take.new.self)) (sym c.new.ensures)

pub body-returns-in_err-expect : goal.body-returns-in_err-expect
body-returns-in_err-expect t c = refuses _ _ c.in_err-expect.field-0.0 _ c.from_residual.ensures.1 (λ e. body_is _ _ _ ∙ missed _ (c.in_err-expect.ensures e))

pub body-returns : goal.body-returns
body-returns t c = gives_by _ _ _ _ (body_is _ _ _ ∙ found _ c.in_ok-expect.ensures) c.block_of.ensures

pub block_of-returns-then-not-take : goal.block_of-returns-then-not-take
block_of-returns-then-not-take t c = gives_by _ _ _ _ (block_is _ _ _ ∙ passed _ _ c.if-not-take.ensures.other.0 ∙ ap (λ w. block_line c.args.brackets c.args.nodes w) (sym c.if-not-take.ensures.other.1)) c.block_on_line.ensures

pub block_of-returns-in_err-expect : goal.block_of-returns-in_err-expect
block_of-returns-in_err-expect t c = refuses _ _ c.in_err-expect.field-0.0 _ c.from_residual.ensures.1 (λ e. block_is _ _ _ ∙ taken _ _ c.if-not-take.ensures.taken ∙ missed _ (c.in_err-expect.ensures e))

pub block_of-returns : goal.block_of-returns
block_of-returns t c = gives_by _ _ _ _ (block_is _ _ _ ∙ taken _ _ c.if-not-take.ensures.taken ∙ found _ c.in_ok-expect.ensures) c.statements.ensures

pub statements-loop-turn-init : goal.statements-loop-turn-init
statements-loop-turn-init t c = statements_start _ _ _ _ _ c.new-block.ensures

pub statements-returns-in_err-next : goal.statements-returns-in_err-next
statements-returns-in_err-next t c = refuses _ _ c.in_err-next.field-0.0 _ c.from_residual.ensures.1 (λ e. ap (λ n. statements_from c.args.brackets c.args.nodes [] n c.args.cursor.now) (sym c.len-turns.ensures) ∙ c.loop-turn.invariant ∙ statements_go _ _ _ _ _ _ c.loop-turn-test.true ∙ missed _ (c.in_err-next.ensures e))

pub statements-returns-in_err-push : goal.statements-returns-in_err-push
statements-returns-in_err-push t c = runs_out _ _ _ c.from_residual-in_err-push.ensures.1

pub statements-returns-then-take : goal.statements-returns-then-take
statements-returns-then-take t c = ap (λ n. statements_from c.args.brackets c.args.nodes [] n c.args.cursor.now) (sym c.len-turns.ensures) ∙ c.loop-turn.invariant ∙ statements_go _ _ _ _ _ _ c.loop-turn-test.true ∙ found _ c.in_ok-next.ensures ∙ taken _ _ c.if-take.ensures.taken ∙ ap (λ w. Some (w, c.take.new.self)) (sym c.in_ok-push.ensures)

pub statements-loop-turn-preserved : goal.statements-loop-turn-preserved
statements-loop-turn-preserved t c = c.loop-turn.invariant ∙ statements_go _ _ _ _ _ _ c.loop-turn-test.true ∙ found _ c.in_ok-next.ensures ∙ passed _ _ c.if-take.ensures.other.0 ∙ ap (λ w. statements_from c.args.brackets c.args.nodes w (c.len-turns.result - (c.loop-turn._turn + 1)) c.statement.new.cursor) (sym c.in_ok-push.ensures) ∙ ap (λ w. statements_from c.args.brackets c.args.nodes c.push.new.self (c.len-turns.result - (c.loop-turn._turn + 1)) w) (sym c.if-take.ensures.other.1)

pub statements-returns : goal.statements-returns
statements-returns t c = λ e. ap (λ n. statements_from c.args.brackets c.args.nodes [] n c.args.cursor.now) (sym c.len-turns.ensures) ∙ c.loop-turn.invariant ∙ statements_end _ _ _ _ _ _ (omega (arith, c.loop-turn-test.false))
