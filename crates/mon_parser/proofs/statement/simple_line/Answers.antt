use Rattle.std.proofs.Common.{sym, ap, ◌∙◌, arith}
use Rattle.mon_parser.proofs.Giving.{refuses, gives_made}
use Rattle.mon_parser.proofs.Calls.{found, missed}
use Rattle.mon_trees.specs.declared.tree.Statement as stmt
use Rattle.mon_parser.specs.Depth.{stmt_depth}
use Rattle.mon_parser.specs.Reader.{within}
use Rattle.mon_parser.proofs.StatementSteps.{line_none, line_is}
use Rattle.mon_parser.proofs.statement.simple_line.Goals as goal

pub returns-then-nodes-eq0 : goal.returns-then-nodes-eq0
returns-then-nodes-eq0 c = λ e. line_none _ _ _ c.if-nodes-eq0.true

pub returns-in_err-statement : goal.returns-in_err-statement
returns-in_err-statement c = refuses _ _ c.in_err-statement.field-0.0 _ c.from_residual.ensures.1 (λ e. line_is c.args.brackets c.args.nodes c.args.cursor.now (omega arith) ∙ missed _ (c.in_err-statement.ensures e))

pub returns-in_err-expect : goal.returns-in_err-expect
returns-in_err-expect c = refuses _ _ c.in_err-expect.field-0.0 _ c.from_residual-in_err-expect.ensures.1 (λ e. line_is c.args.brackets c.args.nodes c.args.cursor.now (omega arith) ∙ found _ c.in_ok-statement.ensures ∙ missed _ (c.in_err-expect.ensures e))

pub returns : goal.returns
returns c = gives_made stmt_depth (stmt.Simple c.line-line.result c.in_ok-statement.statement) _ _ _ (line_is c.args.brackets c.args.nodes c.args.cursor.now (omega arith) ∙ found _ c.in_ok-statement.ensures ∙ found _ c.in_ok-expect.ensures ∙ ap (λ l. within stmt_depth (stmt.Simple l c.in_ok-statement.statement) c.expect.new.self) (sym c.line-line.ensures)) c.on_line.ensures
