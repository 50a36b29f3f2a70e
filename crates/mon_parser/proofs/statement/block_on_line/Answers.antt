use Rattle.std.proofs.Common.{Some, sym, ap, ◌∙◌}
use Rattle.mon_parser.proofs.Giving.{refuses, runs_out}
use Rattle.mon_parser.proofs.Calls.{found, missed}
use Rattle.mon_parser.proofs.StatementSteps.{block_line_is}
use Rattle.mon_parser.proofs.statement.block_on_line.Goals as goal

pub returns-in_err-statement : goal.returns-in_err-statement
returns-in_err-statement c = refuses _ _ c.in_err-statement.field-0.0 _ c.from_residual.ensures.1 (λ e. block_line_is _ _ _ ∙ missed _ (c.in_err-statement.ensures e))

pub returns-in_err-of_one : goal.returns-in_err-of_one
returns-in_err-of_one c = runs_out _ _ _ c.from_residual-in_err-of_one.ensures.1

pub returns : goal.returns
returns c = block_line_is _ _ _ ∙ found _ c.in_ok-statement.ensures ∙ ap (λ b. Some (b, c.simple_line.new.cursor)) (sym c.in_ok-of_one.ensures)
