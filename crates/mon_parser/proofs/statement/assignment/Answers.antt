use Rattle.std.proofs.Common.{Some, sym, ap, ◌∙◌}
use Rattle.mon_parser.proofs.Giving.{refuses}
use Rattle.mon_parser.proofs.Calls.{found, missed}
use Rattle.mon_trees.specs.declared.tree.Simple.TheVariants as simple
use Rattle.mon_parser.proofs.StatementSteps.{assignment_is}
use Rattle.mon_parser.proofs.statement.assignment.Goals as goal

pub returns-in_err-to : goal.returns-in_err-to
returns-in_err-to c = refuses _ _ c.in_err-to.field-0.0 _ c.from_residual.ensures.1 (λ e. assignment_is _ _ _ ∙ missed _ (c.in_err-to.ensures e))

pub returns-in_err-expect : goal.returns-in_err-expect
returns-in_err-expect c = refuses _ _ c.in_err-expect.field-0.0 _ c.from_residual-in_err-expect.ensures.1 (λ e. assignment_is _ _ _ ∙ found _ c.in_ok-to.ensures ∙ missed _ (c.in_err-expect.ensures e))

pub returns-in_err-value : goal.returns-in_err-value
returns-in_err-value c = refuses _ _ c.in_err-value.field-0.0 _ c.from_residual-in_err-value.ensures.1 (λ e. assignment_is _ _ _ ∙ found _ c.in_ok-to.ensures ∙ found _ c.in_ok-expect.ensures ∙ missed _ (c.in_err-value.ensures e))

pub returns : goal.returns
returns c = assignment_is _ _ _ ∙ found _ c.in_ok-to.ensures ∙ found _ c.in_ok-expect.ensures ∙ found _ c.in_ok-value.ensures ∙ ap (λ s. Some (s, c.right_side.new.cursor)) (sym (c.new.ensures ∙ ap (λ e. simple.Assign c.in_ok-to.to e) c.into_tree.ensures))
