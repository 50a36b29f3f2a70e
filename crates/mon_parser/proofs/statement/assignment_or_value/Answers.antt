use Rattle.std.proofs.Common.{Some, sym, ap, ◌∙◌}
use Rattle.mon_parser.proofs.Giving.{refuses}
use Rattle.mon_parser.proofs.Calls.{found, missed, taken, passed, after, gives_by}
use Rattle.mon_trees.specs.declared.tree.Simple.TheVariants as simple
use Rattle.mon_parser.specs.StatementReadings.{at_augmented, at_assignment}
use Rattle.mon_parser.proofs.StatementSteps.{assignment_or_value_is}
use Rattle.mon_parser.proofs.statement.assignment_or_value.Goals as goal

pub returns-in_err-value : goal.returns-in_err-value
returns-in_err-value c = refuses _ _ c.in_err-value.field-0.0 _ c.from_residual.ensures.1 (λ e. assignment_or_value_is _ _ _ ∙ missed _ (c.in_err-value.ensures e))

pub returns-in-Some : goal.returns-in-Some
returns-in-Some c = gives_by _ _ _ _ (assignment_or_value_is _ _ _ ∙ found _ c.in_ok-value.ensures ∙ taken _ _ c.in-Some.ensures ∙ ap (λ w. at_augmented c.args.brackets c.args.nodes w) (sym c.copy-start.ensures)) c.augmented.ensures

pub returns-then-take : goal.returns-then-take
returns-then-take c = gives_by _ _ _ _ (assignment_or_value_is _ _ _ ∙ found _ c.in_ok-value.ensures ∙ passed _ _ c.in_default.ensures.0 ∙ taken _ _ (after _ _ c.in_default.ensures c.if-take.ensures.taken) ∙ ap (λ w. at_assignment c.args.brackets c.args.nodes w) (sym c.copy-start.ensures)) c.assignment.ensures

pub returns : goal.returns
returns c = assignment_or_value_is _ _ _ ∙ found _ c.in_ok-value.ensures ∙ passed _ _ c.in_default.ensures.0 ∙ passed _ _ (after _ _ c.in_default.ensures c.if-take.ensures.other.0) ∙ ap (λ w. Some (simple.Expression c.in_ok-value.value, w)) (sym (c.if-take.ensures.other.1 ∙ c.in_default.ensures.1)) ∙ ap (λ s. Some (s, c.take.new.self)) (sym (c.new.ensures ∙ ap (λ e. simple.Expression e) c.into_tree.ensures))
