use Rattle.std.proofs.Common.{Some, sym, ap, ◌∙◌}
use Rattle.mon_parser.proofs.Giving.{refuses}
use Rattle.mon_parser.proofs.Calls.{found, missed}
use Rattle.mon_trees.specs.declared.tree.Simple.TheVariants as simple
use Rattle.mon_parser.proofs.StatementSteps.{augmented_is}
use Rattle.mon_parser.proofs.statement.augmented.Goals as goal

pub returns-in_err-name : goal.returns-in_err-name
returns-in_err-name c = refuses _ _ c.in_err-name.field-0.0 _ c.from_residual.ensures.1 (λ e. augmented_is _ _ _ ∙ missed _ (c.in_err-name.ensures e))

pub returns-in_err-op : goal.returns-in_err-op
returns-in_err-op c = refuses _ _ c.in_err-op.field-0.0 _ c.from_residual-in_err-op.ensures.1 (λ e. augmented_is _ _ _ ∙ found _ c.in_ok-name.ensures ∙ missed _ (c.in_err-op.ensures e))

pub returns-in_err-value : goal.returns-in_err-value
returns-in_err-value c = refuses _ _ c.in_err-value.field-0.0 _ c.from_residual-in_err-value.ensures.1 (λ e. augmented_is _ _ _ ∙ found _ c.in_ok-name.ensures ∙ found _ c.in_ok-op.ensures ∙ missed _ (c.in_err-value.ensures e))

pub returns : goal.returns
returns c = augmented_is _ _ _ ∙ found _ c.in_ok-name.ensures ∙ found _ c.in_ok-op.ensures ∙ found _ c.in_ok-value.ensures ∙ ap (λ s. Some (s, c.right_side.new.cursor)) (sym (c.new.ensures ∙ ap (λ e. simple.Augmented c.in_ok-name.name c.in_ok-op.op e) c.into_tree.ensures))
