use Rattle.std.proofs.Common.{◌≡◌, Some, sym, ap, ◌∙◌, false, true}
use Rattle.mon_parser.proofs.Giving.{refuses}
use Rattle.mon_parser.proofs.Calls.{found, missed}
use Rattle.mon_trees.specs.declared.tree.Simple.TheVariants as simple
use Rattle.mon_parser.specs.Reader.{starts}
use Rattle.mon_parser.proofs.StatementSteps.{raised_none, raised_is}
use Rattle.mon_parser.proofs.statement.raised.Goals as goal

pub returns-then-not-starts : goal.returns-then-not-starts
returns-then-not-starts c =
    let none : starts c.args.cursor.now ≡ false = cc in
    raised_none _ _ _ none ∙ ap (λ s. Some (s, c.args.cursor.now)) (sym c.new.ensures)

pub returns-in_err-value : goal.returns-in_err-value
returns-in_err-value c =
    let some : starts c.args.cursor.now ≡ true = cc in
    refuses _ _ c.in_err-value.field-0.0 _ c.from_residual.ensures.1 (λ e. raised_is _ _ _ some ∙ missed _ (c.in_err-value.ensures e))

pub returns : goal.returns
returns c =
    let some : starts c.args.cursor.now ≡ true = cc in
    raised_is _ _ _ some ∙ found _ c.in_ok-value.ensures ∙ ap (λ s. Some (s, c.expression.new.cursor)) (sym (c.new-2.ensures ∙ ap (λ e. simple.Raise (Some e)) c.into_tree.ensures))
