use Rattle.std.proofs.Common.{◌≡◌, ◌++◌, ◌∷◌, [], Some, sym, ap, ◌∙◌, false, true}
use Rattle.mon_parser.proofs.Giving.{refuses, runs_out}
use Rattle.mon_parser.proofs.Calls.{missed, picked, unpicked, gives_by}
use Rattle.mon_parser.specs.Statements.{starts_name}
use Rattle.mon_parser.proofs.StatementSteps.{parameters_go}
use Rattle.mon_parser.proofs.statement.parameters.Goals as goal

pub returns-then-not-starts_name : goal.returns-then-not-starts_name
returns-then-not-starts_name c =
    let none : starts_name c.args.cursor.now ≡ false = cc in
    unpicked _ _ none ∙ ap (λ p. Some (p, c.args.cursor.now)) (sym c.new-names.ensures)

pub returns-in_err-first : goal.returns-in_err-first
returns-in_err-first c = refuses _ _ c.in_err-first.field-0.0 _ c.from_residual.ensures.1 (λ e. picked _ _ (cc) ∙ missed _ (c.in_err-first.ensures e))

pub returns-in_err-push : goal.returns-in_err-push
returns-in_err-push c = runs_out _ _ _ c.from_residual-in_err-push.ensures.1

pub returns : goal.returns
returns c =
    let some : starts_name c.args.cursor.now ≡ true = cc in
    gives_by _ _ _ _ (parameters_go _ _ _ _ some c.in_ok-first.ensures (c.in_ok-push.ensures.ok ∙ ap (λ p. p ++ c.in_ok-first.first ∷ []) c.new-names.ensures)) c.further_names.ensures
