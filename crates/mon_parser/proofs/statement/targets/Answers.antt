use Rattle.std.proofs.Common.{◌≡◌, ◌++◌, ◌∷◌, [], ap, ◌∙◌, false, true}
use Rattle.mon_parser.proofs.Giving.{refuses, runs_out}
use Rattle.mon_parser.proofs.Calls.{found, missed, unpicked}
use Rattle.mon_parser.specs.Reader.{is_comma}
use Rattle.mon_parser.proofs.StatementSteps.{targets_go}
use Rattle.mon_parser.proofs.statement.targets.Goals as goal

pub returns-in_err-first : goal.returns-in_err-first
returns-in_err-first c = refuses _ _ c.in_err-first.field-0.0 _ c.from_residual.ensures.1 (λ e. missed _ (c.in_err-first.ensures e))

pub returns-then-not-is_comma : goal.returns-then-not-is_comma
returns-then-not-is_comma c =
    let none : is_comma c.expect_name.new.self ≡ false = cc in
    found _ c.in_ok-first.ensures ∙ unpicked _ _ none

pub returns-in_err-push : goal.returns-in_err-push
returns-in_err-push c = runs_out _ _ _ c.from_residual-in_err-push.ensures.1

pub returns-in_err-further_names : goal.returns-in_err-further_names
returns-in_err-further_names c =
    let some : is_comma c.expect_name.new.self ≡ true = cc in
    refuses _ _ c.in_err-further_names.field-0.0 _ c.from_residual-in_err-further_names.ensures.1 (λ e. targets_go _ _ _ _ c.in_ok-first.ensures some (c.in_ok-push.ensures.ok ∙ ap (λ p. p ++ c.in_ok-first.first ∷ []) c.new-names.ensures) ∙ missed _ (c.in_err-further_names.ensures e))

pub returns : goal.returns
returns c =
    let some : is_comma c.expect_name.new.self ≡ true = cc in
    targets_go _ _ _ _ c.in_ok-first.ensures some (c.in_ok-push.ensures.ok ∙ ap (λ p. p ++ c.in_ok-first.first ∷ []) c.new-names.ensures) ∙ found _ c.in_ok-further_names.ensures
