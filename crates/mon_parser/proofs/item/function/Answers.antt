use Rattle.std.proofs.Common.{◌∙◌, arith}
use Rattle.mon_parser.proofs.Giving.{refuses, goes_on, stops_there}
use Rattle.mon_parser.proofs.DefSteps.{def_step, function_fits, function_deep}
use Rattle.mon_parser.proofs.item.function.Goals as goal

pub returns-in_err-name : goal.returns-in_err-name
returns-in_err-name c = refuses _ _ c.in_err-name.field-0.0 _ c.from_residual.ensures.1 (λ e. stops_there _ _ _ (def_step _ _ _) (c.in_err-name.ensures e))

pub returns-in_err-expect : goal.returns-in_err-expect
returns-in_err-expect c = refuses _ _ c.in_err-expect.field-0.0 _ c.from_residual-in_err-expect.ensures.1 (λ e. stops_there _ _ _ (goes_on _ _ _ _ _ (def_step _ _ _) c.in_ok-name.ensures) (c.in_err-expect.ensures e))

pub returns-in_err-parameters : goal.returns-in_err-parameters
returns-in_err-parameters c = refuses _ _ c.in_err-parameters.field-0.0 _ c.from_residual-in_err-parameters.ensures.1
    (λ e. stops_there _ _ _ (goes_on _ _ _ _ _ (goes_on _ _ _ _ _ (def_step _ _ _) c.in_ok-name.ensures) c.in_ok-expect.ensures) (c.in_err-parameters.ensures e))

pub returns-in_err-expect-2 : goal.returns-in_err-expect-2
returns-in_err-expect-2 c = refuses _ _ c.in_err-expect-2.field-0.0 _ c.from_residual-in_err-expect-2.ensures.1
    (λ e. stops_there _ _ _ (goes_on _ _ _ _ _ (goes_on _ _ _ _ _ (goes_on _ _ _ _ _ (def_step _ _ _) c.in_ok-name.ensures) c.in_ok-expect.ensures) c.in_ok-parameters.ensures) (c.in_err-expect-2.ensures e))

pub returns-in_err-body : goal.returns-in_err-body
returns-in_err-body c = refuses _ _ c.in_err-body.field-0.0 _ c.from_residual-in_err-body.ensures.1
    (λ e. stops_there _ _ _ (goes_on _ _ _ _ _ (goes_on _ _ _ _ _ (goes_on _ _ _ _ _ (goes_on _ _ _ _ _ (def_step _ _ _) c.in_ok-name.ensures) c.in_ok-expect.ensures) c.in_ok-parameters.ensures) c.in_ok-expect-2.ensures) (c.in_err-body.ensures e))

pub returns-then-depth-lt-MOST_NODES : goal.returns-then-depth-lt-MOST_NODES
returns-then-depth-lt-MOST_NODES c =
    goes_on _ _ _ _ _ (goes_on _ _ _ _ _ (goes_on _ _ _ _ _ (goes_on _ _ _ _ _ (goes_on _ _ _ _ _ (def_step _ _ _) c.in_ok-name.ensures) c.in_ok-expect.ensures) c.in_ok-parameters.ensures) c.in_ok-expect-2.ensures) c.in_ok-body.ensures
    ∙ function_fits _ _ _ _ _ _ (omega (arith, c.depth.ensures, c.if-depth-lt-MOST_NODES.true)) c.into_items.ensures

pub returns : goal.returns
returns c = λ e.
    goes_on _ _ _ _ _ (goes_on _ _ _ _ _ (goes_on _ _ _ _ _ (goes_on _ _ _ _ _ (goes_on _ _ _ _ _ (def_step _ _ _) c.in_ok-name.ensures) c.in_ok-expect.ensures) c.in_ok-parameters.ensures) c.in_ok-expect-2.ensures) c.in_ok-body.ensures
    ∙ function_deep _ _ _ _ _ (omega (arith, c.depth.ensures, c.if-depth-lt-MOST_NODES.false))
