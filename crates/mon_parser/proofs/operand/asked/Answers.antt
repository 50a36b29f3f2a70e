use Rattle.mon_parser.proofs.Giving.{refuses}
use Rattle.mon_parser.proofs.Operands.{asked_none, asked_missing, asked_method}
use Rattle.mon_parser.proofs.operand.asked.Goals as goal

pub returns-in_err-method : goal.returns-in_err-method
returns-in_err-method c = refuses _ _ c.in_err-method.field-0.0 _ c.from_residual.ensures.1 (λ e. asked_none _ (c.in_err-method.ensures e))

pub returns-in_err-expect : goal.returns-in_err-expect
returns-in_err-expect c = refuses _ _ c.in_err-expect.field-0.0 _ c.from_residual-in_err-expect.ensures.1 (λ e. asked_missing _ _ _ c.in_ok-method.ensures (c.in_err-expect.ensures e))

pub returns : goal.returns
returns c = asked_method _ _ _ _ _ c.in_ok-method.ensures c.in_ok-expect.ensures
