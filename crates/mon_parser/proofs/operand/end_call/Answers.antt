use Rattle.mon_parser.proofs.Giving.{refuses}
use Rattle.mon_parser.proofs.Operands.{call_missing, call_made}
use Rattle.mon_parser.proofs.operand.end_call.Goals as goal

pub returns-in_err-expect : goal.returns-in_err-expect
returns-in_err-expect c = refuses _ _ c.in_err-expect.field-0.0 _ c.from_residual.ensures.1 (λ e. call_missing _ _ _ (c.in_err-expect.ensures e))

pub returns : goal.returns
returns c = call_made _ _ _ _ _ _ c.in_ok-expect.ensures c.call.ensures
