use Rattle.mon_parser.proofs.Giving.{refuses}
use Rattle.mon_parser.proofs.Operands.{ask_missing, ask_made}
use Rattle.mon_parser.proofs.operand.end_ask.Goals as goal

pub returns-in_err-expect : goal.returns-in_err-expect
returns-in_err-expect c = refuses _ _ c.in_err-expect.field-0.0 _ c.from_residual.ensures.1 (λ e. ask_missing _ _ _ _ (c.in_err-expect.ensures e))

pub returns : goal.returns
returns c = ask_made _ _ _ _ _ _ _ c.in_ok-expect.ensures c.ask.ensures
