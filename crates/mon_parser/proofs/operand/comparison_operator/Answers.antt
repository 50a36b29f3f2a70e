use Rattle.mon_parser.proofs.Giving.{refuses}
use Rattle.mon_parser.proofs.Operands.{comparison_not_none, comparison_not_in, comparison_last}
use Rattle.mon_parser.proofs.operand.comparison_operator.Goals as goal

pub returns-in_err-expect : goal.returns-in_err-expect
returns-in_err-expect c = refuses _ _ c.in_err-expect.field-0.0 _ c.from_residual.ensures.1 (λ e. comparison_not_none _ _ _ c.if-take.ensures.taken (c.in_err-expect.ensures e))

pub returns-then-take : goal.returns-then-take
returns-then-take c = comparison_not_in _ _ _ _ _ c.if-take.ensures.taken c.in_ok-expect.ensures

pub returns : goal.returns
returns c = comparison_last _ _ _ _ c.if-take.ensures.other c.take_comparison.ensures
