use Rattle.mon_parser.proofs.Giving.{refuses}
use Rattle.mon_parser.proofs.Operands.{identity_not_none, identity_not, identity_none, identity}
use Rattle.mon_parser.proofs.operand.identity.Goals as goal

pub returns-in_err-single : goal.returns-in_err-single
returns-in_err-single c = refuses _ _ c.in_err-single.field-0.0 _ c.from_residual.ensures.1 (λ e. identity_not_none _ _ _ _ c.if-take.ensures.taken (c.in_err-single.ensures e))

pub returns-then-take : goal.returns-then-take
returns-then-take c = identity_not _ _ _ _ _ _ _ c.if-take.ensures.taken c.in_ok-single.ensures c.is_not.ensures

pub returns-in_err-single-2 : goal.returns-in_err-single-2
returns-in_err-single-2 c = refuses _ _ c.in_err-single-2.field-0.0 _ c.from_residual-in_err-single-2.ensures.1 (λ e. identity_none _ _ _ c.if-take.ensures.other (c.in_err-single-2.ensures e))

pub returns : goal.returns
returns c = identity _ _ _ _ _ _ c.if-take.ensures.other c.in_ok-single-2.ensures c.is.ensures
