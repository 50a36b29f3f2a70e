use Rattle.std.proofs.Common.{Some, None, sym, ap, ◌∙◌}
use Rattle.mon_parser.proofs.Giving.{refuses}
use Rattle.mon_parser.proofs.Calls.{found, missed, taken, passed}
use Rattle.mon_parser.proofs.statement.name_after_as.Goals as goal

pub returns-then-not-take : goal.returns-then-not-take
returns-then-not-take c = passed _ _ c.if-not-take.ensures.other.0 ∙ ap (λ w. Some (None, w)) (sym c.if-not-take.ensures.other.1)

pub returns-in_err-name : goal.returns-in_err-name
returns-in_err-name c = refuses _ _ c.in_err-name.field-0.0 _ c.from_residual.ensures.1 (λ e. taken _ _ c.if-not-take.ensures.taken ∙ missed _ (c.in_err-name.ensures e))

pub returns : goal.returns
returns c = taken _ _ c.if-not-take.ensures.taken ∙ found _ c.in_ok-name.ensures
