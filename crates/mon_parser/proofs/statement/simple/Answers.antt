use Rattle.std.proofs.Common.{Some, sym, ap, ◌∙◌}
use Rattle.mon_parser.proofs.Calls.{taken, passed, after, gives_by}
use Rattle.mon_parser.specs.StatementReadings.{at_assignment_or_value}
use Rattle.mon_parser.proofs.StatementSteps.{simple_is}
use Rattle.mon_parser.proofs.statement.simple.Goals as goal

pub returns-then-take : goal.returns-then-take
returns-then-take c = simple_is _ _ _ ∙ taken _ _ c.if-take.ensures.taken ∙ ap (λ s. Some (s, c.take.new.self)) (sym c.new.ensures)

pub returns-then-take-2 : goal.returns-then-take-2
returns-then-take-2 c = simple_is _ _ _ ∙ passed _ _ c.if-take.ensures.other.0 ∙ taken _ _ (after _ _ c.if-take.ensures.other c.if-take-2.ensures.taken) ∙ ap (λ s. Some (s, c.take-2.new.self)) (sym c.new-then-take-2.ensures)

pub returns-then-take-3 : goal.returns-then-take-3
returns-then-take-3 c = simple_is _ _ _ ∙ passed _ _ c.if-take.ensures.other.0 ∙ passed _ _ (after _ _ c.if-take.ensures.other c.if-take-2.ensures.other.0) ∙ taken _ _ (after _ _ c.if-take.ensures.other (after _ _ c.if-take-2.ensures.other c.if-take-3.ensures.taken)) ∙ ap (λ s. Some (s, c.take-3.new.self)) (sym c.new-then-take-3.ensures)

pub returns-then-take-4 : goal.returns-then-take-4
returns-then-take-4 c = gives_by _ _ _ _ (simple_is _ _ _ ∙ passed _ _ c.if-take.ensures.other.0 ∙ passed _ _ (after _ _ c.if-take.ensures.other c.if-take-2.ensures.other.0) ∙ passed _ _ (after _ _ c.if-take.ensures.other (after _ _ c.if-take-2.ensures.other c.if-take-3.ensures.other.0)) ∙ taken _ _ (after _ _ c.if-take.ensures.other (after _ _ c.if-take-2.ensures.other (after _ _ c.if-take-3.ensures.other c.if-take-4.ensures.taken)))) c.returned.ensures

pub returns-then-take-5 : goal.returns-then-take-5
returns-then-take-5 c = gives_by _ _ _ _ (simple_is _ _ _ ∙ passed _ _ c.if-take.ensures.other.0 ∙ passed _ _ (after _ _ c.if-take.ensures.other c.if-take-2.ensures.other.0) ∙ passed _ _ (after _ _ c.if-take.ensures.other (after _ _ c.if-take-2.ensures.other c.if-take-3.ensures.other.0)) ∙ passed _ _ (after _ _ c.if-take.ensures.other (after _ _ c.if-take-2.ensures.other (after _ _ c.if-take-3.ensures.other c.if-take-4.ensures.other.0))) ∙ taken _ _ (after _ _ c.if-take.ensures.other (after _ _ c.if-take-2.ensures.other (after _ _ c.if-take-3.ensures.other (after _ _ c.if-take-4.ensures.other c.if-take-5.ensures.taken))))) c.raised.ensures

pub returns : goal.returns
returns c = gives_by _ _ _ _ (simple_is _ _ _ ∙ passed _ _ c.if-take.ensures.other.0 ∙ passed _ _ (after _ _ c.if-take.ensures.other c.if-take-2.ensures.other.0) ∙ passed _ _ (after _ _ c.if-take.ensures.other (after _ _ c.if-take-2.ensures.other c.if-take-3.ensures.other.0)) ∙ passed _ _ (after _ _ c.if-take.ensures.other (after _ _ c.if-take-2.ensures.other (after _ _ c.if-take-3.ensures.other c.if-take-4.ensures.other.0))) ∙ passed _ _ (after _ _ c.if-take.ensures.other (after _ _ c.if-take-2.ensures.other (after _ _ c.if-take-3.ensures.other (after _ _ c.if-take-4.ensures.other c.if-take-5.ensures.other.0)))) ∙ ap (λ w. at_assignment_or_value c.args.brackets c.args.nodes w) (sym (c.if-take-5.ensures.other.1 ∙ c.if-take-4.ensures.other.1 ∙ c.if-take-3.ensures.other.1 ∙ c.if-take-2.ensures.other.1 ∙ c.if-take.ensures.other.1))) c.assignment_or_value.ensures
