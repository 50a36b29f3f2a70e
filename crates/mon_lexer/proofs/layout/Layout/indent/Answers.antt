use Rattle.std.proofs.Common.{◌∷◌, [], ◌++◌, refl, sym, ap, ◌∙◌}
use Rattle.mon_lexer.specs.declared.layout.Layout.{Layout}
use Rattle.mon_lexer.proofs.Answering.{deeper_answer, start_answer}
use Rattle.mon_lexer.proofs.layout.Layout.indent.Goals as goal

pub returns-then-is_deeper-clause-answer : goal.returns-then-is_deeper-clause-answer
returns-then-is_deeper-clause-answer c =
    deeper_answer c.args.line c.args.indentation c.args.self.now _ (sym c.if-is_bad.ensures) (sym c.if-is_deeper.ensures)
    (ap (λ (l : Layout). l.items) c.in_ok-push.ensures) (ap (λ (l : Layout). l.tokens) c.in_ok-push.ensures) (ap (λ (l : Layout). l.depth) c.in_ok-push.ensures)
    (c.in_ok-push-2.ensures.ok ∙ ap (λ (l : Layout). l.indentations ++ c.args.indentation ∷ []) c.in_ok-push.ensures)

pub returns-clause-answer : goal.returns-clause-answer
returns-clause-answer c =
    start_answer c.args.line c.args.indentation c.args.self.now c.close_to.new.self c.start.new.self (sym c.if-is_bad.ensures) (sym c.if-is_deeper.ensures) (c.if-not-is_empty.ensures.0 refl) c.in_ok-close_to.ensures.answer
    (ap (λ (l : Layout). l.items) c.in_ok-start.ensures) (ap (λ (l : Layout). l.tokens) c.in_ok-start.ensures) (ap (λ (l : Layout). l.depth) c.in_ok-start.ensures) (ap (λ (l : Layout). l.indentations) c.in_ok-start.ensures)
