use Rattle.std.proofs.Common.{refl, ap, ◌∙◌}
use Rattle.mon_lexer.specs.declared.layout.Layout.{Layout}
use Rattle.mon_lexer.specs.declared.piece.Piece.TheVariants.{Word}
use Rattle.mon_lexer.proofs.Lines.{at}
use Rattle.mon_lexer.proofs.Answering.{token_answer, token_fault, answer_of}
use Rattle.mon_lexer.proofs.layout.Layout.word.Goals as goal

pub returns-in_err-begin-clause-answer : goal.returns-in_err-begin-clause-answer
returns-in_err-begin-clause-answer c =
    answer_of c.from_residual.result c.in_err-begin.field-0.0 (at c.args.line (Word c.args.kind)) c.args.self.now c.begin.new.self c.from_residual.ensures.1
    (token_fault c.in_err-begin.field-0.0 c.args.line (Word c.args.kind) c.args.self.now c.begin.new.self c.begin.new.self refl refl c.in_err-begin.ensures.answer)

pub returns-clause-answer : goal.returns-clause-answer
returns-clause-answer c =
    token_answer c.args.line c.args.kind c.args.self.now c.begin.new.self c.push.new.self c.in_ok-begin.ensures.answer c.in_ok-begin.ensures.started c.in_ok-begin.ensures.place
    (ap (λ (l : Layout). l.items) c.in_ok-push.ensures) (ap (λ (l : Layout). l.tokens) c.in_ok-push.ensures) (ap (λ (l : Layout). l.place) c.in_ok-push.ensures) (ap (λ (l : Layout). l.indentations) c.in_ok-push.ensures)
    (ap (λ (l : Layout). l.depth) c.in_ok-push.ensures ∙ c.open_after-self.ensures)
