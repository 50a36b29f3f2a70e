use Rattle.std.proofs.Common.{refl, sym, ap, ◌∙◌, is_some}
use Rattle.mon_lexer.specs.Shown.{begun, indented_from, stack_of}
use Rattle.mon_lexer.proofs.Answering.{begin_answer}
use Rattle.mon_lexer.proofs.layout.Layout.begin.Goals as goal

pub returns-in-Fresh-clause-answer : goal.returns-in-Fresh-clause-answer
returns-in-Fresh-clause-answer c =
    begin_answer c.indent.result c.args.line c.args.line c.new-none.result c.args.self.now (record c.args.self.now { place = c.replace-place.new.dest }) c.indent.new.self
    (ap (λ p. begun c.args.line (is_some c.args.self.now.tokens) (stack_of c.args.self.now.indentations) p) (sym c.in-Fresh.ensures.value)
    ∙ ap (λ w. indented_from c.args.line (is_some c.args.self.now.tokens) (stack_of c.args.self.now.indentations) w) (sym c.new-none.ensures))
    refl refl refl c.indent.ensures.answer

pub returns-in-Leading-clause-answer : goal.returns-in-Leading-clause-answer
returns-in-Leading-clause-answer c =
    begin_answer c.indent-in-Leading.result c.args.line c.in-Leading.first c.in-Leading.indentation c.args.self.now (record c.args.self.now { place = c.replace-place.new.dest }) c.indent-in-Leading.new.self
    (ap (λ p. begun c.args.line (is_some c.args.self.now.tokens) (stack_of c.args.self.now.indentations) p) (sym c.in-Leading.ensures.value))
    refl refl refl c.indent-in-Leading.ensures.answer
