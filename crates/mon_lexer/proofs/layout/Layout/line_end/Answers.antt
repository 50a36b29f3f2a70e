use Rattle.std.proofs.Common.{◌≡◌, sym, ap}
use Rattle.mon_lexer.specs.declared.piece.Piece.TheVariants.{LineEnd}
use Rattle.mon_lexer.proofs.Lines.{at}
use Rattle.mon_lexer.proofs.Answering.{joined_answer, skipped_answer, white_line_answer, ended_result, answer_joined}
use Rattle.mon_lexer.proofs.layout.Layout.line_end.Goals as goal
use Rattle.mon_lexer.proofs.layout.Layout.line_end.Goals.{in-Within, in-Fresh, in-Leading}

pub returns-then-self-gt0-clause-answer : goal.returns-then-self-gt0-clause-answer
returns-then-self-gt0-clause-answer c = joined_answer c.args.line c.args.self.now c.white.new.self c.if-self-gt0.true c.white.ensures

pub returns-clause-answer : goal.returns-clause-answer
returns-clause-answer c =
    let fresh : (record c.args.self.now { place = c.replace-before.new.dest }) ≡ record c.args.self.now { place = _ } = ap (λ p. record c.args.self.now { place = p }) c.replace-before.ensures.after in
    elim c.match-before.branch [
      | in-Within w ↦ answer_joined c.match-before.result w.push.result (at c.args.line LineEnd) c.args.self.now c.match-before.self w.push.new.self w.result-is w.self-is
          (ended_result w.push.result c.args.line c.args.self.now (record c.args.self.now { place = c.replace-before.new.dest }) w.push.new.self c.if-self-gt0.false (sym w.in-Within.ensures.value) fresh w.push.ensures)
      | in-Fresh w ↦ answer_joined c.match-before.result _ (at c.args.line LineEnd) c.args.self.now c.match-before.self (record c.args.self.now { place = c.replace-before.new.dest }) w.result-is w.self-is
          (skipped_answer c.args.line c.args.self.now (record c.args.self.now { place = c.replace-before.new.dest }) c.if-self-gt0.false (sym w.in-Fresh.ensures.value) fresh)
      | in-Leading w ↦ answer_joined c.match-before.result _ (at c.args.line LineEnd) c.args.self.now c.match-before.self (record c.args.self.now { place = c.replace-before.new.dest }) w.result-is w.self-is
          (white_line_answer c.args.line _ _ c.args.self.now (record c.args.self.now { place = c.replace-before.new.dest }) c.if-self-gt0.false (sym w.in-Leading.ensures.value) fresh)
    ]
