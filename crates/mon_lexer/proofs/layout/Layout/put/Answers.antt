use Rattle.std.proofs.Common.{refl, Ok, Err}
use Rattle.mon_lexer.specs.declared.piece.Piece.TheVariants.{Blank, Joined, Comment, Wrong}
use Rattle.mon_lexer.proofs.Lines.{at}
use Rattle.mon_lexer.proofs.Answering.{answer_of, token_fault, wrong_answer, white_answer, blank_answer, piece_at}
use Rattle.mon_lexer.proofs.layout.Layout.put.Goals as goal

pub returns-in_err-begin-in-Wrong-clause-answer : goal.returns-in_err-begin-in-Wrong-clause-answer
returns-in_err-begin-in-Wrong-clause-answer c =
    piece_at c.from_residual-in_err-begin-in-Wrong.result c.args.line c.args.piece (Wrong c.in-Wrong.fault) c.args.self.now c.begin.new.self c.in-Wrong.is
    (answer_of c.from_residual-in_err-begin-in-Wrong.result c.in_err-begin-in-Wrong.field-0.0 (at c.args.line (Wrong c.in-Wrong.fault)) c.args.self.now c.begin.new.self c.from_residual-in_err-begin-in-Wrong.ensures.1
    (token_fault c.in_err-begin-in-Wrong.field-0.0 c.args.line (Wrong c.in-Wrong.fault) c.args.self.now c.begin.new.self c.begin.new.self refl refl c.in_err-begin-in-Wrong.ensures.answer))

pub returns-in-Wrong-clause-answer : goal.returns-in-Wrong-clause-answer
returns-in-Wrong-clause-answer c =
    piece_at (Err c.in-Wrong.fault) c.args.line c.args.piece (Wrong c.in-Wrong.fault) c.args.self.now c.begin.new.self c.in-Wrong.is
    (wrong_answer c.in-Wrong.fault c.args.line c.args.self.now c.begin.new.self c.begin.new.self c.in_ok-begin-in-Wrong.ensures.answer)

pub returns-in_ok-blank-in-Blank-clause-answer : goal.returns-in_ok-blank-in-Blank-clause-answer
returns-in_ok-blank-in-Blank-clause-answer c =
    piece_at (Ok tt) c.args.line c.args.piece (Blank c.in-Blank.c) c.args.self.now c.blank.new.self c.in-Blank.is (blank_answer c.args.line c.in-Blank.c c.args.self.now c.blank.new.self c.in_ok-blank-in-Blank.ensures)

pub returns-in-Joined-clause-answer : goal.returns-in-Joined-clause-answer
returns-in-Joined-clause-answer c =
    piece_at (Ok tt) c.args.line c.args.piece Joined c.args.self.now c.white.new.self c.in-Joined.is (white_answer c.args.line Joined c.args.self.now c.white.new.self refl c.white.ensures)

pub returns-in-Comment-clause-answer : goal.returns-in-Comment-clause-answer
returns-in-Comment-clause-answer c =
    piece_at (Ok tt) c.args.line c.args.piece Comment c.args.self.now c.white-in-Comment.new.self c.in-Comment.is (white_answer c.args.line Comment c.args.self.now c.white-in-Comment.new.self refl c.white-in-Comment.ensures)
