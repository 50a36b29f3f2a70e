use Rattle.std.proofs.Common.{ℕ, sym, ap, ◌∙◌, subst}
use Rattle.mon_lexer.specs.Pieces.{number_front}
use Rattle.mon_lexer.specs.PieceReads.{PieceRead}
use Rattle.mon_lexer.specs.declared.piece.Piece.TheVariants.{Wrong}
use Rattle.mon_lexer.specs.declared.token.LexFault.TheVariants.{BadText}
use Rattle.mon_lexer.proofs.Fronts.{read_name, read_number, read_text, read_no_text}
use Rattle.mon_lexer.proofs.piece.next_piece.Goals as goal

pub returns-then-is_letter : goal.returns-then-is_letter
returns-then-is_letter c =
    read_name c.args.c c.in_ok-name.name c.word.result c.args.cursor.now c.take_run.new.cursor c.requires (sym c.if-is_letter.ensures) c.in_ok-name.ensures.run c.in_ok-name.ensures.past c.word.ensures

pub returns-then-is_ascii_digit : goal.returns-then-is_ascii_digit
returns-then-is_ascii_digit c =
    read_number c.args.c c.in_ok-run.run' c.number.result c.args.cursor.now c.take_run-then-is_ascii_digit.new.cursor c.requires (sym c.if-is_letter.ensures) (sym c.if-is_ascii_digit.ensures.value)
    c.in_ok-run.ensures.run c.in_ok-run.ensures.past (c.number.ensures ∙ ap (λ n. (number_front n c.in_ok-run.run').piece) c.line-line.ensures)

pub returns-in-None : goal.returns-in-None
returns-in-None c =
    let P : ℕ → Type 0 = λ n. PieceRead (Wrong (BadText n)) c.args.cursor.now c.text.new.cursor in
    subst P (sym c.line-line-then-is_quote.ensures)
    (read_no_text c.args.c c.args.cursor.now c.advance.new.self c.text.new.cursor (sym c.if-is_letter.ensures) (sym c.if-is_ascii_digit.ensures.value) (sym c.if-is_quote.ensures)
    (c.advance.ensures c.args.c c.requires) (rw c.in-None.is at c.in_ok-text.ensures))

pub returns-in-Some : goal.returns-in-Some
returns-in-Some c =
    read_text c.args.c c.in-Some.value c.args.cursor.now c.advance.new.self c.text.new.cursor (sym c.if-is_letter.ensures) (sym c.if-is_ascii_digit.ensures.value) (sym c.if-is_quote.ensures)
    (c.advance.ensures c.args.c c.requires) (rw c.in-Some.is at c.in_ok-text.ensures)
