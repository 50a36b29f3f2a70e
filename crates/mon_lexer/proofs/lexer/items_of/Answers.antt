use Rattle.std.proofs.Common.{◌≡◌, ◌≤◌, ℕ, List, sym, ap, ◌∙◌, length, Ok, Err, arith}
use Rattle.mon_lexer.specs.Characters.{source, line_ends}
use Rattle.mon_lexer.specs.Layout.{first_fault, items_of}
use Rattle.mon_lexer.specs.Top.{signs_of}
use Rattle.mon_lexer.proofs.Cuttings.{lexing_none, lexing_start, lexing_more, wrong_gives, gives_of, end_gives, answer_at, nothing_left}
use Rattle.mon_lexer.proofs.lexer.items_of.Goals as goal

pub reading-init : goal.reading-init
reading-init c =
    let left : c.new-cursor.result.left ≡ source c.args.text.now = c.new-cursor.ensures.left ∙ ap (λ l. line_ends l) c.without_mark.ensures.value in
    let short : length (source c.args.text.now) ≤ 262144 = omega (arith, ap (λ (l : List ℕ). length l) left, c.new-cursor.ensures.few, c.without_mark.ensures.length) in
    lexing_none (source c.args.text.now) c.new-cursor.result c.new-layout.result _ left c.new-cursor.ensures.line short c.new-layout.ensures (lexing_start (source c.args.text.now) c.new-layout.result short)

pub reading-preserved : goal.reading-preserved
reading-preserved c =
    lexing_more (source c.args.text.now) c.in_ok-piece.piece c.reading.cursor c.next_piece.new.cursor c.reading.layout c.put.new.self c.reading.invariant c.in_ok-piece.ensures
    (answer_at (Ok tt) c.line-line.result c.reading.cursor.line c.in_ok-piece.piece c.reading.layout c.put.new.self c.line-line.ensures c.in_ok-put.ensures.answer) c.in_ok-put.ensures.right c.in_ok-put.ensures.depth

pub returns-in_err-put : goal.returns-in_err-put
returns-in_err-put c =
    gives_of c.from_residual-in_err-put.result c.in_err-put.field-0.0 (first_fault (signs_of (source c.args.text.now))) (items_of (signs_of (source c.args.text.now))) c.from_residual-in_err-put.ensures.1
    (wrong_gives (source c.args.text.now) c.in-Some.c c.in_ok-piece.piece c.reading.cursor c.next_piece.new.cursor c.reading.layout c.put.new.self c.in_err-put.field-0.0 c.reading.invariant (sym c.in-Some.ensures) c.in_ok-piece.ensures
    (answer_at (Err c.in_err-put.field-0.0) c.line-line.result c.reading.cursor.line c.in_ok-piece.piece c.reading.layout c.put.new.self c.line-line.ensures c.in_err-put.ensures.answer))

pub returns : goal.returns
returns c =
    end_gives (source c.args.text.now) c.line-last.result c.reading.cursor c.reading.layout c.line_end.new.self c.in_ok-finish.field-0 c.reading.invariant (nothing_left c.reading.cursor.left c.in_default.ensures) c.line-last.ensures
    c.in_ok-line_end.ensures.answer c.in_ok-finish.ensures
