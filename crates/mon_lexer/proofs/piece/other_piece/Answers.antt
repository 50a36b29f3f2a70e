use Rattle.std.proofs.Common.{◌≡◌, ◌==◌, ℕ, false, refl, sym, arith, rules, subst}
use Rattle.mon_lexer.specs.Pieces.{front, operator_at}
use Rattle.mon_lexer.specs.Words.{operators}
use Rattle.mon_lexer.specs.PieceReads.{PieceRead}
use Rattle.mon_lexer.specs.declared.piece.Piece.TheVariants.{LineEnd, Wrong}
use Rattle.mon_lexer.specs.declared.token.LexFault.TheVariants.{BadChar}
use Rattle.mon_lexer.proofs.Fronts.{read_blank, read_one, read_comment, read_joined, read_backslash, read_operator, read_no_operator}
use Rattle.mon_lexer.proofs.piece.other_piece.Goals as goal

pub returns-in-32 : goal.returns-in-32
returns-in-32 c = read_blank c.args.c c.args.cursor.now c.advance.new.self c.requires.no_letter (search (rules, c.in-32.is)) (c.advance.ensures c.args.c c.requires.next)

pub returns-in-10 : goal.returns-in-10
unfolding front
returns-in-10 c = read_one c.args.c 10 LineEnd c.args.cursor.now c.advance-in-10.new.self c.in-10.is (λ line cs. refl) (c.advance-in-10.ensures c.args.c c.requires.next)

pub returns-in-35 : goal.returns-in-35
returns-in-35 c = read_comment c.args.c c.args.cursor.now c.skip_comment.new.cursor c.requires.next c.in-35.is c.skip_comment.ensures

pub returns-then-take : goal.returns-then-take
returns-then-take c = read_joined c.args.c c.args.cursor.now c.advance-in-92.new.self c.take.new.self c.in-92.is (c.advance-in-92.ensures c.args.c c.requires.next) c.if-take.ensures.taken

pub returns-else-take : goal.returns-else-take
unfolding operator_at operators
returns-else-take c =
    let P : ℕ → Type 0 = λ n. PieceRead (Wrong (BadChar n)) c.args.cursor.now c.take.new.self in
    subst P (sym c.line-line.ensures)
    (read_backslash c.args.c c.args.cursor.now c.advance-in-92.new.self c.take.new.self c.in-92.is (c.advance-in-92.ensures c.args.c c.requires.next) c.if-take.ensures.other.0 (λ cs. refl))

pub returns-in-None : goal.returns-in-None
returns-in-None c =
    let P : ℕ → Type 0 = λ n. PieceRead (Wrong (BadChar n)) c.args.cursor.now c.operator.new.cursor in
    let e32 : (c.args.c == 32) ≡ false = first_of (search rules, grind arith) in
    let e9 : (c.args.c == 9) ≡ false = first_of (search rules, grind arith) in
    let e10 : (c.args.c == 10) ≡ false = first_of (search rules, grind arith) in
    let e35 : (c.args.c == 35) ≡ false = first_of (search rules, grind arith) in
    let e92 : (c.args.c == 92) ≡ false = first_of (search rules, grind arith) in
    subst P (sym c.line-line-in_default.ensures)
    (read_no_operator c.args.c c.args.cursor.now c.operator.new.cursor c.requires.next c.requires.no_letter e32 e9 e10 e35 e92 c.in-None.ensures)

pub returns-in-Some : goal.returns-in-Some
returns-in-Some c =
    let e32 : (c.args.c == 32) ≡ false = first_of (search rules, grind arith) in
    let e9 : (c.args.c == 9) ≡ false = first_of (search rules, grind arith) in
    let e10 : (c.args.c == 10) ≡ false = first_of (search rules, grind arith) in
    let e35 : (c.args.c == 35) ≡ false = first_of (search rules, grind arith) in
    let e92 : (c.args.c == 92) ≡ false = first_of (search rules, grind arith) in
    read_operator c.args.c c.in-Some.found c.args.cursor.now c.operator.new.cursor c.requires.next c.requires.no_letter e32 e9 e10 e35 e92 c.in-Some.ensures
