-- A text cut piece after piece, and the answer at its end.
use Rattle.std.proofs.Common.{◌≡◌, ℕ, List, [], ◌∷◌, ◌++◌, Bool, true, false, ◌==◌, ◌+◌, ◌-◌, ◌<◌, ◌≤◌, ◌^◌, refl, sym, ap, ◌∙◌, arith, length, length-append, Option, Some, None, is_some, Result, Ok, Err, subst, count_by, if◌then◌else◌, cond}
use Rattle.std.proofs.lemmas.List.Sums.{sum_by-cons}
use Rattle.std.specs.Result.{IsErrAnd}
use Rattle.mon_lexer.specs.Characters.{line_after}
use Rattle.mon_lexer.specs.Reading.{Reading, Spanned, line_past, first}
use Rattle.mon_lexer.specs.Pieces.{Front, Placed, front, pieces}
use Rattle.mon_lexer.specs.PieceReads.{PieceRead, front_at, is_wrong}
use Rattle.mon_lexer.specs.Layout.{Sign, all_closed, first_fault, items_of}
use Rattle.mon_lexer.specs.Shown.{outcome, Outcome, finished, rest_signs, rest_from, stack_of, PieceAnswer}
use Rattle.mon_lexer.specs.Top.{last_line, signs_of, Gives}
use Rattle.mon_lexer.specs.declared.layout.Layout.{Layout}
use Rattle.mon_lexer.specs.declared.layout.Place.TheVariants.{Fresh}
use Rattle.mon_lexer.specs.declared.piece.Piece.{Piece}
use Rattle.mon_lexer.specs.declared.piece.Piece.TheVariants.{LineEnd}
use Rattle.mon_lexer.specs.declared.token.Item.{Item}
use Rattle.mon_lexer.specs.declared.token.LexFault.{LexFault}
use Rattle.mon_lexer.specs.declared.token.LexFault.TheVariants.{NotUtf8, BadChar, BadIndent, BadNumber, BadText, TooLong, Memory}
use Rattle.mon_lexer.proofs.Lines.{at, rest_end}

-- pieces behind those that were read
pieces_past : (read rest : List ℕ) (line : ℕ) → pieces line (length read) (read ++ rest) ≡ pieces (line_past read line) 0 rest
unfolding pieces
pieces_past [] rest line = refl
pieces_past (c ∷ cs) rest line = pieces_past cs rest (line_after c line)

pub pieces_step : (line w : ℕ) (p : Piece) (read rest : List ℕ) → front_at line (read ++ rest) ≡ record { piece = p; width = w } → length read ≡ w → 0 < w
    → pieces line 0 (read ++ rest) ≡ at line p ∷ pieces (line_past read line) 0 rest
unfolding pieces
pieces_step line w p [] rest e n h = absurd (omega arith)
pieces_step line w p (c ∷ cs) rest e n h =
    let fewer : w - 1 ≡ length cs = omega arith in
    ap (λ (f : Front). at line f.piece ∷ pieces (line_after c line) (f.width - 1) (cs ++ rest)) e
    ∙ ap (λ k. at line p ∷ pieces (line_after c line) k (cs ++ rest)) fewer
    ∙ ap (λ ps. at line p ∷ ps) (pieces_past cs rest (line_after c line))

pub pieces_next : (p : Piece) (old new : Reading) → PieceRead p old new → is_wrong p ≡ false → pieces old.line 0 old.left ≡ at old.line p ∷ pieces new.line 0 new.left
pieces_next p old new r h =
    let s : Spanned r.width old new = r.spanned h in
    ap (λ l. pieces old.line 0 l) s.past.left
    ∙ pieces_step old.line r.width p s.front new.left (ap (λ l. front_at old.line l) (sym s.past.left) ∙ r.is) s.size r.some
    ∙ ap (λ n. at old.line p ∷ pieces n 0 new.left) (sym s.past.line)

pieces_begin : (line : ℕ) (c : ℕ) (cs : List ℕ) → first cs ≡ Some c → (rest : List Placed) × (pieces line 0 cs ≡ at line (front_at line cs).piece ∷ rest)
unfolding pieces
pieces_begin line c [] h = cc
pieces_begin line c (d ∷ ds) h = (pieces (line_after d line) ((front line d ds).width - 1) ds, refl)

-- line ends
abbrev pub line_ends_in : List ℕ → ℕ
line_ends_in cs = count_by (λ c. c == 10) cs

step_by : (b : Bool) (line n : ℕ) → (if b then line + 1 else line) + n ≡ line + (cond b 1 0 + n)
step_by true line n = omega arith
step_by false line n = omega arith

line_step : (c line n : ℕ) (cs : List ℕ) → n ≡ line_after c line + line_ends_in cs → n ≡ line + line_ends_in (c ∷ cs)
line_step c line n cs e = e ∙ step_by (c == 10) line (line_ends_in cs) ∙ ap (λ k. line + k) (sym (sum_by-cons (λ x. cond (x == 10) 1 0) c cs))

line_past_count : (read rest : List ℕ) (line : ℕ) → line_past read line + line_ends_in rest ≡ line + line_ends_in (read ++ rest)
line_past_count [] rest line = refl
line_past_count (c ∷ cs) rest line = line_step c line (line_past cs (line_after c line) + line_ends_in rest) (cs ++ rest) (line_past_count cs rest (line_after c line))

-- the text has been read so far
pub record Lexing (cs : List ℕ) (cursor : Reading) (layout : Layout) : Type 0 where
  pub same : outcome layout (rest_signs (last_line cs) layout (pieces cursor.line 0 cursor.left)) ≡ record { fault = first_fault (signs_of cs); items = items_of (signs_of cs) }
  pub room : layout.depth + length cursor.left < 2 ^ 20
  pub last : cursor.line + line_ends_in cursor.left ≡ last_line cs

pub lexing_none : (cs : List ℕ) (cursor : Reading) (layout start : Layout) → cursor.left ≡ cs → cursor.line ≡ 1 → length cs ≤ 262144 → layout ≡ start
    → Lexing cs (record { left = cs; line = 1 }) start → Lexing cs cursor layout
lexing_none cs cursor layout start l n m e x =
    let P : Layout → Type 0 = λ k. Lexing cs cursor k in
    let Q : Reading → Type 0 = λ r. Lexing cs r start in
    let is : cursor ≡ record { left = cs; line = 1 } = ap (λ k. record { left = k; line = cursor.line }) l ∙ ap (λ k. record { left = cs; line = k }) n in
    subst P (sym e) (subst Q (sym is) x)

pub lexing_start : (cs : List ℕ) (start : Layout) → length cs ≤ 262144 → Lexing cs (record { left = cs; line = 1 }) (record start { depth = 0; indentations = []; place = Fresh; items = []; tokens = None })
unfolding outcome rest_from
lexing_start cs start m = record { same = refl; room = omega arith; last = refl }

pub nothing_left : (cs : List ℕ) → None ≡ first cs → cs ≡ []
nothing_left [] h = refl
nothing_left (c ∷ cs) h = cc

-- the line of a piece, as the code knows it
pub answer_at : (r : Result Unit LexFault) (line n : ℕ) (p : Piece) (old new : Layout) → line ≡ n → PieceAnswer r (at line p) old new → PieceAnswer r (at n p) old new
answer_at r line n p old new e a = let P : ℕ → Type 0 = λ k. PieceAnswer r (at k p) old new in subst P e a

pub lexing_more : (cs : List ℕ) (p : Piece) (old new : Reading) (layout next : Layout) → Lexing cs old layout → PieceRead p old new → PieceAnswer (Ok tt) (at old.line p) layout next → is_wrong p ≡ false
    → next.depth ≤ layout.depth + 1 → Lexing cs new next
lexing_more cs p old new layout next x r a w o =
    let s : Spanned r.width old new = r.spanned w in
    record {
      same = sym (a (last_line cs) (pieces new.line 0 new.left)) ∙ ap (λ ps. outcome layout (rest_signs (last_line cs) layout ps)) (sym (pieces_next p old new r w)) ∙ x.same;
      room = omega (arith, x.room, ap (λ (l : List ℕ). length l) s.past.left, length-append s.front new.left, s.size, r.some);
      last = ap (λ n. n + line_ends_in new.left) s.past.line ∙ line_past_count s.front new.left old.line ∙ ap (λ l. old.line + line_ends_in l) (sym s.past.left) ∙ x.last;
    }

pub lexing_smaller : (p : Piece) (old new : Reading) → PieceRead p old new → is_wrong p ≡ false → length new.left < length old.left
lexing_smaller p old new r w =
    let s : Spanned r.width old new = r.spanned w in
    omega (arith, ap (λ (l : List ℕ). length l) s.past.left, length-append s.front new.left, s.size, r.some)

-- a fault of a piece is the text's
wrong_first : (cs : List ℕ) (c : ℕ) (p : Piece) (old new : Reading) (layout : Layout) (f : LexFault) → Lexing cs old layout → first old.left ≡ Some c → PieceRead p old new
    → ((last : ℕ) (ps : List Placed) → first_fault (rest_signs last layout (at old.line p ∷ ps)) ≡ Some f) → first_fault (signs_of cs) ≡ Some f
unfolding outcome
wrong_first cs c p old new layout f x h r a =
    let begins : (rest : List Placed) × (pieces old.line 0 old.left ≡ at old.line (front_at old.line old.left).piece ∷ rest) = pieces_begin old.line c old.left h in
    let is : pieces old.line 0 old.left ≡ at old.line p ∷ begins.0 = begins.1 ∙ ap (λ (k : Front). at old.line k.piece ∷ begins.0) r.is in
    sym (ap (λ (o : Outcome). o.fault) x.same) ∙ ap (λ ps. first_fault (rest_signs (last_line cs) layout ps)) is ∙ a (last_line cs) begins.0

pub wrong_gives : (cs : List ℕ) (c : ℕ) (p : Piece) (old new : Reading) (layout next : Layout) (f : LexFault) → Lexing cs old layout → first old.left ≡ Some c → PieceRead p old new
    → PieceAnswer (Err f) (at old.line p) layout next → Gives (Err f) (first_fault (signs_of cs)) (items_of (signs_of cs))
wrong_gives cs c p old new layout next Memory x h r a = tt
wrong_gives cs c p old new layout next (NotUtf8 n) x h r a = wrong_first cs c p old new layout (NotUtf8 n) x h r a
wrong_gives cs c p old new layout next (BadChar n) x h r a = wrong_first cs c p old new layout (BadChar n) x h r a
wrong_gives cs c p old new layout next (BadIndent n) x h r a = wrong_first cs c p old new layout (BadIndent n) x h r a
wrong_gives cs c p old new layout next (BadNumber n) x h r a = wrong_first cs c p old new layout (BadNumber n) x h r a
wrong_gives cs c p old new layout next (BadText n) x h r a = wrong_first cs c p old new layout (BadText n) x h r a
wrong_gives cs c p old new layout next TooLong x h r a = wrong_first cs c p old new layout TooLong x h r a

-- the answer of a `?`
pub gives_of : (r : Result (List Item) LexFault) (f : LexFault) (fault : Option LexFault) (items : List Item) → IsErrAnd r (λ e. e ≡ f) → Gives (Err f) fault items → Gives r fault items
gives_of (Ok u) f fault items h a = absurd h
gives_of (Err e) f fault items h a = let P : LexFault → Type 0 = λ x. Gives (Err x) fault items in subst P (sym h) a

no_fault : (last : ℕ) (stack : List (List ℕ)) → first_fault (all_closed last stack) ≡ None
no_fault last [] = refl
no_fault last (bottom ∷ []) = refl
no_fault last (top ∷ next ∷ below) = no_fault last (next ∷ below)

-- the end of the text
pub end_gives : (cs : List ℕ) (line : ℕ) (cursor : Reading) (layout next : Layout) (items : List Item) → Lexing cs cursor layout → cursor.left ≡ [] → line ≡ cursor.line
    → PieceAnswer (Ok tt) (at line LineEnd) layout next → items ≡ finished next.items next.tokens (all_closed line (stack_of next.indentations))
    → Gives (Ok items) (first_fault (signs_of cs)) (items_of (signs_of cs))
unfolding outcome pieces
end_gives cs line cursor layout next items x e n a i =
    let lasts : last_line cs ≡ line = omega (arith, x.last, ap (λ l. line_ends_in l) e) in
    let rest : List Sign = all_closed (last_line cs) (stack_of next.indentations) in
    let is : outcome next rest ≡ record { fault = first_fault (signs_of cs); items = items_of (signs_of cs) }
    = ap (λ ss. outcome next ss) (sym (rest_end (last_line cs) (is_some next.tokens) (stack_of next.indentations) next.place))
    ∙ sym (a (last_line cs) [])
    ∙ ap (λ k. outcome layout (rest_signs (last_line cs) layout (at k LineEnd ∷ []))) n
    ∙ ap (λ l. outcome layout (rest_signs (last_line cs) layout (pieces cursor.line 0 l))) (sym e)
    ∙ x.same in (
      sym (ap (λ (o : Outcome). o.fault) is) ∙ no_fault (last_line cs) (stack_of next.indentations),
      i ∙ ap (λ k. finished next.items next.tokens (all_closed k (stack_of next.indentations))) (sym lasts) ∙ ap (λ (o : Outcome). o.items) is,
    )
