-- The pieces of a text are those that the cases give, and the cases give them where none is wrong.
use Rattle.std.proofs.Common.{◌≡◌, ℕ, zero, suc, ◌+◌, ◌-◌, ◌<◌, pos, List, [], ◌∷◌, ◌++◌, Bool, true, false, not, ◌&&◌, ◌==◌, refl, sym, ap, ◌∙◌, arith, subst, length, length-append, append-nil, if◌then◌else◌, Option, Some, None, true≢false}
use Rattle.std.specs.List.{list_all}
use Rattle.std.specs.Char.{is_ascii_digit}
use Rattle.mon_lexer.specs.Characters.{is_letter, is_name_char, is_number_char, is_quote, is_blank, is_inside_line, begins_with, line_after, run}
use Rattle.mon_lexer.specs.Numbers.{number_of}
use Rattle.mon_lexer.specs.Reading.{line_past}
use Rattle.mon_lexer.specs.Texts.{Quoted, quoted}
use Rattle.mon_lexer.specs.Pieces.{Front, Placed, front, pieces, one, name_front, number_front, text_front, operator_front, operator_at}
use Rattle.mon_lexer.specs.PieceReads.{front_at, is_wrong}
use Rattle.mon_lexer.specs.Lexemes.{IsText, short, long, IsToken, keyword_is, name_is, number_is, text_is, operator_is, IsNext}
use Rattle.mon_lexer.specs.Lexing.{at, is_at_line_end, Cut, text_end, blank, comment, joins, line_end, word as a_word}
use Rattle.mon_lexer.specs.declared.piece.Piece.{Piece}
use Rattle.mon_lexer.specs.declared.piece.Piece.TheVariants.{Blank, Joined, Comment, LineEnd, Word, Wrong}
use Rattle.mon_lexer.specs.declared.token.Operator.{Operator}
use Rattle.mon_lexer.specs.declared.token.Kind.{Kind}
use Rattle.mon_lexer.specs.declared.token.Kind.TheVariants as kind
use Rattle.mon_lexer.specs.declared.token.LexFault.{LexFault}
use Rattle.mon_lexer.specs.declared.token.LexFault.TheVariants.{BadNumber}
use Rattle.mon_lexer.proofs.Longest.{and_both, run_append, passes, name_first, run_first, operator_symbol, is_symbol, NextAt}
use Rattle.mon_lexer.proofs.Nexts.{front_next, next_front}
use Rattle.mon_lexer.proofs.Cuttings.{pieces_step}
use Rattle.mon_lexer.proofs.Fronts as fronts

passes_some : (f : ℕ → Bool) (w : List ℕ) → passes f w ≡ true → 0 < length w
unfolding passes
passes_some f [] h = cc
passes_some f (c ∷ w) h = omega arith

text_some : (w v : List ℕ) → IsText w v → 0 < length w
text_some w v (short h d) = omega arith
text_some w v (long h d) = omega arith

token_some : (w : List ℕ) (k : Kind) → IsToken w k → 0 < length w
token_some w k (keyword_is h e) = passes_some is_letter w (name_first w h).0
token_some w k (name_is h e) = passes_some is_letter w (name_first w h).0
token_some w k (number_is h e) = passes_some is_ascii_digit w (run_first w h).0
token_some w k (text_is {v} t) = text_some w v t
token_some w k (operator_is {o} h) = passes_some is_symbol w (operator_symbol w o h)

-- a piece, by what was read of the text
step : (line w : ℕ) (p : Piece) (read rest : List ℕ) (ps : List Placed) → front_at line (read ++ rest) ≡ record { piece = p; width = w } → length read ≡ w → 0 < w → pieces (line_past read line) 0 rest ≡ ps
    → pieces line 0 (read ++ rest) ≡ at line p ∷ ps
step line w p read rest ps e n h more = pieces_step line w p read rest e n h ∙ ap (λ z. at line p ∷ z) more

blank_no_letter : (c : ℕ) → is_blank c ≡ true → is_letter c ≡ false
blank_no_letter c h = grind arith

blank_no_digit : (c : ℕ) → is_blank c ≡ true → is_ascii_digit c ≡ false
blank_no_digit c h = grind arith

blank_no_quote : (c : ℕ) → is_blank c ≡ true → is_quote c ≡ false
blank_no_quote c h = grind arith

blank_line : (c line : ℕ) → is_blank c ≡ true → line_after c line ≡ line
blank_line c line h = let e : (c == 10) ≡ false = grind arith in rw e refl

inside_line : (cs : List ℕ) (line : ℕ) → list_all is_inside_line cs ≡ true → line_past cs line ≡ line
inside_line [] line h = refl
inside_line (c ∷ cs) line h =
    let both = and_both (is_inside_line c) (list_all is_inside_line cs) h in
    let e : (c == 10) ≡ false = grind (arith, both.0) in
    let same : line_after c line ≡ line = rw e refl in
    ap (λ n. line_past cs n) same ∙ inside_line cs line both.1

line_end_run : (cs : List ℕ) → is_at_line_end cs ≡ true → run is_inside_line cs ≡ []
line_end_run [] h = refl
line_end_run (c ∷ cs) h = let e : is_inside_line c ≡ false = rw h refl in rw e refl

comment_run : (cs rest : List ℕ) → list_all is_inside_line cs ≡ true → is_at_line_end rest ≡ true → run is_inside_line (35 ∷ (cs ++ rest)) ≡ 35 ∷ cs
comment_run cs rest h e =
    ap (λ z. 35 ∷ z) (run_append is_inside_line cs rest h ∙ ap (λ z. cs ++ z) (line_end_run rest e) ∙ append-nil cs)

word_front : (line : ℕ) (cs w r : List ℕ) (k : Kind) → IsNext cs w k r → front_at line cs ≡ record { piece = Word k; width = length w }
word_front line [] w r k x =
    let none : 0 ≡ length w + length r = ap (λ (z : List ℕ). length z) x.here ∙ length-append w r in
    absurd (omega (arith, none, token_some w k x.token))
word_front line (c ∷ cs) w r k x = next_front line c cs w r k x

pub cut_is : {line : ℕ} {cs : List ℕ} {ps : List Placed} → Cut line cs ps → pieces line 0 cs ≡ ps
unfolding pieces front
cut_is text_end = refl
cut_is (blank {line} {c} {cs} {ps} h d) =
    step line 1 (Blank c) (c ∷ []) cs ps (fronts.blank_is line c cs (blank_no_letter c h) (blank_no_digit c h) (blank_no_quote c h) h) refl (omega arith)
    (ap (λ n. pieces n 0 cs) (blank_line c line h) ∙ cut_is d)
cut_is (comment {line} cs {behind} {ps} h e d) =
    step line (length (35 ∷ cs)) Comment (35 ∷ cs) behind ps
    (fronts.comment_is line 35 (35 ∷ (cs ++ behind)) refl refl ∙ ap (λ z. record { piece = Comment; width = length z }) (comment_run cs behind h e)) refl (omega arith)
    (ap (λ n. pieces n 0 behind) (inside_line cs line h) ∙ cut_is d)
cut_is (joins {line} {cs} {ps} d) = step line 2 Joined (92 ∷ 10 ∷ []) cs ps (fronts.joined_is line cs) refl (omega arith) (cut_is d)
cut_is (line_end {line} {cs} {ps} d) = step line 1 LineEnd (10 ∷ []) cs ps refl refl (omega arith) (cut_is d)
cut_is (a_word {line} {cs} {w} {behind} {k} {ps} x d) =
    ap (λ z. pieces line 0 z) x.here
    ∙ step line (length w) (Word k) w behind ps (ap (λ z. front_at line z) (sym x.here) ∙ word_front line cs w behind k x) refl (token_some w k x.token) (cut_is d)

-- which characters a piece has that is no token
Means : Piece → ℕ → ℕ → List ℕ → Type 0
Means (Blank d) n c cs = (is_blank c ≡ true) × (d ≡ c) × (n ≡ 1)
Means Joined n c cs = (c ≡ 92) × (begins_with 10 cs ≡ true) × (n ≡ 2)
Means Comment n c cs = (c ≡ 35) × (n ≡ length (run is_inside_line (c ∷ cs)))
Means LineEnd n c cs = (c ≡ 10) × (n ≡ 1)
Means (Word k) n c cs = Unit {0}
Means (Wrong f) n c cs = Unit {0}

means_number : (line c n : ℕ) (cs : List ℕ) (v : Option ℕ) → Means (elim v [ None ↦ Wrong (BadNumber line) | Some x ↦ Word (kind.Number (pos x)) ]) n c cs
unfolding Means
means_number line c n cs None = tt
means_number line c n cs (Some v) = tt

means_text : (line c : ℕ) (cs : List ℕ) (q : Option Quoted) → Means (text_front line q).piece (text_front line q).width c cs
unfolding Means
means_text line c cs None = tt
means_text line c cs (Some q) = tt

means_operator : (line c : ℕ) (cs : List ℕ) (o : Option (List ℕ × Operator)) → Means (operator_front line o).piece (operator_front line o).width c cs
unfolding Means
means_operator line c cs None = tt
means_operator line c cs (Some o) = tt

MeansFront : Front → ℕ → List ℕ → Type 0
MeansFront f c cs = Means f.piece f.width c cs

means_by : (line c : ℕ) (cs : List ℕ) (letter digit quote white feed hash slash : Bool) → is_blank c ≡ white → (c == 10) ≡ feed → (c == 35) ≡ hash → (c == 92 && begins_with 10 cs) ≡ slash
    → MeansFront (if letter then name_front (run is_name_char (c ∷ cs))
    else (if digit then number_front line (run is_number_char (c ∷ cs))
    else (if quote then text_front line (quoted c cs)
    else (if white then one (Blank c)
    else (if feed then one LineEnd
    else (if hash then record { piece = Comment; width = length (run is_inside_line (c ∷ cs)) }
    else (if slash then record { piece = Joined; width = 2 }
    else operator_front line (operator_at (c ∷ cs))))))))) c cs
unfolding Means MeansFront
means_by line c cs true digit quote white feed hash slash a b d e = tt
means_by line c cs false true quote white feed hash slash a b d e = means_number line c (length (run is_number_char (c ∷ cs))) cs (number_of (run is_number_char (c ∷ cs)))
means_by line c cs false false true white feed hash slash a b d e = means_text line c cs (quoted c cs)
means_by line c cs false false false true feed hash slash a b d e = (a, refl, refl)
means_by line c cs false false false false true hash slash a b d e = (grind (arith, b), refl)
means_by line c cs false false false false false true slash a b d e = (grind (arith, d), refl)
means_by line c cs false false false false false false true a b d e = let both = and_both (c == 92) (begins_with 10 cs) e in (grind (arith, both.0), both.1, refl)
means_by line c cs false false false false false false false a b d e = means_operator line c cs (operator_at (c ∷ cs))

means : (line c : ℕ) (cs : List ℕ) (p : Piece) (n : ℕ) → front line c cs ≡ record { piece = p; width = n } → Means p n c cs
unfolding front MeansFront
means line c cs p n e =
    let P : Front → Type 0 = λ f. MeansFront f c cs in
    subst P e (means_by line c cs (is_letter c) (is_ascii_digit c) (is_quote c) (is_blank c) (c == 10) (c == 35) (c == 92 && begins_with 10 cs) refl refl refl refl)

-- no piece is wrong
abbrev pub right : Placed → Bool
right p = not (is_wrong p.piece)

abbrev pub AllRight : List Placed → Type 0
AllRight ps = list_all right ps ≡ true

Cuts : ℕ → List ℕ → Type 0
Cuts line cs = AllRight (pieces line 0 cs) → Cut line cs (pieces line 0 cs)

Shorter : List ℕ → Type 0
Shorter cs = (line : ℕ) (ds : List ℕ) → length ds < length cs → Cuts line ds

cut_step : (line w : ℕ) (p : Piece) (cs read rest : List ℕ) → cs ≡ read ++ rest → front_at line cs ≡ record { piece = p; width = w } → length read ≡ w → 0 < w → Shorter cs
    → ((ps : List Placed) → Cut (line_past read line) rest ps → Cut line cs (at line p ∷ ps)) → Cuts line cs
unfolding Cuts Shorter
cut_step line w p cs read rest e f n h shorter make a =
    let is : pieces line 0 cs ≡ at line p ∷ pieces (line_past read line) 0 rest = ap (λ z. pieces line 0 z) e ∙ pieces_step line w p read rest (ap (λ z. front_at line z) (sym e) ∙ f) n h in
    let both = and_both (right (at line p)) (list_all right (pieces (line_past read line) 0 rest)) (ap (λ z. list_all right z) (sym is) ∙ a) in
    let whole : length cs ≡ length read + length rest = ap (λ (z : List ℕ). length z) e ∙ length-append read rest in
    let P : List Placed → Type 0 = λ z. Cut line cs z in
    subst P (sym is) (make (pieces (line_past read line) 0 rest) (shorter (line_past read line) rest (omega (arith, whole, n, h)) both.1))

begins_rest : (c : ℕ) (cs : List ℕ) → begins_with c cs ≡ true → (r : List ℕ) × (cs ≡ c ∷ r)
begins_rest c [] h = cc
begins_rest c (d ∷ ds) h = let same : d ≡ c = grind arith in (ds, ap (λ z. z ∷ ds) same)

comment_rest : (cs : List ℕ) → (w r : List ℕ) × (cs ≡ w ++ r) × (list_all is_inside_line w ≡ true) × (is_at_line_end r ≡ true) × (run is_inside_line cs ≡ w)
comment_rest [] = ([], [], refl, refl, refl, refl)
comment_rest (c ∷ cs) = by_test (c == 10) refl (comment_rest cs)
  where
    by_test : (b : Bool) → (c == 10) ≡ b → (w r : List ℕ) × (cs ≡ w ++ r) × (list_all is_inside_line w ≡ true) × (is_at_line_end r ≡ true) × (run is_inside_line cs ≡ w)
        → (w r : List ℕ) × (c ∷ cs ≡ w ++ r) × (list_all is_inside_line w ≡ true) × (is_at_line_end r ≡ true) × ((if not b then c ∷ run is_inside_line cs else []) ≡ w)
    by_test true h d = ([], c ∷ cs, refl, refl, h, refl)
    by_test false h d = (c ∷ d.0, d.1, ap (λ z. c ∷ z) d.2, rw (h, d.3) refl, d.4, ap (λ z. c ∷ z) d.5)

wrong_at : (line c : ℕ) (cs : List ℕ) (f : LexFault) (n : ℕ) → front line c cs ≡ record { piece = Wrong f; width = n } → Cuts line (c ∷ cs)
unfolding Cuts pieces
wrong_at line c cs f n e a =
    let first : right (at line (front line c cs).piece) ≡ true = (and_both (right (at line (front line c cs).piece)) (list_all right (pieces (line_after c line) ((front line c cs).width - 1) cs)) a).0 in
    absurd (true≢false (sym first ∙ ap (λ (z : Front). right (at line z.piece)) e))

by_piece : (line c : ℕ) (cs : List ℕ) (p : Piece) (n : ℕ) → front line c cs ≡ record { piece = p; width = n } → Shorter (c ∷ cs) → Cuts line (c ∷ cs)
unfolding Means
by_piece line c cs (Blank d) n e shorter =
    let m : (is_blank c ≡ true) × (d ≡ c) × (n ≡ 1) = means line c cs (Blank d) n e in
    let same : front line c cs ≡ record { piece = Blank c; width = 1 } = e ∙ ap (λ z. record { piece = Blank z; width = n }) m.1 ∙ ap (λ z. record { piece = Blank c; width = z }) m.2 in
    let still : line_after c line ≡ line = blank_line c line m.0 in
    cut_step line 1 (Blank c) (c ∷ cs) (c ∷ []) cs refl same refl (omega arith) shorter
    (λ ps x. let P : ℕ → Type 0 = λ z. Cut z cs ps in blank m.0 (subst P still x))
by_piece line c cs LineEnd n e shorter =
    let m : (c ≡ 10) × (n ≡ 1) = means line c cs LineEnd n e in
    let same : front line c cs ≡ record { piece = LineEnd; width = 1 } = e ∙ ap (λ z. record { piece = LineEnd; width = z }) m.1 in
    cut_step line 1 LineEnd (c ∷ cs) (c ∷ []) cs refl same refl (omega arith) shorter
    (λ ps x. let P : ℕ → Type 0 = λ z. Cut (line_after z line) cs ps → Cut line (z ∷ cs) (at line LineEnd ∷ ps) in subst P (sym m.0) (λ y. line_end y) x)
by_piece line c cs Joined n e shorter =
    let m : (c ≡ 92) × (begins_with 10 cs ≡ true) × (n ≡ 2) = means line c cs Joined n e in
    let r = begins_rest 10 cs m.1 in
    let whole : c ∷ cs ≡ 92 ∷ 10 ∷ r.0 = ap (λ z. z ∷ cs) m.0 ∙ ap (λ z. 92 ∷ z) r.1 in
    let P : List ℕ → Type 0 = λ z. Shorter z → Cuts line z in
    subst P (sym whole) (λ s. cut_step line 2 Joined (92 ∷ 10 ∷ r.0) (92 ∷ 10 ∷ []) r.0 refl (fronts.joined_is line r.0) refl (omega arith) s (λ ps x. joins x)) shorter
by_piece line c cs Comment n e shorter =
    let m : (c ≡ 35) × (n ≡ length (run is_inside_line (c ∷ cs))) = means line c cs Comment n e in
    let r = comment_rest cs in
    let whole : c ∷ cs ≡ 35 ∷ (r.0 ++ r.1) = ap (λ z. z ∷ cs) m.0 ∙ ap (λ z. 35 ∷ z) r.2 in
    let still : line_past r.0 line ≡ line = inside_line r.0 line r.3 in
    let P : List ℕ → Type 0 = λ z. Shorter z → Cuts line z in
    subst P (sym whole)
    (λ s. cut_step line (length (35 ∷ r.0)) Comment (35 ∷ (r.0 ++ r.1)) (35 ∷ r.0) r.1 refl
    (fronts.comment_is line 35 (35 ∷ (r.0 ++ r.1)) refl refl ∙ ap (λ z. record { piece = Comment; width = length z }) (comment_run r.0 r.1 r.3 r.4)) refl (omega arith) s
    (λ ps x. let Q : ℕ → Type 0 = λ z. Cut z r.1 ps in comment r.0 r.3 r.4 (subst Q still x)))
    shorter
by_piece line c cs (Word k) n e shorter =
    let a : NextAt (c ∷ cs) k n = front_next line c cs k n e in
    cut_step line n (Word k) (c ∷ cs) a.word a.behind a.next.here e a.size (omega (arith, a.size, token_some a.word k a.next.token)) shorter (λ ps x. a_word a.next x)
by_piece line c cs (Wrong f) n e shorter = wrong_at line c cs f n e

cut_upto : (n line : ℕ) (cs : List ℕ) → length cs < n → Cuts line cs
unfolding Cuts Shorter pieces
cut_upto zero line cs h = absurd (omega (arith, h))
cut_upto (suc n) line [] h = λ a. text_end
cut_upto (suc n) line (c ∷ cs) h = by_piece line c cs (front line c cs).piece (front line c cs).width refl (λ l ds k. cut_upto n l ds (omega (arith, h, k)))

pub cut_so : (line : ℕ) (cs : List ℕ) → AllRight (pieces line 0 cs) → Cut line cs (pieces line 0 cs)
unfolding Cuts
cut_so line cs a = cut_upto (length cs + 1) line cs (omega arith) a
