-- Logical lines: what the pieces show is what the cases give, and the cases give it for all pieces of which none is wrong.
use Rattle.std.proofs.Common.{◌≡◌, ℕ, zero, suc, List, [], ◌∷◌, ◌++◌, Bool, true, refl, sym, ap, ◌∙◌, subst, map, append_assoc, append-nil}
use Rattle.std.specs.List.{list_all}
use Rattle.std.proofs.lemmas.List.Folds.{list_all-append}
use Rattle.mon_lexer.specs.Pieces.{Placed}
use Rattle.mon_lexer.specs.Layout.{Sign, Shows, shows, Change, in_brackets, lines, open_after, words, signs, all_closed, indentation, first_line}
use Rattle.mon_lexer.specs.Shown.{rest_from, line_signs, head_line, tail_lines, whitened, blanked, begun, begun_started, indented_from}
use Rattle.mon_lexer.specs.Lexing.{at, token, is_white, Tokens, stops, ends, goes_on, over_white, a_token, LogicalLine, Logical, none, skipped, a_line}
use Rattle.mon_lexer.specs.declared.layout.Place.{Place}
use Rattle.mon_lexer.specs.declared.layout.Place.TheVariants.{Fresh, Leading, Within}
use Rattle.mon_lexer.specs.declared.piece.Piece.{Piece}
use Rattle.mon_lexer.specs.declared.piece.Piece.TheVariants.{Blank, Joined, Comment, LineEnd, Word, Wrong}
use Rattle.mon_lexer.specs.declared.token.Token.{Token}
use Rattle.mon_lexer.specs.declared.token.Kind.{Kind}
use Rattle.mon_lexer.proofs.Longest.{and_both}
use Rattle.mon_lexer.proofs.Cuts.{AllRight, right}
use Rattle.mon_lexer.proofs.Lines.{lines_within, lines_joined, rest_white, rest_blank, rest_begun, rest_end}

-- what logical lines show
abbrev pub showing : ℕ → Bool → List (List ℕ) → List LogicalLine → List Sign
showing last started stack [] = all_closed last stack
showing last started stack (l ∷ ls) =
    (indented_from l.line started stack l.indentation).signs ++ (map Shows l.tokens ++ showing last true (indented_from l.line started stack l.indentation).stack ls)

-- white space, one piece after the other
abbrev pub after : Place → ℕ → Piece → Place
after place line (Blank c) = blanked line c place
after place line _ = whitened line place

abbrev after_all : Place → List Placed → Place
after_all place [] = place
after_all place (p ∷ ps) = after_all (after place p.line p.piece) ps

pub white_one : (last : ℕ) (started : Bool) (stack : List (List ℕ)) (place : Place) (line depth : ℕ) (p : Piece) (ps : List Placed) → is_white (at line p) ≡ true
    → rest_from last started stack place (lines (in_brackets depth (at line p ∷ ps))) ≡ rest_from last started stack (after place line p) (lines (in_brackets depth ps))
white_one last started stack place line depth (Blank c) ps h =
    ap (λ z. rest_from last started stack place z) (lines_within depth line (Blank c) ps refl) ∙ rest_blank last started stack place line c (lines (in_brackets depth ps))
white_one last started stack place line depth Joined ps h =
    ap (λ z. rest_from last started stack place z) (lines_within depth line Joined ps refl) ∙ rest_white last started stack place line Joined (lines (in_brackets depth ps)) refl
white_one last started stack place line depth Comment ps h =
    ap (λ z. rest_from last started stack place z) (lines_within depth line Comment ps refl) ∙ rest_white last started stack place line Comment (lines (in_brackets depth ps)) refl
white_one last started stack place line depth LineEnd ps h = cc
white_one last started stack place line depth (Word k) ps h = cc
white_one last started stack place line depth (Wrong f) ps h = cc

white_all : (last : ℕ) (started : Bool) (stack : List (List ℕ)) (place : Place) (w ps : List Placed) → list_all is_white w ≡ true
    → rest_from last started stack place (lines (in_brackets 0 (w ++ ps))) ≡ rest_from last started stack (after_all place w) (lines (in_brackets 0 ps))
white_all last started stack place [] ps h = refl
white_all last started stack place (p ∷ w) ps h =
    let both = and_both (is_white p) (list_all is_white w) h in
    white_one last started stack place p.line 0 p.piece (w ++ ps) both.0 ∙ white_all last started stack (after place p.line p.piece) w ps both.1

-- the place behind white space
leading_one : (n : ℕ) (u : List ℕ) (line : ℕ) (p : Piece) (w : List Placed) → is_white (at line p) ≡ true → (v : List ℕ) × (after (Leading n u) line p ≡ Leading n (u ++ v)) × (indentation (at line p ∷ w) ≡ v ++ indentation w)
leading_one n u line (Blank c) w h = (c ∷ [], refl, refl)
leading_one n u line Joined w h = ([], ap (λ z. Leading n z) (sym (append-nil u)), refl)
leading_one n u line Comment w h = ([], ap (λ z. Leading n z) (sym (append-nil u)), refl)
leading_one n u line LineEnd w h = cc
leading_one n u line (Word k) w h = cc
leading_one n u line (Wrong f) w h = cc

leading_all : (n : ℕ) (u : List ℕ) (w : List Placed) → list_all is_white w ≡ true → after_all (Leading n u) w ≡ Leading n (u ++ indentation w)
leading_all n u [] h = ap (λ z. Leading n z) (sym (append-nil u))
leading_all n u (p ∷ w) h =
    let both = and_both (is_white p) (list_all is_white w) h in
    let one = leading_one n u p.line p.piece w both.0 in
    ap (λ z. after_all z w) one.1 ∙ leading_all n (u ++ one.0) w both.1 ∙ ap (λ z. Leading n z) (append_assoc u one.0 (indentation w)) ∙ ap (λ z. Leading n (u ++ z)) (sym one.2)

fresh_one : (line : ℕ) (p : Piece) (w : List Placed) → is_white (at line p) ≡ true → (v : List ℕ) × (after Fresh line p ≡ Leading line v) × (indentation (at line p ∷ w) ≡ v ++ indentation w)
fresh_one line (Blank c) w h = (c ∷ [], refl, refl)
fresh_one line Joined w h = ([], refl, refl)
fresh_one line Comment w h = ([], refl, refl)
fresh_one line LineEnd w h = cc
fresh_one line (Word k) w h = cc
fresh_one line (Wrong f) w h = cc

-- a line of white space shows nothing
white_line : (last : ℕ) (started : Bool) (stack : List (List ℕ)) (w : List Placed) (line : ℕ) (ls : List (List Placed)) → list_all is_white w ≡ true
    → rest_from last started stack (after_all Fresh w) ((at line LineEnd ∷ []) ∷ ls) ≡ signs last started stack ls
unfolding rest_from signs line_signs
white_line last started stack [] line ls h = refl
white_line last started stack (p ∷ w) line ls h =
    let both = and_both (is_white p) (list_all is_white w) h in
    let one = fresh_one p.line p.piece w both.0 in
    ap (λ z. rest_from last started stack (after_all z w) ((at line LineEnd ∷ []) ∷ ls)) one.1
    ∙ ap (λ z. rest_from last started stack z ((at line LineEnd ∷ []) ∷ ls)) (leading_all p.line one.0 w both.1)

-- how a line with a token begins
begun_is : (started : Bool) (stack : List (List ℕ)) (w : List Placed) (line : ℕ) (k : Kind) → list_all is_white w ≡ true
    → (begun line started stack (after_all Fresh w) ≡ indented_from (first_line (w ++ at line (Word k) ∷ [])) started stack (indentation w)) × (begun_started started (after_all Fresh w) ≡ true)
begun_is started stack [] line k h = (refl, refl)
begun_is started stack (p ∷ w) line k h =
    let both = and_both (is_white p) (list_all is_white w) h in
    let one = fresh_one p.line p.piece w both.0 in
    let is : after_all Fresh (p ∷ w) ≡ Leading p.line (indentation (p ∷ w)) = ap (λ z. after_all z w) one.1 ∙ leading_all p.line one.0 w both.1 ∙ ap (λ z. Leading p.line z) (sym one.2) in
    (ap (λ z. begun line started stack z) is, ap (λ z. begun_started started z) is)

-- the tokens of a line
within_white : (place : Place) (line : ℕ) (p : Piece) → is_white (at line p) ≡ true → after Within line p ≡ Within
within_white place line (Blank c) h = refl
within_white place line Joined h = refl
within_white place line Comment h = refl
within_white place line LineEnd h = cc
within_white place line (Word k) h = cc
within_white place line (Wrong f) h = cc

word_within : (last : ℕ) (stack : List (List ℕ)) (depth line : ℕ) (k : Kind) (ps : List Placed)
    → rest_from last true stack Within (lines (in_brackets depth (at line (Word k) ∷ ps))) ≡ shows k line ∷ rest_from last true stack Within (lines (in_brackets (open_after depth (Word k)) ps))
unfolding rest_from
word_within last stack depth line k ps = ap (λ z. rest_from last true stack Within z) (lines_within depth line (Word k) ps refl)

tokens_show : (last : ℕ) (stack : List (List ℕ)) {depth : ℕ} {ps rest : List Placed} {ts : List Token} → Tokens depth ps ts rest
    → rest_from last true stack Within (lines (in_brackets depth ps)) ≡ map Shows ts ++ signs last true stack (lines (in_brackets 0 rest))
unfolding rest_from signs
tokens_show last stack stops = refl
tokens_show last stack ends = refl
tokens_show last stack (goes_on {depth} {line} {ps} d) =
    ap (λ z. rest_from last true stack Within z) (lines_joined depth line ps) ∙ white_one last true stack Within line (suc depth) Joined ps refl ∙ tokens_show last stack d
tokens_show last stack (over_white {depth} {p} {ps} h d) =
    white_one last true stack Within p.line depth p.piece ps h ∙ ap (λ z. rest_from last true stack z (lines (in_brackets depth ps))) (within_white Within p.line p.piece h) ∙ tokens_show last stack d
tokens_show last stack (a_token {depth} {line} {k} {ps} d) =
    word_within last stack depth line k ps ∙ ap (λ z. shows k line ∷ z) (tokens_show last stack d)

first_word : (last : ℕ) (started : Bool) (stack : List (List ℕ)) (place : Place) (line : ℕ) (k : Kind) (ps : List Placed) → begun_started started place ≡ true
    → rest_from last started stack place (lines (in_brackets 0 (at line (Word k) ∷ ps)))
    ≡ (begun line started stack place).signs ++ rest_from last true (begun line started stack place).stack Within (lines (in_brackets 0 (at line (Word k) ∷ ps)))
first_word last started stack place line k ps h =
    let c : Change = begun line started stack place in
    let inner : List (List Placed) = lines (in_brackets (open_after 0 (Word k)) ps) in
    ap (λ z. rest_from last started stack place z) (lines_within 0 line (Word k) ps refl)
    ∙ rest_begun last started stack place line (Word k) (head_line inner) (tail_lines inner) refl
    ∙ ap (λ b. c.signs ++ (shows k line ∷ (words (head_line inner) ++ signs last b c.stack (tail_lines inner)))) h
    ∙ ap (λ z. c.signs ++ z) (sym (ap (λ z. rest_from last true c.stack Within z) (lines_within 0 line (Word k) ps refl) ∙ rest_begun last true c.stack Within line (Word k) (head_line inner) (tail_lines inner) refl))

pub logical_shows : (last : ℕ) (started : Bool) (stack : List (List ℕ)) {ps : List Placed} {ls : List LogicalLine} → Logical ps ls → signs last started stack (lines (in_brackets 0 ps)) ≡ showing last started stack ls
unfolding rest_from signs
logical_shows last started stack (none {w} h) =
    ap (λ z. signs last started stack (lines (in_brackets 0 z))) (sym (append-nil w)) ∙ white_all last started stack Fresh w [] h ∙ rest_end last started stack (after_all Fresh w)
logical_shows last started stack (skipped w line {ps} h d) =
    white_all last started stack Fresh w (at line LineEnd ∷ ps) h ∙ white_line last started stack w line (lines (in_brackets 0 ps)) h ∙ logical_shows last started stack d
logical_shows last started stack (a_line w {ps} {rest} {line} {k} {ts} {ls} h x d) =
    let b = begun_is started stack w line k h in
    let c : Change = indented_from (first_line (w ++ at line (Word k) ∷ [])) started stack (indentation w) in
    white_all last started stack Fresh w (at line (Word k) ∷ ps) h
    ∙ first_word last started stack (after_all Fresh w) line k ps b.1
    ∙ ap (λ (z : Change). z.signs ++ rest_from last true z.stack Within (lines (in_brackets 0 (at line (Word k) ∷ ps)))) b.0
    ∙ ap (λ z. c.signs ++ z) (tokens_show last c.stack x ∙ ap (λ z. map Shows ts ++ z) (logical_shows last true c.stack d))

-- pieces of which none is wrong have logical lines
pub record InLines (ps : List Placed) : Type 0 where
  pub lines : List LogicalLine
  pub are : Logical ps lines

record InTokens (depth : ℕ) (ps : List Placed) : Type 0 where
  tokens : List Token
  rest : List Placed
  are : Tokens depth ps tokens rest
  more : InLines rest

record Both (ps : List Placed) : Type 0 where
  leads : (w : List Placed) → list_all is_white w ≡ true → InLines (w ++ ps)
  within : (depth : ℕ) → InTokens depth ps

white_last : (w : List Placed) (p : Placed) → list_all is_white w ≡ true → is_white p ≡ true → list_all is_white (w ++ p ∷ []) ≡ true
white_last w p h k = list_all-append is_white w (p ∷ []) ∙ rw (h, k) refl

at_white : (line : ℕ) (p : Piece) (ps : List Placed) → is_white (at line p) ≡ true → Both ps → Both (at line p ∷ ps)
at_white line p ps k b = record {
  leads = λ w h.
      let r = b.leads (w ++ at line p ∷ []) (white_last w (at line p) h k) in
      let P : List Placed → Type 0 = λ z. InLines z in
      subst P (append_assoc w (at line p ∷ []) ps) r;
  within = λ depth. let r = b.within depth in record { tokens = r.tokens; rest = r.rest; are = over_white k r.are; more = r.more };
}

at_word : (line : ℕ) (k : Kind) (ps : List Placed) → Both ps → Both (at line (Word k) ∷ ps)
at_word line k ps b = record {
  leads = λ w h. let r = b.within (open_after 0 (Word k)) in record { lines = _; are = a_line w h (a_token r.are) r.more.are };
  within = λ depth. let r = b.within (open_after depth (Word k)) in record { tokens = token k line ∷ r.tokens; rest = r.rest; are = a_token r.are; more = r.more };
}

end_within : (line depth : ℕ) (ps : List Placed) → Both ps → InTokens depth (at line LineEnd ∷ ps)
end_within line zero ps b = record { tokens = _; rest = ps; are = ends; more = b.leads [] refl }
end_within line (suc depth) ps b = let r = b.within (suc depth) in record { tokens = r.tokens; rest = r.rest; are = goes_on r.are; more = r.more }

at_end : (line : ℕ) (ps : List Placed) → Both ps → Both (at line LineEnd ∷ ps)
at_end line ps b = record {
  leads = λ w h. let r = b.leads [] refl in record { lines = r.lines; are = skipped w line h r.are };
  within = λ depth. end_within line depth ps b;
}

at_piece : (line : ℕ) (p : Piece) (ps : List Placed) → right (at line p) ≡ true → Both ps → Both (at line p ∷ ps)
at_piece line (Blank c) ps h b = at_white line (Blank c) ps refl b
at_piece line Joined ps h b = at_white line Joined ps refl b
at_piece line Comment ps h b = at_white line Comment ps refl b
at_piece line LineEnd ps h b = at_end line ps b
at_piece line (Word k) ps h b = at_word line k ps b
at_piece line (Wrong f) ps h b = cc

both_of : (ps : List Placed) → AllRight ps → Both ps
both_of [] a = record {
  leads = λ w h. let P : List Placed → Type 0 = λ z. InLines z in subst P (sym (append-nil w)) (record { lines = []; are = none h });
  within = λ depth. record { tokens = []; rest = []; are = stops; more = record { lines = []; are = none refl } };
}
both_of (p ∷ ps) a = let both = and_both (right p) (list_all right ps) a in at_piece p.line p.piece ps both.0 (both_of ps both.1)

pub in_lines : (ps : List Placed) → AllRight ps → InLines ps
in_lines ps a = (both_of ps a).leads [] refl
