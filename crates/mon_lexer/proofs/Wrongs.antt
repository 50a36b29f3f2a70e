-- A piece that is wrong breaks a rule wherever it stands.
use Rattle.std.proofs.Common.{◌≡◌, ℕ, zero, suc, List, [], ◌∷◌, ◌++◌, Bool, true, false, refl, sym, ap, ◌∙◌, Some, None}
use Rattle.mon_lexer.specs.Pieces.{Placed}
use Rattle.mon_lexer.specs.Layout.{Sign, Breaks, Start, Shows, in_brackets, lines, open_after, words, signs, first_fault}
use Rattle.mon_lexer.specs.Shown.{rest_from, head_line, tail_lines, begun, begun_started}
use Rattle.mon_lexer.specs.Lexing.{at, is_white}
use Rattle.mon_lexer.specs.declared.layout.Place.{Place}
use Rattle.mon_lexer.specs.declared.layout.Place.TheVariants.{Fresh, Leading, Within}
use Rattle.mon_lexer.specs.declared.piece.Piece.{Piece}
use Rattle.mon_lexer.specs.declared.piece.Piece.TheVariants.{Blank, Joined, Comment, LineEnd, Word, Wrong}
use Rattle.mon_lexer.proofs.Cuts.{AllRight, right}
use Rattle.mon_lexer.proofs.Logicals.{after, white_one}
use Rattle.mon_lexer.proofs.Lines.{lines_within, lines_joined, rest_skipped, rest_white_line, rest_line, rest_begun, sign_of, ends_line}

-- no fault behind signs
fault_behind : (ss ts : List Sign) → first_fault (ss ++ ts) ≡ None → first_fault ts ≡ None
fault_behind [] ts h = h
fault_behind (Start ∷ ss) ts h = fault_behind ss ts h
fault_behind (Shows t ∷ ss) ts h = fault_behind ss ts h
fault_behind (Breaks f ∷ ss) ts h = cc

-- what is left shows no fault, wherever the reading of its first piece stands
Clean : List Placed → Type 0
Clean ps = (last : ℕ) (started : Bool) (stack : List (List ℕ)) (place : Place) (depth : ℕ) → first_fault (rest_from last started stack place (lines (in_brackets depth ps))) ≡ None → AllRight ps

after_word : (last : ℕ) (started : Bool) (stack : List (List ℕ)) (place : Place) (line depth : ℕ) (p : Piece) (ps : List Placed) → is_white (at line p) ≡ false → ends_line p ≡ false
    → first_fault (rest_from last started stack place (lines (in_brackets depth (at line p ∷ ps)))) ≡ None
    → first_fault (sign_of line p ∷ rest_from last (begun_started started place) (begun line started stack place).stack Within (lines (in_brackets (open_after depth p) ps))) ≡ None
unfolding rest_from
after_word last started stack place line depth (Word k) ps h e f =
    let inner : List (List Placed) = lines (in_brackets (open_after depth (Word k)) ps) in
    fault_behind (begun line started stack place).signs (sign_of line (Word k) ∷ (words (head_line inner) ++ signs last (begun_started started place) (begun line started stack place).stack (tail_lines inner)))
    (sym (ap (λ z. first_fault z) (ap (λ z. rest_from last started stack place z) (lines_within depth line (Word k) ps refl) ∙ rest_begun last started stack place line (Word k) (head_line inner) (tail_lines inner) refl)) ∙ f)
after_word last started stack place line depth (Wrong g) ps h e f =
    let inner : List (List Placed) = lines (in_brackets (open_after depth (Wrong g)) ps) in
    fault_behind (begun line started stack place).signs (sign_of line (Wrong g) ∷ (words (head_line inner) ++ signs last (begun_started started place) (begun line started stack place).stack (tail_lines inner)))
    (sym (ap (λ z. first_fault z) (ap (λ z. rest_from last started stack place z) (lines_within depth line (Wrong g) ps refl) ∙ rest_begun last started stack place line (Wrong g) (head_line inner) (tail_lines inner) refl)) ∙ f)
after_word last started stack place line depth (Blank c) ps h e f = cc
after_word last started stack place line depth Joined ps h e f = cc
after_word last started stack place line depth Comment ps h e f = cc
after_word last started stack place line depth LineEnd ps h e f = cc

at_white : (line : ℕ) (p : Piece) (ps : List Placed) → is_white (at line p) ≡ true → right (at line p) ≡ true → Clean ps → Clean (at line p ∷ ps)
unfolding Clean
at_white line p ps h r clean = λ last started stack place depth f.
    rw (r, clean last started stack (after place line p) depth (ap (λ z. first_fault z) (sym (white_one last started stack place line depth p ps h)) ∙ f)) refl

ended : (last : ℕ) (started : Bool) (stack : List (List ℕ)) (place : Place) (line : ℕ) (ps : List Placed) → first_fault (rest_from last started stack place (lines (in_brackets zero (at line LineEnd ∷ ps)))) ≡ None
    → first_fault (rest_from last started stack Fresh (lines (in_brackets zero ps))) ≡ None
ended last started stack Fresh line ps f = ap (λ z. first_fault z) (sym (rest_skipped last started stack line (lines (in_brackets zero ps)))) ∙ f
ended last started stack (Leading n w) line ps f = ap (λ z. first_fault z) (sym (rest_white_line last started stack n w line (lines (in_brackets zero ps)))) ∙ f
ended last started stack Within line ps f = ap (λ z. first_fault z) (sym (rest_line last started stack line (lines (in_brackets zero ps)))) ∙ f

at_end : (line : ℕ) (ps : List Placed) → Clean ps → Clean (at line LineEnd ∷ ps)
unfolding Clean
at_end line ps clean = λ last started stack place depth f. by_depth last started stack place depth f
  where
    by_depth : (last : ℕ) (started : Bool) (stack : List (List ℕ)) (place : Place) (depth : ℕ) → first_fault (rest_from last started stack place (lines (in_brackets depth (at line LineEnd ∷ ps)))) ≡ None → AllRight (at line LineEnd ∷ ps)
    by_depth last started stack place zero f = clean last started stack Fresh zero (ended last started stack place line ps f)
    by_depth last started stack place (suc depth) f =
        clean last started stack (after place line Joined) (suc depth)
        (ap (λ z. first_fault z) (sym (ap (λ z. rest_from last started stack place z) (lines_joined depth line ps) ∙ white_one last started stack place line (suc depth) Joined ps refl)) ∙ f)

at_piece : (line : ℕ) (p : Piece) (ps : List Placed) → Clean ps → Clean (at line p ∷ ps)
unfolding Clean
at_piece line (Blank c) ps clean = at_white line (Blank c) ps refl refl clean
at_piece line Joined ps clean = at_white line Joined ps refl refl clean
at_piece line Comment ps clean = at_white line Comment ps refl refl clean
at_piece line LineEnd ps clean = at_end line ps clean
at_piece line (Word k) ps clean = λ last started stack place depth f.
    clean last (begun_started started place) (begun line started stack place).stack Within (open_after depth (Word k)) (after_word last started stack place line depth (Word k) ps refl refl f)
at_piece line (Wrong g) ps clean = λ last started stack place depth f.
    let none : Some g ≡ None = after_word last started stack place line depth (Wrong g) ps refl refl f in cc

clean_all : (ps : List Placed) → Clean ps
unfolding Clean
clean_all [] = λ last started stack place depth f. refl
clean_all (p ∷ ps) = at_piece p.line p.piece ps (clean_all ps)

pub all_right : (last : ℕ) (started : Bool) (stack : List (List ℕ)) (depth : ℕ) (ps : List Placed) → first_fault (signs last started stack (lines (in_brackets depth ps))) ≡ None → AllRight ps
unfolding Clean rest_from
all_right last started stack depth ps f = clean_all ps last started stack Fresh depth f
