-- The piece that comes next, by its first character.
use Rattle.std.proofs.Common.{◌≡◌, ℕ, List, [], ◌∷◌, Bool, true, false, ◌==◌, ◌||◌, ◌&&◌, ◌+◌, ◌<◌, Some, None, refl, sym, ap, ◌∙◌, arith, subst, length, lit<}
use Rattle.std.specs.Char.{is_ascii_digit}
use Rattle.mon_lexer.specs.Characters.{is_letter, is_name_char, is_number_char, is_quote, is_blank, is_inside_line, begins_with, run}
use Rattle.mon_lexer.specs.Texts.{quoted}
use Rattle.mon_lexer.specs.TextReads.{TextRead}
use Rattle.mon_lexer.specs.Reading.{Reading, Past, first}
use Rattle.mon_lexer.specs.Pieces.{front, one, name_front, number_front, text_front, operator_front, operator_at, word}
use Rattle.mon_lexer.specs.PieceReads.{PieceRead, OperatorRead, front_at, begins_word}
use Rattle.mon_lexer.specs.declared.piece.Piece.{Piece}
use Rattle.mon_lexer.specs.declared.piece.Piece.TheVariants.{Blank, Joined, Comment, Word, Wrong}
use Rattle.mon_lexer.specs.declared.token.Kind.{Kind}
use Rattle.mon_lexer.specs.declared.token.Kind.TheVariants as kind
use Rattle.mon_lexer.specs.declared.token.Operator.{Operator}
use Rattle.mon_lexer.specs.declared.token.LexFault.TheVariants.{BadChar, BadText}
use Rattle.mon_lexer.proofs.Past.{past_append}

first_is : (c : ℕ) (cs rest : List ℕ) → cs ≡ c ∷ rest → first cs ≡ Some c
first_is c cs rest e = ap (λ l. first l) e

run_some : (test : ℕ → Bool) (c : ℕ) (cs : List ℕ) → first cs ≡ Some c → test c ≡ true → 0 < length (run test cs)
run_some test c [] h t = cc
run_some test c (d ∷ ds) h t =
    let same : d ≡ c = cc in
    let e : test d ≡ true = ap test same ∙ t in
    let f : run test (d ∷ ds) ≡ d ∷ run test ds = rw e refl in
    omega (arith, ap (λ (l : List ℕ). length l) f)

or_true : (a : Bool) → (a || true) ≡ true
or_true true = refl
or_true false = refl

pub letter_name : (c : ℕ) → is_letter c ≡ true → is_name_char c ≡ true
letter_name c t = ap (λ b. b || is_ascii_digit c) t

pub digit_number : (c : ℕ) → is_ascii_digit c ≡ true → is_number_char c ≡ true
digit_number c t = ap (λ b. is_letter c || b || c == 46) t ∙ ap (λ b. b || c == 46) (or_true (is_letter c))

-- which arm of `front` a character takes
pub name_is : (line c : ℕ) (cs : List ℕ) → first cs ≡ Some c → is_letter c ≡ true → front_at line cs ≡ name_front (run is_name_char cs)
unfolding front
name_is line c [] h t = cc
name_is line c (d ∷ ds) h t =
    let same : d ≡ c = cc in
    let e : is_letter d ≡ true = ap (λ x. is_letter x) same ∙ t in
    rw e refl

pub number_is : (line c : ℕ) (cs : List ℕ) → first cs ≡ Some c → is_letter c ≡ false → is_ascii_digit c ≡ true → front_at line cs ≡ number_front line (run is_number_char cs)
unfolding front
number_is line c [] h f t = cc
number_is line c (d ∷ ds) h f t =
    let same : d ≡ c = cc in
    let e0 : is_letter d ≡ false = ap (λ x. is_letter x) same ∙ f in
    let e : is_ascii_digit d ≡ true = ap (λ x. is_ascii_digit x) same ∙ t in
    rw (e0, e) refl

pub text_is : (line c : ℕ) (cs : List ℕ) → is_letter c ≡ false → is_ascii_digit c ≡ false → is_quote c ≡ true → front_at line (c ∷ cs) ≡ text_front line (quoted c cs)
unfolding front
text_is line c cs f g t = rw (f, g, t) refl

-- a name
pub read_name : (c : ℕ) (w : List ℕ) (k : Kind) (old new : Reading) → first old.left ≡ Some c → is_letter c ≡ true → w ≡ run is_name_char old.left → Past w old new → k ≡ word w → PieceRead (Word k) old new
read_name c w k old new h t e p f = record {
  width = length w;
  is = name_is old.line c old.left h t ∙ ap (λ l. name_front l) (sym e) ∙ ap (λ x. record { piece = Word x; width = length w }) (sym f);
  some = let P : List ℕ → Type 0 = λ l. 0 < length l in subst P (sym e) (run_some is_name_char c old.left h (letter_name c t));
  spanned = λ _. record { front = w; size = refl; past = p };
}

-- a number
pub read_number : (c : ℕ) (w : List ℕ) (piece : Piece) (old new : Reading) → first old.left ≡ Some c → is_letter c ≡ false → is_ascii_digit c ≡ true → w ≡ run is_number_char old.left → Past w old new
    → piece ≡ (number_front old.line w).piece → PieceRead piece old new
read_number c w piece old new h f t e p k = record {
  width = length w;
  is = number_is old.line c old.left h f t ∙ ap (λ l. number_front old.line l) (sym e) ∙ ap (λ x. record { piece = x; width = length w }) (sym k);
  some = let P : List ℕ → Type 0 = λ l. 0 < length l in subst P (sym e) (run_some is_number_char c old.left h (digit_number c t));
  spanned = λ _. record { front = w; size = refl; past = p };
}

-- a text
pub read_text : (c : ℕ) (v : List ℕ) (old mid new : Reading) → is_letter c ≡ false → is_ascii_digit c ≡ false → is_quote c ≡ true → Past (c ∷ []) old mid → TextRead c v mid new → PieceRead (Word (kind.Text v)) old new
read_text c v old mid new f g t p r = record {
  width = 1 + r.width;
  is = ap (λ l. front_at old.line l) p.left ∙ text_is old.line c mid.left f g t ∙ ap (λ q. text_front old.line q) r.is;
  some = omega arith;
  spanned = λ _. record { front = c ∷ r.spanned.front; size = omega (arith, r.spanned.size); past = past_append (c ∷ []) r.spanned.front old mid new p r.spanned.past };
}

pub read_no_text : (c : ℕ) (old mid new : Reading) → is_letter c ≡ false → is_ascii_digit c ≡ false → is_quote c ≡ true → Past (c ∷ []) old mid → quoted c mid.left ≡ None → PieceRead (Wrong (BadText old.line)) old new
read_no_text c old mid new f g t p r = record {
  width = 1;
  is = ap (λ l. front_at old.line l) p.left ∙ text_is old.line c mid.left f g t ∙ ap (λ q. text_front old.line q) r;
  some = lit< tt;
  spanned = λ h. cc;
}

-- a piece of one character
pub read_one : (c k : ℕ) (piece : Piece) (old new : Reading) → c ≡ k → ((line : ℕ) (cs : List ℕ) → front line k cs ≡ one piece) → Past (c ∷ []) old new → PieceRead piece old new
read_one c k piece old new e f p = record {
  width = 1;
  is = ap (λ l. front_at old.line l) p.left ∙ ap (λ d. front_at old.line (d ∷ new.left)) e ∙ f old.line new.left;
  some = lit< tt;
  spanned = λ _. record { front = c ∷ []; size = refl; past = p };
}

pub comment_is : (line c : ℕ) (cs : List ℕ) → first cs ≡ Some c → c ≡ 35 → front_at line cs ≡ record { piece = Comment; width = length (run is_inside_line cs) }
unfolding front
comment_is line c [] h e = cc
comment_is line c (d ∷ ds) h e =
    let same : d ≡ 35 = cc in
    ap (λ x. front_at line (x ∷ ds)) same ∙ ap (λ x. record { piece = Comment; width = length (run is_inside_line (x ∷ ds)) }) (sym same)

pub read_comment : (c : ℕ) (old new : Reading) → first old.left ≡ Some c → c ≡ 35 → Past (run is_inside_line old.left) old new → PieceRead Comment old new
read_comment c old new h e p = record {
  width = length (run is_inside_line old.left);
  is = comment_is old.line c old.left h e;
  some = run_some is_inside_line c old.left h (ap (λ x. is_inside_line x) e);
  spanned = λ _. record { front = run is_inside_line old.left; size = refl; past = p };
}

pub joined_is : (line : ℕ) (cs : List ℕ) → front line 92 (10 ∷ cs) ≡ record { piece = Joined; width = 2 }
unfolding front
joined_is line cs = refl

pub read_joined : (c : ℕ) (old mid new : Reading) → c ≡ 92 → Past (c ∷ []) old mid → Past (10 ∷ []) mid new → PieceRead Joined old new
read_joined c old mid new e p q = record {
  width = 2;
  is = ap (λ l. front_at old.line l) p.left ∙ ap (λ d. front_at old.line (d ∷ mid.left)) e ∙ ap (λ l. front old.line 92 l) q.left ∙ joined_is old.line new.left;
  some = lit< tt;
  spanned = λ _. record { front = c ∷ 10 ∷ []; size = refl; past = past_append (c ∷ []) (10 ∷ []) old mid new p q };
}

backslash_is : (line : ℕ) (cs : List ℕ) → begins_with 10 cs ≡ false → front line 92 cs ≡ operator_front line (operator_at (92 ∷ cs))
unfolding front
backslash_is line cs h = rw h refl

pub read_backslash : (c : ℕ) (old mid new : Reading) → c ≡ 92 → Past (c ∷ []) old mid → begins_with 10 mid.left ≡ false → ((cs : List ℕ) → operator_at (92 ∷ cs) ≡ None) → PieceRead (Wrong (BadChar old.line)) old new
read_backslash c old mid new e p h none = record {
  width = 1;
  is = ap (λ l. front_at old.line l) p.left ∙ ap (λ d. front_at old.line (d ∷ mid.left)) e ∙ backslash_is old.line mid.left h ∙ ap (λ o. operator_front old.line o) (none mid.left);
  some = lit< tt;
  spanned = λ h. cc;
}

or_false : (a b : Bool) → (a || b) ≡ false → a ≡ false
or_false true b h = cc
or_false false b h = refl

or_false_after : (a b : Bool) → (a || b) ≡ false → b ≡ false
or_false_after true b h = cc
or_false_after false b h = h

and_false : (a b : Bool) → a ≡ false → (a && b) ≡ false
and_false a b h = ap (λ x. x && b) h

pub other_is : (line c : ℕ) (cs : List ℕ) → first cs ≡ Some c → begins_word c ≡ false → (c == 32) ≡ false → (c == 9) ≡ false → (c == 10) ≡ false → (c == 35) ≡ false → (c == 92) ≡ false
    → front_at line cs ≡ operator_front line (operator_at cs)
unfolding front
other_is line c [] h w e32 e9 e10 e35 e92 = cc
other_is line c (d ∷ ds) h w e32 e9 e10 e35 e92 =
    let same : c ≡ d = cc in
    let words : begins_word d ≡ false = ap (λ x. begins_word x) (sym same) ∙ w in
    let pair : (is_letter d || is_ascii_digit d) ≡ false = or_false (is_letter d || is_ascii_digit d) (is_quote d) words in
    let e0 : is_letter d ≡ false = or_false (is_letter d) (is_ascii_digit d) pair in
    let e1 : is_ascii_digit d ≡ false = or_false_after (is_letter d) (is_ascii_digit d) pair in
    let e2 : is_quote d ≡ false = or_false_after (is_letter d || is_ascii_digit d) (is_quote d) words in
    let d32 : (d == 32) ≡ false = ap (λ x. x == 32) (sym same) ∙ e32 in
    let d9 : (d == 9) ≡ false = ap (λ x. x == 9) (sym same) ∙ e9 in
    let d10 : (d == 10) ≡ false = ap (λ x. x == 10) (sym same) ∙ e10 in
    let d35 : (d == 35) ≡ false = ap (λ x. x == 35) (sym same) ∙ e35 in
    let d92 : (d == 92) ≡ false = ap (λ x. x == 92) (sym same) ∙ e92 in
    rw (e0, e1, e2, d32, d9, d10, d35, d92) refl

pub read_operator : (c : ℕ) (o : Operator) (old new : Reading) → first old.left ≡ Some c → begins_word c ≡ false → (c == 32) ≡ false → (c == 9) ≡ false → (c == 10) ≡ false → (c == 35) ≡ false → (c == 92) ≡ false
    → OperatorRead o old new → PieceRead (Word (kind.Operator o)) old new
read_operator c o old new h w e32 e9 e10 e35 e92 r = record {
  width = length r.spelling;
  is = other_is old.line c old.left h w e32 e9 e10 e35 e92 ∙ ap (λ x. operator_front old.line x) r.is;
  some = r.some;
  spanned = λ _. record { front = r.spelling; size = refl; past = r.past };
}

pub read_no_operator : (c : ℕ) (old new : Reading) → first old.left ≡ Some c → begins_word c ≡ false → (c == 32) ≡ false → (c == 9) ≡ false → (c == 10) ≡ false → (c == 35) ≡ false → (c == 92) ≡ false
    → operator_at old.left ≡ None → PieceRead (Wrong (BadChar old.line)) old new
read_no_operator c old new h w e32 e9 e10 e35 e92 r = record {
  width = 1;
  is = other_is old.line c old.left h w e32 e9 e10 e35 e92 ∙ ap (λ x. operator_front old.line x) r;
  some = lit< tt;
  spanned = λ h. cc;
}

pub blank_is : (line c : ℕ) (cs : List ℕ) → is_letter c ≡ false → is_ascii_digit c ≡ false → is_quote c ≡ false → is_blank c ≡ true → front line c cs ≡ one (Blank c)
unfolding front
blank_is line c cs e0 e1 e2 h = rw (e0, e1, e2, h) refl

pub read_blank : (c : ℕ) (old new : Reading) → begins_word c ≡ false → is_blank c ≡ true → Past (c ∷ []) old new → PieceRead (Blank c) old new
read_blank c old new w h p =
    let pair : (is_letter c || is_ascii_digit c) ≡ false = or_false (is_letter c || is_ascii_digit c) (is_quote c) w in
    record {
      width = 1;
      is = ap (λ l. front_at old.line l) p.left
          ∙ blank_is old.line c new.left (or_false (is_letter c) (is_ascii_digit c) pair) (or_false_after (is_letter c) (is_ascii_digit c) pair) (or_false_after (is_letter c || is_ascii_digit c) (is_quote c) w) h;
      some = lit< tt;
      spanned = λ _. record { front = c ∷ []; size = refl; past = p };
    }
