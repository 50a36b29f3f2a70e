-- What stands at a place, by its first character: `front` gives the longest token, and the longest token is what `front` gives.
use Rattle.std.proofs.Common.{◌≡◌, ℕ, ◌+◌, ◌≤◌, pos, List, [], ◌∷◌, ◌++◌, Bool, true, false, ◌&&◌, ◌==◌, refl, sym, ap, ◌∙◌, arith, subst, length, length-append, append_assoc, append-nil, drop, if◌then◌else◌, Option, Some, None, true≢false, bytes_eq, find}
use Rattle.std.specs.List.{list_all}
use Rattle.std.specs.Char.{is_ascii_digit}
use Rattle.mon_lexer.specs.Characters.{is_letter, is_name_char, is_number_char, is_quote, is_blank, is_inside_line, begins_with, run, begins}
use Rattle.mon_lexer.specs.Numbers.{number_of}
use Rattle.mon_lexer.specs.Texts.{Quoted, quoted, body}
use Rattle.mon_lexer.specs.Words.{operators}
use Rattle.mon_lexer.specs.Pieces.{Front, front, one, word, name_front, number_front, text_front, operator_front, operator_at}
use Rattle.mon_lexer.specs.PieceReads.{begins_word}
use Rattle.mon_lexer.specs.TextReads.{behind}
use Rattle.mon_lexer.specs.Lexemes.{is_name, is_digit_run, operator_named, Inside, closes, plain, escaped, IsText, short, long, IsToken, keyword_is, name_is, number_is, text_is, operator_is, Lexeme, a_name, a_digit_run, a_text, an_opening, an_operator, IsNext}
use Rattle.mon_lexer.specs.declared.piece.Piece.{Piece}
use Rattle.mon_lexer.specs.declared.piece.Piece.TheVariants.{Blank, Joined, Comment, LineEnd, Word, Wrong}
use Rattle.mon_lexer.specs.declared.token.Operator.{Operator}
use Rattle.mon_lexer.specs.declared.token.Kind.{Kind}
use Rattle.mon_lexer.specs.declared.token.Kind.TheVariants as kind
use Rattle.mon_lexer.specs.declared.token.LexFault.TheVariants.{BadChar, BadNumber, BadText}
use Rattle.mon_lexer.proofs.TextLexemes.{begins_self, begins_so, inside_long, behind_so, TextAt, quoted_so, short_is, long_is, quote_no_slash}
use Rattle.mon_lexer.proofs.Longest.{and_both, run_append, run_passes, run_rest, prefix_same, no_length, passes, passes_front, is_symbol, symbol_not, find_some, named, operator_symbol, OperatorAt, operator_found, letter_no_run, symbol_no_quote, name_first, run_first, apart, all_before, NextAt, name_next, number_next, operator_next}
use Rattle.mon_lexer.proofs.Fronts as fronts

-- texts
inside_quote : (q : ℕ) {cs v : List ℕ} → is_quote q ≡ true → Inside (q ∷ []) cs v → passes (λ c. c == q) cs ≡ true → length cs ≡ 1
unfolding passes
inside_quote q h closes p = refl
inside_quote q h (plain {c} {cs} b s l d) p = absurd (true≢false (sym (rw p refl) ∙ b))
inside_quote q h (escaped x d) p = absurd (grind (arith, quote_no_slash q h, p))

quote_no_letter : (c : ℕ) → is_quote c ≡ true → is_letter c ≡ false
quote_no_letter c h = grind arith

quote_no_digit : (c : ℕ) → is_quote c ≡ true → is_ascii_digit c ≡ false
quote_no_digit c h = grind arith

text_long : (q : ℕ) {w v : List ℕ} → IsText (q ∷ w) v → 1 ≤ length w
text_long q (short h d) = inside_long (q ∷ []) d
text_long q (long h d) = omega arith

begun_width : (q : ℕ) (cs : List ℕ) (o : Quoted) → begins (q ∷ q ∷ []) cs ≡ true → quoted q cs ≡ Some o → 2 ≤ o.width
begun_width q cs o b e =
    let outer = behind_so [] 1 (behind [] 1 (body (q ∷ q ∷ q ∷ []) 0 (drop 2 cs))) o (sym (rw b refl) ∙ e) in
    let inner = behind_so [] 1 (body (q ∷ q ∷ q ∷ []) 0 (drop 2 cs)) outer.0 outer.1 in
    omega (arith, ap (λ (z : Quoted). z.width) outer.2, ap (λ (z : Quoted). z.width) inner.2)

record Splits (q c : ℕ) (cs l r : List ℕ) : Type 0 where
  first : q ≡ c
  rest : cs ≡ l ++ r

splits : (q c : ℕ) (cs l r : List ℕ) → q ∷ cs ≡ (c ∷ l) ++ r → Splits q c cs l r
splits q c cs l r e = record { first = cc; rest = cc }

short_longest : (q : ℕ) (cs : List ℕ) (o : Quoted) (b : Bool) → begins (q ∷ q ∷ []) cs ≡ b → is_quote q ≡ true → quoted q cs ≡ Some o → 1 ≤ o.width
    → (l r v : List ℕ) → Inside (q ∷ []) l v → cs ≡ l ++ r → length l ≤ o.width
unfolding passes
short_longest q cs o false b h e one l r v d p =
    let is : Some o ≡ Some (record { value = v; width = length l }) = sym e ∙ ap (λ z. quoted q z) p ∙ short_is q h d r (ap (λ z. begins (q ∷ q ∷ []) z) (sym p) ∙ b) in
    let same : o ≡ record { value = v; width = length l } = cc in
    omega (arith, ap (λ (z : Quoted). z.width) same)
short_longest q cs o true b h e one l r v d p =
    let g = begins_so (q ∷ q ∷ []) cs b in
    let at_quote : passes (λ c. c == q) l ≡ true = first_of_inside l r g.0 d (sym p ∙ g.1) in
    omega (arith, inside_quote q h d at_quote, one)
  where
    first_of_inside : (l r z : List ℕ) {v : List ℕ} → Inside (q ∷ []) l v → l ++ r ≡ q ∷ q ∷ z → passes (λ c. c == q) l ≡ true
    first_of_inside [] r z d e = let none : 1 ≤ 0 = inside_long (q ∷ []) d in absurd (omega (arith, none))
    first_of_inside (c ∷ l) r z d e = let same : c ≡ q = cc in grind (arith, same)

text_longest : (q : ℕ) (cs : List ℕ) (o : Quoted) → is_quote q ≡ true → quoted q cs ≡ Some o → 1 ≤ o.width → (l r : List ℕ) → Lexeme l → q ∷ cs ≡ l ++ r → length l ≤ 1 + o.width
unfolding passes
text_longest q cs o h e one l r (a_name x) p = absurd (apart is_quote is_letter quote_no_letter l r (q ∷ cs) h (name_first l x).0 p)
text_longest q cs o h e one l r (a_digit_run x) p = absurd (apart is_quote is_ascii_digit quote_no_digit l r (q ∷ cs) h (run_first l x).0 p)
text_longest q cs o h e one l r (an_operator {o = x} y) p = absurd (apart is_quote is_symbol symbol_no_quote l r (q ∷ cs) h (operator_symbol l x y) p)
text_longest q cs o h e one l r (an_opening {q = c} x) p =
    let s = splits q c cs (c ∷ c ∷ []) r p in
    let b : begins (q ∷ q ∷ []) cs ≡ true = ap (λ z. begins (z ∷ z ∷ []) cs) s.first ∙ ap (λ z. begins (c ∷ c ∷ []) z) s.rest ∙ begins_self (c ∷ c ∷ []) r in
    omega (arith, begun_width q cs o b e)
text_longest q cs o h e one l r (a_text (short {q = c} {cs = i} {v} x d)) p =
    let s = splits q c cs i r p in
    let P : ℕ → Type 0 = λ z. Inside (z ∷ []) i v in
    let fits : length i ≤ o.width = short_longest q cs o (begins (q ∷ q ∷ []) cs) refl h e one i r v (subst P (sym s.first) d) s.rest in
    omega (arith, fits)
text_longest q cs o h e one l r (a_text (long {q = c} {cs = i} {v} x d)) p =
    let s = splits q c cs (c ∷ c ∷ i) r p in
    let is : Some o ≡ Some (record { value = v; width = length (c ∷ c ∷ i) }) = sym e ∙ ap (λ z. quoted z cs) s.first ∙ ap (λ z. quoted c z) s.rest ∙ long_is c x d r in
    let same : o ≡ record { value = v; width = length (c ∷ c ∷ i) } = cc in
    omega (arith, ap (λ (z : Quoted). z.width) same)

text_next : (q : ℕ) (cs : List ℕ) (o : Quoted) → is_quote q ≡ true → quoted q cs ≡ Some o → NextAt (q ∷ cs) (kind.Text o.value) (1 + o.width)
text_next q cs o h e =
    let t : TextAt q cs o = quoted_so q cs o h e in
    let one : 1 ≤ o.width = omega (arith, text_long q t.is, t.size) in
    record {
      word = q ∷ t.word;
      behind = t.rest;
      next = record { here = ap (λ z. q ∷ z) t.here; token = text_is t.is; longest = λ l r x p. omega (arith, text_longest q cs o h e one l r x p, t.size) };
      size = omega (arith, t.size);
    }

-- `front` gives the longest token
abbrev front_of : Piece → ℕ → Front
front_of p n = record { piece = p; width = n }

moved : (text : List ℕ) (k j : Kind) (n m : ℕ) (p q : Piece) → NextAt text k n → p ≡ Word k → q ≡ Word j → front_of p n ≡ front_of q m → NextAt text j m
moved text k j n m p q a x y e =
    let pieces : Word k ≡ Word j = sym x ∙ ap (λ (f : Front). f.piece) e ∙ y in
    let kinds : k ≡ j = cc in
    let widths : n ≡ m = ap (λ (f : Front). f.width) e in
    let P : Kind → Type 0 = λ z. NextAt text z n in
    let Q : ℕ → Type 0 = λ z. NextAt text j z in
    subst Q widths (subst P kinds a)

at_number : (line c : ℕ) (cs : List ℕ) (k : Kind) (n : ℕ) (v : Option ℕ) → is_ascii_digit c ≡ true → number_of (run is_number_char (c ∷ cs)) ≡ v
    → front_of (elim v [ None ↦ Wrong (BadNumber line) | Some x ↦ Word (kind.Number (pos x)) ]) (length (run is_number_char (c ∷ cs))) ≡ front_of (Word k) n → NextAt (c ∷ cs) k n
at_number line c cs k n None h f e = let no : Wrong (BadNumber line) ≡ Word k = ap (λ (f : Front). f.piece) e in cc
at_number line c cs k n (Some v) h f e = moved (c ∷ cs) (kind.Number (pos v)) k (length (run is_number_char (c ∷ cs))) n (Word (kind.Number (pos v))) (Word k) (number_next c cs v h f) refl refl e

at_text : (line c : ℕ) (cs : List ℕ) (k : Kind) (n : ℕ) (q : Option Quoted) → is_quote c ≡ true → quoted c cs ≡ q → text_front line q ≡ record { piece = Word k; width = n } → NextAt (c ∷ cs) k n
at_text line c cs k n None h f e = let no : Wrong (BadText line) ≡ Word k = ap (λ (f : Front). f.piece) e in cc
at_text line c cs k n (Some q) h f e = moved (c ∷ cs) (kind.Text q.value) k (1 + q.width) n (Word (kind.Text q.value)) (Word k) (text_next c cs q h f) refl refl e

at_operator : (line c : ℕ) (cs : List ℕ) (k : Kind) (n : ℕ) (x : Option (List ℕ × Operator)) → find (λ o. begins o.0 (c ∷ cs)) operators ≡ x → operator_front line x ≡ record { piece = Word k; width = n } → NextAt (c ∷ cs) k n
at_operator line c cs k n None f e = let no : Wrong (BadChar line) ≡ Word k = ap (λ (f : Front). f.piece) e in cc
at_operator line c cs k n (Some x) f e =
    let a : OperatorAt (c ∷ cs) x = operator_found (c ∷ cs) x f in
    let symbol : passes is_symbol (c ∷ cs) ≡ true = ap (λ z. passes is_symbol z) a.here ∙ passes_front is_symbol x.0 a.rest (operator_symbol x.0 x.1 a.is) in
    moved (c ∷ cs) (kind.Operator x.1) k (length x.0) n (Word (kind.Operator x.1)) (Word k) (operator_next (c ∷ cs) x symbol a) refl refl e

front_by : (line c : ℕ) (cs : List ℕ) (k : Kind) (n : ℕ) (letter digit quote white feed hash slash : Bool) → is_letter c ≡ letter → is_ascii_digit c ≡ digit → is_quote c ≡ quote
    → (if letter then name_front (run is_name_char (c ∷ cs))
    else (if digit then number_front line (run is_number_char (c ∷ cs))
    else (if quote then text_front line (quoted c cs)
    else (if white then one (Blank c)
    else (if feed then one LineEnd
    else (if hash then record { piece = Comment; width = length (run is_inside_line (c ∷ cs)) }
    else (if slash then record { piece = Joined; width = 2 }
    else operator_front line (operator_at (c ∷ cs)))))))))
    ≡ record { piece = Word k; width = n }
    → NextAt (c ∷ cs) k n
unfolding operator_at
front_by line c cs k n true digit quote white feed hash slash a b d e = moved (c ∷ cs) (word (run is_name_char (c ∷ cs))) k (length (run is_name_char (c ∷ cs))) n (Word (word (run is_name_char (c ∷ cs)))) (Word k) (name_next c cs a) refl refl e
front_by line c cs k n false true quote white feed hash slash a b d e = at_number line c cs k n (number_of (run is_number_char (c ∷ cs))) b refl e
front_by line c cs k n false false true white feed hash slash a b d e = at_text line c cs k n (quoted c cs) d refl e
front_by line c cs k n false false false true feed hash slash a b d e = let no : Blank c ≡ Word k = ap (λ (f : Front). f.piece) e in cc
front_by line c cs k n false false false false true hash slash a b d e = let no : LineEnd ≡ Word k = ap (λ (f : Front). f.piece) e in cc
front_by line c cs k n false false false false false true slash a b d e = let no : Comment ≡ Word k = ap (λ (f : Front). f.piece) e in cc
front_by line c cs k n false false false false false false true a b d e = let no : Joined ≡ Word k = ap (λ (f : Front). f.piece) e in cc
front_by line c cs k n false false false false false false false a b d e = at_operator line c cs k n (find (λ o. begins o.0 (c ∷ cs)) operators) refl e

pub front_next : (line c : ℕ) (cs : List ℕ) (k : Kind) (n : ℕ) → front line c cs ≡ record { piece = Word k; width = n } → NextAt (c ∷ cs) k n
unfolding front
front_next line c cs k n e = front_by line c cs k n (is_letter c) (is_ascii_digit c) (is_quote c) (is_blank c) (c == 10) (c == 35) (c == 92 && begins_with 10 cs) refl refl refl e

-- the longest token is what `front` gives
first_passes : (f : ℕ → Bool) (c : ℕ) (cs w r : List ℕ) → c ∷ cs ≡ w ++ r → passes f w ≡ true → f c ≡ true
unfolding passes
first_passes f c cs [] r e h = cc
first_passes f c cs (d ∷ w) r e h = let same : c ≡ d = cc in ap f same ∙ h

run_more : (test : ℕ → Bool) (cs : List ℕ) → (r : List ℕ) × (cs ≡ run test cs ++ r)
run_more test cs = run_rest test cs

exact_run : (test : ℕ → Bool) (cs w r : List ℕ) → list_all test w ≡ true → cs ≡ w ++ r → ((x s : List ℕ) → Lexeme x → cs ≡ x ++ s → length x ≤ length w) → Lexeme (w ++ run test r) → run test cs ≡ w
exact_run test cs w r h e longest x =
    let rest = run_more test r in
    let whole : cs ≡ (w ++ run test r) ++ rest.0 = e ∙ ap (λ z. w ++ z) rest.1 ∙ sym (append_assoc w (run test r) rest.0) in
    let none : run test r ≡ [] = no_length (run test r) (omega (arith, longest (w ++ run test r) rest.0 x whole, length-append w (run test r))) in
    ap (λ z. run test z) e ∙ run_append test w r h ∙ ap (λ z. w ++ z) none ∙ append-nil w

more_name : (w r : List ℕ) → is_name w ≡ true → list_all is_name_char r ≡ true → is_name (w ++ r) ≡ true
more_name [] r h k = cc
more_name (c ∷ w) r h k = let both = and_both (is_letter c) (list_all is_name_char w) h in rw (both.0, all_before is_name_char w r both.1 k) refl

more_run : (w r : List ℕ) → is_digit_run w ≡ true → list_all is_number_char r ≡ true → is_digit_run (w ++ r) ≡ true
more_run [] r h k = cc
more_run (c ∷ w) r h k = let both = and_both (is_ascii_digit c) (list_all is_number_char w) h in rw (both.0, all_before is_number_char w r both.1 k) refl

name_run : (line c : ℕ) (cs w r : List ℕ) → is_name w ≡ true → c ∷ cs ≡ w ++ r → ((x s : List ℕ) → Lexeme x → c ∷ cs ≡ x ++ s → length x ≤ length w) → front line c cs ≡ name_front w
name_run line c cs w r h e longest =
    let both = name_first w h in
    fronts.name_is line c (c ∷ cs) refl (first_passes is_letter c cs w r e both.0)
    ∙ ap (λ z. name_front z) (exact_run is_name_char (c ∷ cs) w r both.1 e longest (a_name (more_name w (run is_name_char r) h (run_passes is_name_char r))))

number_run : (line c : ℕ) (cs w r : List ℕ) → is_digit_run w ≡ true → c ∷ cs ≡ w ++ r → ((x s : List ℕ) → Lexeme x → c ∷ cs ≡ x ++ s → length x ≤ length w) → front line c cs ≡ number_front line w
number_run line c cs w r h e longest =
    let both = run_first w h in
    let digit : is_ascii_digit c ≡ true = first_passes is_ascii_digit c cs w r e both.0 in
    fronts.number_is line c (c ∷ cs) refl (letter_no_run c digit) digit
    ∙ ap (λ z. number_front line z) (exact_run is_number_char (c ∷ cs) w r both.1 e longest (a_digit_run (more_run w (run is_number_char r) h (run_passes is_number_char r))))

no_opening : (q : ℕ) (w r v : List ℕ) (b : Bool) → begins (q ∷ q ∷ []) (w ++ r) ≡ b → is_quote q ≡ true → Inside (q ∷ []) w v
    → ((x s : List ℕ) → Lexeme x → q ∷ (w ++ r) ≡ x ++ s → length x ≤ length (q ∷ w)) → begins (q ∷ q ∷ []) (w ++ r) ≡ false
unfolding passes
no_opening q w r v false b h d longest = b
no_opening q w r v true b h d longest =
    let g = begins_so (q ∷ q ∷ []) (w ++ r) b in
    let three : 3 ≤ length (q ∷ w) = longest (q ∷ q ∷ q ∷ []) g.0 (an_opening h) (ap (λ z. q ∷ z) g.1) in
    absurd (omega (arith, three, inside_quote q h d (at_quote w r g.0 d g.1)))
  where
    at_quote : (l r z : List ℕ) {v : List ℕ} → Inside (q ∷ []) l v → l ++ r ≡ q ∷ q ∷ z → passes (λ c. c == q) l ≡ true
    at_quote [] r z d e = let none : 1 ≤ 0 = inside_long (q ∷ []) d in absurd (omega (arith, none))
    at_quote (c ∷ l) r z d e = let same : c ≡ q = cc in grind (arith, same)

text_run : (line q : ℕ) (w r v : List ℕ) → IsText (q ∷ w) v → ((x s : List ℕ) → Lexeme x → q ∷ (w ++ r) ≡ x ++ s → length x ≤ length (q ∷ w))
    → front line q (w ++ r) ≡ record { piece = Word (kind.Text v); width = length (q ∷ w) }
text_run line q w r v (short h d) longest =
    fronts.text_is line q (w ++ r) (quote_no_letter q h) (quote_no_digit q h) h
    ∙ ap (λ o. text_front line o) (short_is q h d r (no_opening q w r v (begins (q ∷ q ∷ []) (w ++ r)) refl h d longest))
    ∙ ap (λ n. record { piece = Word (kind.Text v); width = n }) (omega arith)
text_run line q w r v (long {cs = i} h d) longest =
    fronts.text_is line q (q ∷ q ∷ (i ++ r)) (quote_no_letter q h) (quote_no_digit q h) h
    ∙ ap (λ o. text_front line o) (long_is q h d r)
    ∙ ap (λ n. record { piece = Word (kind.Text v); width = n }) (omega arith)

not_blank_nine : (c : ℕ) → is_blank c ≡ false → (c == 9) ≡ false
not_blank_nine c h = grind arith

not_blank_space : (c : ℕ) → is_blank c ≡ false → (c == 32) ≡ false
not_blank_space c h = grind arith

operator_run : (line c : ℕ) (cs w r : List ℕ) (o : Operator) → operator_named w ≡ Some o → c ∷ cs ≡ w ++ r → ((x s : List ℕ) → Lexeme x → c ∷ cs ≡ x ++ s → length x ≤ length w)
    → front line c cs ≡ record { piece = Word (kind.Operator o); width = length w }
unfolding operator_at
operator_run line c cs w r o h e longest =
    let n = named w o h in
    let begun : begins n.row.0 (c ∷ cs) ≡ true = ap (λ z. begins z (c ∷ cs)) n.name ∙ ap (λ z. begins w z) e ∙ begins_self w r in
    let x = find_some (λ p. begins p.0 (c ∷ cs)) (λ p. bytes_eq p.0 w) operators n.row n.found begun in
    let a : OperatorAt (c ∷ cs) x.0 = operator_found (c ∷ cs) x.0 x.1 in
    let same : length x.0.0 ≡ length w = omega (arith, longest x.0.0 a.rest (an_operator a.is) a.here, a.longest w o r h e) in
    let words : x.0.0 ≡ w = (prefix_same x.0.0 w a.rest r (sym a.here ∙ e) same).0 in
    let ops : Some x.0.1 ≡ Some o = sym a.is ∙ ap (λ z. operator_named z) words ∙ h in
    let is : x.0.1 ≡ o = cc in
    let s = symbol_not c (first_passes is_symbol c cs w r e (operator_symbol w o h)) in
    let nine : (c == 9) ≡ false = not_blank_nine c s.3 in
    let thirty_two : (c == 32) ≡ false = not_blank_space c s.3 in
    let no_word : begins_word c ≡ false = rw (s.0, s.1, s.2) refl in
    fronts.other_is line c (c ∷ cs) refl no_word thirty_two nine s.4 s.5 s.6
    ∙ ap (λ f. operator_front line f) x.1
    ∙ ap (λ k. record { piece = Word (kind.Operator k); width = length x.0.0 }) is
    ∙ ap (λ k. record { piece = Word (kind.Operator o); width = k }) same

text_at : (line c : ℕ) (cs w r v : List ℕ) → IsText w v → c ∷ cs ≡ w ++ r → ((x s : List ℕ) → Lexeme x → c ∷ cs ≡ x ++ s → length x ≤ length w)
    → front line c cs ≡ record { piece = Word (kind.Text v); width = length w }
text_at line c cs w r v (short {q} {cs = i} h d) e longest =
    let s = splits c q cs i r e in
    ap (λ z. front line z cs) s.first ∙ ap (λ z. front line q z) s.rest
    ∙ text_run line q i r v (short h d) (λ l t x p. longest l t x (e ∙ p))
text_at line c cs w r v (long {q} {cs = i} h d) e longest =
    let s = splits c q cs (q ∷ q ∷ i) r e in
    ap (λ z. front line z cs) s.first ∙ ap (λ z. front line q z) s.rest
    ∙ text_run line q (q ∷ q ∷ i) r v (long h d) (λ l t x p. longest l t x (e ∙ p))

pub next_front : (line c : ℕ) (cs w r : List ℕ) (k : Kind) → IsNext (c ∷ cs) w k r → front line c cs ≡ record { piece = Word k; width = length w }
next_front line c cs w r k x = by_token w k x.token x.here x.longest
  where
    by_token : (w : List ℕ) (k : Kind) → IsToken w k → c ∷ cs ≡ w ++ r → ((l s : List ℕ) → Lexeme l → c ∷ cs ≡ l ++ s → length l ≤ length w) → front line c cs ≡ record { piece = Word k; width = length w }
    by_token w k (keyword_is h f) e longest = name_run line c cs w r h e longest ∙ ap (λ o. record { piece = Word (elim o [ None ↦ kind.Name w | Some j ↦ kind.Keyword j ]); width = length w }) f
    by_token w k (name_is h f) e longest = name_run line c cs w r h e longest ∙ ap (λ o. record { piece = Word (elim o [ None ↦ kind.Name w | Some j ↦ kind.Keyword j ]); width = length w }) f
    by_token w k (number_is h f) e longest = number_run line c cs w r h e longest ∙ ap (λ o. record { piece = elim o [ None ↦ Wrong (BadNumber line) | Some v ↦ Word (kind.Number (pos v)) ]; width = length w }) f
    by_token w k (text_is t) e longest = text_at line c cs w r _ t e longest
    by_token w k (operator_is {o} h) e longest = operator_run line c cs w r o h e longest
