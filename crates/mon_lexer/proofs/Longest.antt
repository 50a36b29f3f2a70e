-- The piece at a place is the longest token that begins there, and the other way round.
use Rattle.std.proofs.Common.{◌≡◌, ℕ, ◌≤◌, pos, List, [], ◌∷◌, ◌++◌, Bool, true, false, not, ◌&&◌, ◌==◌, refl, sym, ap, ◌∙◌, arith, length, length-append, if◌then◌else◌, Option, Some, None, option_map, true≢false, nat_le, bytes_eq, find}
use Rattle.std.specs.List.{list_all}
use Rattle.std.specs.Char.{is_ascii_digit}
use Rattle.std.proofs.lemmas.List.Folds.{list_all-append}
use Rattle.std.proofs.lemmas.Slice.Eq.{bytes_eq-Decides}
use Rattle.mon_lexer.specs.Characters.{is_letter, is_name_char, is_number_char, is_quote, is_blank, run, begins}
use Rattle.mon_lexer.specs.Numbers.{number_of}
use Rattle.mon_lexer.specs.Words.{operators}
use Rattle.mon_lexer.specs.Pieces.{keyword, word}
use Rattle.mon_lexer.specs.Lexemes.{is_name, is_digit_run, operator_named, short, long, IsToken, keyword_is, name_is, number_is, operator_is, Lexeme, a_name, a_digit_run, a_text, an_opening, an_operator, IsNext}
use Rattle.mon_lexer.specs.declared.token.Keyword.{Keyword}
use Rattle.mon_lexer.specs.declared.token.Operator.{Operator}
use Rattle.mon_lexer.specs.declared.token.Kind.{Kind}
use Rattle.mon_lexer.specs.declared.token.Kind.TheVariants as kind
use Rattle.mon_lexer.proofs.TextLexemes.{begins_self, begins_so}
use Rattle.mon_lexer.proofs.Fronts as fronts

pub and_both : (a b : Bool) → (a && b) ≡ true → (a ≡ true) × (b ≡ true)
and_both true b h = (refl, h)
and_both false b h = absurd (true≢false (sym h))

-- runs
pub run_append : (test : ℕ → Bool) (w r : List ℕ) → list_all test w ≡ true → run test (w ++ r) ≡ w ++ run test r
run_append test [] r h = refl
run_append test (c ∷ w) r h =
    let both = and_both (test c) (list_all test w) h in
    rw both.0 (ap (λ z. c ∷ z) (run_append test w r both.1))

pub run_passes : (test : ℕ → Bool) (cs : List ℕ) → list_all test (run test cs) ≡ true
run_passes test [] = refl
run_passes test (c ∷ cs) = by_test (test c) refl (run_passes test cs)
  where
    by_test : (b : Bool) → test c ≡ b → list_all test (run test cs) ≡ true → list_all test (if b then c ∷ run test cs else []) ≡ true
    by_test true e d = rw (e, d) refl
    by_test false e d = refl

pub run_rest : (test : ℕ → Bool) (cs : List ℕ) → (r : List ℕ) × (cs ≡ run test cs ++ r)
run_rest test [] = ([], refl)
run_rest test (c ∷ cs) = by_test (test c) (run_rest test cs)
  where
    by_test : (b : Bool) → (r : List ℕ) × (cs ≡ run test cs ++ r) → (r : List ℕ) × (c ∷ cs ≡ (if b then c ∷ run test cs else []) ++ r)
    by_test true d = (d.0, ap (λ z. c ∷ z) d.1)
    by_test false d = (c ∷ cs, refl)

pub all_before : (test : ℕ → Bool) (w r : List ℕ) → list_all test w ≡ true → list_all test r ≡ true → list_all test (w ++ r) ≡ true
all_before test w r h k = list_all-append test w r ∙ rw (h, k) refl

pub prefix_same : (a b r s : List ℕ) → a ++ r ≡ b ++ s → length a ≡ length b → (a ≡ b) × (r ≡ s)
prefix_same [] [] r s e h = (refl, e)
prefix_same [] (d ∷ b) r s e h = absurd (omega (arith, h))
prefix_same (c ∷ a) [] r s e h = absurd (omega (arith, h))
prefix_same (c ∷ a) (d ∷ b) r s e h =
    let first : c ≡ d = cc in
    let rest : a ++ r ≡ b ++ s = cc in
    let more = prefix_same a b r s rest (omega (arith, h)) in
    (ap (λ z. z ∷ a) first ∙ ap (λ z. d ∷ z) more.0, more.1)

pub no_length : (l : List ℕ) → length l ≡ 0 → l ≡ []
no_length [] h = refl
no_length (c ∷ l) h = absurd (omega (arith, h))

-- what the first character passes
unfoldable pub passes : (ℕ → Bool) → List ℕ → Bool
passes test [] = false
passes test (c ∷ cs) = test c

pub is_symbol : ℕ → Bool
is_symbol c = not (is_letter c) && not (is_ascii_digit c) && not (is_quote c) && not (is_blank c) && not (c == 10) && not (c == 35) && not (c == 92)

pub passes_front : (test : ℕ → Bool) (l r : List ℕ) → passes test l ≡ true → passes test (l ++ r) ≡ true
unfolding passes
passes_front test [] r h = cc
passes_front test (c ∷ l) r h = h

-- tables
find_so : {X : Type 0} (f : X → Bool) (xs : List X) (x : X) → find f xs ≡ Some x → f x ≡ true
find_so f [] x e = cc
find_so {X} f (z ∷ zs) x e = by_test (f z) refl (find_so f zs x) e
  where
    by_test : (b : Bool) → f z ≡ b → (find f zs ≡ Some x → f x ≡ true) → (if b then Some z else find f zs) ≡ Some x → f x ≡ true
    by_test true h more e = let same : z ≡ x = cc in ap f (sym same) ∙ h
    by_test false h more e = more e

find_all : {X : Type 0} (f t : X → Bool) (xs : List X) (x : X) → find f xs ≡ Some x → list_all t xs ≡ true → t x ≡ true
find_all f t [] x e h = cc
find_all {X} f t (z ∷ zs) x e h = let both = and_both (t z) (list_all t zs) h in by_test (f z) both.0 (λ d. find_all f t zs x d both.1) e
  where
    by_test : (b : Bool) → t z ≡ true → (find f zs ≡ Some x → t x ≡ true) → (if b then Some z else find f zs) ≡ Some x → t x ≡ true
    by_test true k more e = let same : z ≡ x = cc in ap t (sym same) ∙ k
    by_test false k more e = more e

find_same : {X : Type 0} (f g : X → Bool) (xs : List X) (x : X) → find f xs ≡ Some x → g x ≡ true → ((y : X) → g y ≡ true → f y ≡ true) → find g xs ≡ Some x
find_same f g [] x e h k = cc
find_same {X} f g (z ∷ zs) x e h k = by_test (f z) (g z) refl refl (λ d. find_same f g zs x d h k) e
  where
    by_test : (b d : Bool) → f z ≡ b → g z ≡ d → (find f zs ≡ Some x → find g zs ≡ Some x) → (if b then Some z else find f zs) ≡ Some x → (if d then Some z else find g zs) ≡ Some x
    by_test true true p q more e = e
    by_test true false p q more e = let same : z ≡ x = cc in absurd (true≢false (sym h ∙ ap g (sym same) ∙ q))
    by_test false true p q more e = absurd (true≢false (sym (k z q) ∙ p))
    by_test false false p q more e = more e

pub find_some : {X : Type 0} (f g : X → Bool) (xs : List X) (y : X) → find g xs ≡ Some y → f y ≡ true → (x : X) × (find f xs ≡ Some x)
find_some f g [] y e h = cc
find_some {X} f g (z ∷ zs) y e h = by_test (f z) (g z) refl refl (λ d. find_some f g zs y d h) e
  where
    by_test : (b d : Bool) → f z ≡ b → g z ≡ d → (find g zs ≡ Some y → (x : X) × (find f zs ≡ Some x)) → (if d then Some z else find g zs) ≡ Some y → (x : X) × ((if b then Some z else find f zs) ≡ Some x)
    by_test true d p q more e = (z, refl)
    by_test false true p q more e = let same : z ≡ y = cc in absurd (true≢false (sym h ∙ ap f (sym same) ∙ p))
    by_test false false p q more e = more e

pub longest_first : List (List ℕ × Operator) → Bool
longest_first [] = true
longest_first (o ∷ os) = list_all (λ p. nat_le (length p.0) (length o.0)) os && longest_first os

le_of : (a b : ℕ) → nat_le a b ≡ true → a ≤ b
le_of a b h = grind arith

le_same : (a b : ℕ) → a ≡ b → a ≤ b
le_same a b e = omega (arith, e)

pub find_longest : (f g : (List ℕ × Operator) → Bool) (os : List (List ℕ × Operator)) (x y : List ℕ × Operator) → longest_first os ≡ true → find f os ≡ Some x → find g os ≡ Some y → f y ≡ true → length y.0 ≤ length x.0
unfolding longest_first
find_longest f g [] x y h e d k = cc
find_longest f g (z ∷ zs) x y h e d k =
    let both = and_both (list_all (λ p. nat_le (length p.0) (length z.0)) zs) (longest_first zs) h in
    by_test (f z) (g z) refl refl both.0 (λ e d. find_longest f g zs x y both.1 e d k) e d
  where
    by_test : (a b : Bool) → f z ≡ a → g z ≡ b → list_all (λ p. nat_le (length p.0) (length z.0)) zs ≡ true → (find f zs ≡ Some x → find g zs ≡ Some y → length y.0 ≤ length x.0)
        → (if a then Some z else find f zs) ≡ Some x → (if b then Some z else find g zs) ≡ Some y → length y.0 ≤ length x.0
    by_test true true p q l more e d = let same : y ≡ x = cc in le_same (length y.0) (length x.0) (ap (λ o. length o.0) same)
    by_test true false p q l more e d =
        let same : z ≡ x = cc in
        let shorter : nat_le (length y.0) (length z.0) ≡ true = find_all g (λ o. nat_le (length o.0) (length z.0)) zs y d l in
        le_of (length y.0) (length x.0) (ap (λ o. nat_le (length y.0) (length o.0)) (sym same) ∙ shorter)
    by_test false true p q l more e d = let same : z ≡ y = cc in absurd (true≢false (sym k ∙ ap f (sym same) ∙ p))
    by_test false false p q l more e d = more e d

pub operators_sorted : longest_first operators ≡ true
unfolding longest_first operators
operators_sorted = refl

operators_first : list_all (λ o. passes is_symbol o.0) operators ≡ true
unfolding operators passes is_symbol
operators_first = refl

pub record Named (w : List ℕ) (o : Operator) : Type 0 where
  pub row : List ℕ × Operator
  pub found : find (λ p. bytes_eq p.0 w) operators ≡ Some row
  pub name : row.0 ≡ w
  pub is : row.1 ≡ o

named_row : (w : List ℕ) (o : Operator) (f : Option (List ℕ × Operator)) → find (λ p. bytes_eq p.0 w) operators ≡ f → option_map (λ p. p.1) f ≡ Some o → Named w o
named_row w o None e h = cc
named_row w o (Some r) e h = record { row = r; found = e; name = (bytes_eq-Decides r.0 w).0 (find_so (λ p. bytes_eq p.0 w) operators r e); is = cc }

pub named : (w : List ℕ) (o : Operator) → operator_named w ≡ Some o → Named w o
unfolding operator_named
named w o h = named_row w o (find (λ p. bytes_eq p.0 w) operators) refl h

pub operator_symbol : (w : List ℕ) (o : Operator) → operator_named w ≡ Some o → passes is_symbol w ≡ true
operator_symbol w o h =
    let n = named w o h in
    ap (λ z. passes is_symbol z) (sym n.name) ∙ find_all (λ p. bytes_eq p.0 w) (λ p. passes is_symbol p.0) operators n.row n.found operators_first

-- what is found at a place
pub record OperatorAt (cs : List ℕ) (x : List ℕ × Operator) : Type 0 where
  pub rest : List ℕ
  pub here : cs ≡ x.0 ++ rest
  pub is : operator_named x.0 ≡ Some x.1
  pub longest : (w : List ℕ) (o : Operator) (r : List ℕ) → operator_named w ≡ Some o → cs ≡ w ++ r → length w ≤ length x.0

pub operator_found : (cs : List ℕ) (x : List ℕ × Operator) → find (λ o. begins o.0 cs) operators ≡ Some x → OperatorAt cs x
unfolding operator_named
operator_found cs x e =
    let r = begins_so x.0 cs (find_so (λ o. begins o.0 cs) operators x e) in
    let same : (y : List ℕ × Operator) → bytes_eq y.0 x.0 ≡ true → begins y.0 cs ≡ true =
    λ y h. ap (λ z. begins z cs) ((bytes_eq-Decides y.0 x.0).0 h) ∙ find_so (λ o. begins o.0 cs) operators x e in
    record {
      rest = r.0;
      here = r.1;
      is = ap (λ f. option_map (λ (p : List ℕ × Operator). p.1) f) (find_same (λ o. begins o.0 cs) (λ p. bytes_eq p.0 x.0) operators x e ((bytes_eq-Decides x.0 x.0).1 refl) same);
      longest = λ w o s h p.
          let n = named w o h in
          let begun : begins n.row.0 cs ≡ true = ap (λ z. begins z cs) n.name ∙ ap (λ z. begins w z) p ∙ begins_self w s in
          omega (arith, find_longest (λ o. begins o.0 cs) (λ p. bytes_eq p.0 w) operators x n.row operators_sorted e n.found begun, ap (λ (z : List ℕ). length z) n.name);
    }

-- the first character says which lexemes may begin
letter_no_digit : (c : ℕ) → is_letter c ≡ true → is_ascii_digit c ≡ false
letter_no_digit c h = grind arith

pub letter_no_quote : (c : ℕ) → is_letter c ≡ true → is_quote c ≡ false
letter_no_quote c h = grind arith

pub digit_no_quote : (c : ℕ) → is_ascii_digit c ≡ true → is_quote c ≡ false
digit_no_quote c h = grind arith

pub symbol_not : (c : ℕ) → is_symbol c ≡ true → (is_letter c ≡ false) × (is_ascii_digit c ≡ false) × (is_quote c ≡ false) × (is_blank c ≡ false) × ((c == 10) ≡ false) × ((c == 35) ≡ false) × ((c == 92) ≡ false)
unfolding is_symbol
symbol_not c h = by_tests (is_letter c) (is_ascii_digit c) (is_quote c) (is_blank c) (c == 10) (c == 35) (c == 92) h
  where
    by_tests : (a b d e f g i : Bool) → (not a && not b && not d && not e && not f && not g && not i) ≡ true → (a ≡ false) × (b ≡ false) × (d ≡ false) × (e ≡ false) × (f ≡ false) × (g ≡ false) × (i ≡ false)
    by_tests false false false false false false false h = (refl, refl, refl, refl, refl, refl, refl)
    by_tests true b d e f g i h = cc
    by_tests false true d e f g i h = cc
    by_tests false false true e f g i h = cc
    by_tests false false false true f g i h = cc
    by_tests false false false false true g i h = cc
    by_tests false false false false false true i h = cc
    by_tests false false false false false false true h = cc

pub name_first : (w : List ℕ) → is_name w ≡ true → (passes is_letter w ≡ true) × (list_all is_name_char w ≡ true)
unfolding passes
name_first [] h = cc
name_first (c ∷ w) h =
    let both = and_both (is_letter c) (list_all is_name_char w) h in
    (both.0, rw (fronts.letter_name c both.0, both.1) refl)

pub run_first : (w : List ℕ) → is_digit_run w ≡ true → (passes is_ascii_digit w ≡ true) × (list_all is_number_char w ≡ true)
unfolding passes
run_first [] h = cc
run_first (c ∷ w) h =
    let both = and_both (is_ascii_digit c) (list_all is_number_char w) h in
    (both.0, rw (fronts.digit_number c both.0, both.1) refl)

-- a lexeme begins with a letter, a digit, a quote or a symbol
pub data Class (l : List ℕ) : Type 0 where
  of_name : is_name l ≡ true → passes is_letter l ≡ true → Class l
  of_run : is_digit_run l ≡ true → passes is_ascii_digit l ≡ true → Class l
  of_quote : passes is_quote l ≡ true → Class l
  of_symbol : {o : Operator} → operator_named l ≡ Some o → passes is_symbol l ≡ true → Class l

pub class_of : (l : List ℕ) → Lexeme l → Class l
unfolding passes
class_of l (a_name h) = of_name h (name_first l h).0
class_of l (a_digit_run h) = of_run h (run_first l h).0
class_of l (a_text (short q d)) = of_quote q
class_of l (a_text (long q d)) = of_quote q
class_of l (an_opening q) = of_quote q
class_of l (an_operator {w} {o} h) = of_symbol h (operator_symbol w o h)

-- two tests of one character
pub apart : (f g : ℕ → Bool) → ((c : ℕ) → f c ≡ true → g c ≡ false) → (l r cs : List ℕ) → passes f cs ≡ true → passes g l ≡ true → cs ≡ l ++ r → ⊥
unfolding passes
apart f g h [] r cs a b e = cc
apart f g h (c ∷ l) r [] a b e = cc
apart f g h (c ∷ l) r (d ∷ cs) a b e = let same : d ≡ c = cc in absurd (true≢false (sym b ∙ h c (ap f (sym same) ∙ a)))

-- what is next, and how many characters spell it
pub record NextAt (text : List ℕ) (k : Kind) (n : ℕ) : Type 0 where
  pub word : List ℕ
  pub behind : List ℕ
  pub next : IsNext text word k behind
  pub size : length word ≡ n

symbol_no_letter : (c : ℕ) → is_letter c ≡ true → is_symbol c ≡ false
unfolding is_symbol
symbol_no_letter c h = rw h refl

symbol_no_digit : (c : ℕ) → is_ascii_digit c ≡ true → is_symbol c ≡ false
symbol_no_digit c h = by_symbol (is_symbol c) refl
  where
    by_symbol : (b : Bool) → is_symbol c ≡ b → is_symbol c ≡ false
    by_symbol true e = absurd (true≢false (sym h ∙ (symbol_not c e).1))
    by_symbol false e = e

pub symbol_no_quote : (c : ℕ) → is_quote c ≡ true → is_symbol c ≡ false
symbol_no_quote c h = by_symbol (is_symbol c) refl
  where
    by_symbol : (b : Bool) → is_symbol c ≡ b → is_symbol c ≡ false
    by_symbol true e = absurd (true≢false (sym h ∙ (symbol_not c e).2))
    by_symbol false e = e

run_bound : (test : ℕ → Bool) (l r cs : List ℕ) → list_all test l ≡ true → cs ≡ l ++ r → length l ≤ length (run test cs)
run_bound test l r cs h e = omega (arith, ap (λ (z : List ℕ). length (run test z)) e, ap (λ (z : List ℕ). length z) (run_append test l r h), length-append l (run test r))

name_longest : (cs l r : List ℕ) → passes is_letter cs ≡ true → Class l → cs ≡ l ++ r → length l ≤ length (run is_name_char cs)
name_longest cs l r f (of_name h p) e = run_bound is_name_char l r cs (name_first l h).1 e
name_longest cs l r f (of_run h p) e = absurd (apart is_letter is_ascii_digit letter_no_digit l r cs f p e)
name_longest cs l r f (of_quote p) e = absurd (apart is_letter is_quote letter_no_quote l r cs f p e)
name_longest cs l r f (of_symbol h p) e = absurd (apart is_letter is_symbol symbol_no_letter l r cs f p e)

pub letter_no_run : (c : ℕ) → is_ascii_digit c ≡ true → is_letter c ≡ false
letter_no_run c h = grind arith

number_longest : (cs l r : List ℕ) → passes is_ascii_digit cs ≡ true → Class l → cs ≡ l ++ r → length l ≤ length (run is_number_char cs)
number_longest cs l r f (of_name h p) e = absurd (apart is_ascii_digit is_letter letter_no_run l r cs f p e)
number_longest cs l r f (of_run h p) e = run_bound is_number_char l r cs (run_first l h).1 e
number_longest cs l r f (of_quote p) e = absurd (apart is_ascii_digit is_quote digit_no_quote l r cs f p e)
number_longest cs l r f (of_symbol h p) e = absurd (apart is_ascii_digit is_symbol symbol_no_digit l r cs f p e)

name_here : (c : ℕ) (cs : List ℕ) → is_letter c ≡ true → is_name (run is_name_char (c ∷ cs)) ≡ true
name_here c cs h = let first : is_name_char c ≡ true = fronts.letter_name c h in rw first (rw (h, run_passes is_name_char cs) refl)

run_here : (c : ℕ) (cs : List ℕ) → is_ascii_digit c ≡ true → is_digit_run (run is_number_char (c ∷ cs)) ≡ true
run_here c cs h = let first : is_number_char c ≡ true = fronts.digit_number c h in rw first (rw (h, run_passes is_number_char cs) refl)

word_token : (w : List ℕ) (k : Option Keyword) → is_name w ≡ true → keyword w ≡ k → IsToken w (elim k [ None ↦ kind.Name w | Some x ↦ kind.Keyword x ])
word_token w None h e = name_is h e
word_token w (Some k) h e = keyword_is h e

pub name_next : (c : ℕ) (cs : List ℕ) → is_letter c ≡ true → NextAt (c ∷ cs) (word (run is_name_char (c ∷ cs))) (length (run is_name_char (c ∷ cs)))
unfolding passes
name_next c cs h =
    let w : List ℕ = run is_name_char (c ∷ cs) in
    let r = run_rest is_name_char (c ∷ cs) in
    record {
      word = w;
      behind = r.0;
      next = record { here = r.1; token = word_token w (keyword w) (name_here c cs h) refl; longest = λ l s x e. name_longest (c ∷ cs) l s h (class_of l x) e };
      size = refl;
    }

pub number_next : (c : ℕ) (cs : List ℕ) (v : ℕ) → is_ascii_digit c ≡ true → number_of (run is_number_char (c ∷ cs)) ≡ Some v → NextAt (c ∷ cs) (kind.Number (pos v)) (length (run is_number_char (c ∷ cs)))
unfolding passes
number_next c cs v h n =
    let w : List ℕ = run is_number_char (c ∷ cs) in
    let r = run_rest is_number_char (c ∷ cs) in
    record {
      word = w;
      behind = r.0;
      next = record { here = r.1; token = number_is (run_here c cs h) n; longest = λ l s x e. number_longest (c ∷ cs) l s h (class_of l x) e };
      size = refl;
    }

pub operator_next : (cs : List ℕ) (x : List ℕ × Operator) → passes is_symbol cs ≡ true → OperatorAt cs x → NextAt cs (kind.Operator x.1) (length x.0)
operator_next cs x f a = record {
  word = x.0;
  behind = a.rest;
  next = record { here = a.here; token = operator_is a.is; longest = λ l r y e. by_class l r (class_of l y) e };
  size = refl;
}
  where
    by_class : (l r : List ℕ) → Class l → cs ≡ l ++ r → length l ≤ length x.0
    by_class l r (of_name h p) e = absurd (apart is_symbol is_letter (λ c h. (symbol_not c h).0) l r cs f p e)
    by_class l r (of_run h p) e = absurd (apart is_symbol is_ascii_digit (λ c h. (symbol_not c h).1) l r cs f p e)
    by_class l r (of_quote p) e = absurd (apart is_symbol is_quote (λ c h. (symbol_not c h).2) l r cs f p e)
    by_class l r (of_symbol {o} h p) e = a.longest l o r h e
