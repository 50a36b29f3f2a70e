-- A text between quotes: what the definition by cases spells is what is read, and the other way round.
use Rattle.std.proofs.Common.{◌≡◌, ℕ, zero, suc, ◌+◌, ◌<◌, ◌≤◌, List, [], ◌∷◌, ◌++◌, Bool, true, false, not, ◌&&◌, ◌==◌, ◌≢◌, refl, sym, ap, ◌∙◌, arith, subst, length, length-append, append_assoc, take, drop, if◌then◌else◌, Option, Some, None, option_map, true≢false, nat_le}
use Rattle.std.specs.List.{list_all}
use Rattle.std.proofs.Math.Seq.{take-append_seam}
use Rattle.std.proofs.lemmas.List.{take-append-drop}
use Rattle.mon_lexer.specs.Characters.{begins, is_quote}
use Rattle.mon_lexer.specs.Numbers.{is_digit_of, worth}
use Rattle.mon_lexer.specs.Texts.{Escape, escape, hex, simple, Quoted, body, quoted}
use Rattle.mon_lexer.specs.TextReads.{behind}
use Rattle.mon_lexer.specs.Lexemes.{IsHex, IsEscape, line_end, letter, hex_two, hex_four, Inside, closes, plain, escaped, IsText, short, long}
use Rattle.mon_lexer.proofs.Bodies.{closed_at, plain_at, escape_at, line_at, bad_at, skip_at}
use Rattle.mon_lexer.proofs.Escapes.{is_simple}

pub begins_self : (w r : List ℕ) → begins w (w ++ r) ≡ true
begins_self [] r = refl
begins_self (c ∷ w) r = let same : (c == c) ≡ true = grind arith in rw (same, begins_self w r) refl

pub begins_same : (w a r : List ℕ) → length w ≤ length a → begins w (a ++ r) ≡ begins w a
begins_same [] a r h = refl
begins_same (d ∷ w) [] r h = absurd (omega (arith, h))
begins_same (d ∷ w) (c ∷ a) r h = ap (λ b. c == d && b) (begins_same w a r (omega (arith, h)))

and_both : (a b : Bool) → (a && b) ≡ true → (a ≡ true) × (b ≡ true)
and_both true b h = (refl, h)
and_both false b h = absurd (true≢false (sym h))

pub begins_so : (w cs : List ℕ) → begins w cs ≡ true → (r : List ℕ) × (cs ≡ w ++ r)
begins_so [] cs h = (cs, refl)
begins_so (d ∷ w) [] h = absurd (true≢false (sym h))
begins_so (d ∷ w) (c ∷ cs) h =
    let both = and_both (c == d) (begins w cs) h in
    let first : c ≡ d = grind (arith, both.0) in
    let r = begins_so w cs both.1 in
    (r.0, ap (λ z. z ∷ cs) first ∙ ap (λ z. d ∷ z) r.1)

-- escapes
abbrev hex_by : ℕ → List ℕ → Option Escape
hex_by n ds =
    if length ds == n && list_all (λ d. is_digit_of 16 d) ds && not (nat_le 0xD800 (worth 16 0 ds) && nat_le (worth 16 0 ds) 0xDFFF)
    then Some (record { stands_for = worth 16 0 ds ∷ []; width = n + 1 }) else None

hex_is : (n : ℕ) (ds r : List ℕ) → IsHex n ds → hex n (ds ++ r) ≡ Some (record { stands_for = worth 16 0 ds ∷ []; width = n + 1 })
hex_is n ds r h =
    let t : take n (ds ++ r) ≡ ds = ap (λ k. take k (ds ++ r)) (sym h.size) ∙ take-append_seam ds r in
    let size : (length ds == n) ≡ true = grind (arith, h.size) in
    let made : hex_by n ds ≡ Some (record { stands_for = worth 16 0 ds ∷ []; width = n + 1 }) = rw (size, h.digits, h.no_surrogate) refl in
    ap (λ z. hex_by n z) t ∙ made

pub escape_is : (e s r : List ℕ) → IsEscape e s → escape (e ++ r) ≡ Some (record { stands_for = s; width = length e })
unfolding escape
escape_is e s r line_end = refl
escape_is e s r (letter {c} {d} h) =
    is_simple c r (Some d) (λ x. absurd_none d (sym h ∙ ap (λ z. simple z) x)) (λ x. absurd_none d (sym h ∙ ap (λ z. simple z) x)) (λ x. absurd_none d (sym h ∙ ap (λ z. simple z) x)) h
  where
    absurd_none : (d : ℕ) → Some d ≡ None → ⊥
    absurd_none d e = cc
escape_is e s r (hex_two {ds} h) =
    hex_is 2 ds r h ∙ ap (λ n. Some (record { stands_for = worth 16 0 ds ∷ []; width = n })) (omega (arith, h.size))
escape_is e s r (hex_four {ds} h) =
    hex_is 4 ds r h ∙ ap (λ n. Some (record { stands_for = worth 16 0 ds ∷ []; width = n })) (omega (arith, h.size))

record EscapeAt (cs : List ℕ) (r : Escape) : Type 0 where
  word : List ℕ
  rest : List ℕ
  here : cs ≡ word ++ rest
  is : IsEscape word r.stands_for
  size : length word ≡ r.width

hex_so : (n : ℕ) (cs : List ℕ) (r : Escape) (x y z : Bool) → (length (take n cs) == n) ≡ x → list_all (λ d. is_digit_of 16 d) (take n cs) ≡ y → (nat_le 0xD800 (worth 16 0 (take n cs)) && nat_le (worth 16 0 (take n cs)) 0xDFFF) ≡ z
    → (if x && y && not z then Some (record { stands_for = worth 16 0 (take n cs) ∷ []; width = n + 1 }) else None) ≡ Some r
    → IsHex n (take n cs) × (r ≡ record { stands_for = worth 16 0 (take n cs) ∷ []; width = n + 1 })
hex_so n cs r true true false a b c e = (record { size = grind (arith, a); digits = b; no_surrogate = c }, cc)
hex_so n cs r true true true a b c e = cc
hex_so n cs r true false z a b c e = cc
hex_so n cs r false y z a b c e = cc

hex_at : (n x : ℕ) (cs : List ℕ) (r : Escape) → ((ds : List ℕ) → IsHex n ds → IsEscape (x ∷ ds) (worth 16 0 ds ∷ [])) → hex n cs ≡ Some r → EscapeAt (x ∷ cs) r
hex_at n x cs r make e =
    let both = hex_so n cs r (length (take n cs) == n) (list_all (λ d. is_digit_of 16 d) (take n cs)) (nat_le 0xD800 (worth 16 0 (take n cs)) && nat_le (worth 16 0 (take n cs)) 0xDFFF) refl refl refl e in
    let P : Escape → Type 0 = λ z. EscapeAt (x ∷ cs) z in
    subst P (sym both.1) (record {
      word = x ∷ take n cs;
      rest = drop n cs;
      here = ap (λ z. x ∷ z) (sym (take-append-drop n cs));
      is = make (take n cs) both.0;
      size = omega (arith, both.0.size);
    })

simple_at : (c : ℕ) (cs : List ℕ) (r : Escape) (o : Option ℕ) → simple c ≡ o → option_map (λ d. record { stands_for = d ∷ []; width = 1 }) o ≡ Some r → EscapeAt (c ∷ cs) r
simple_at c cs r None h e = cc
simple_at c cs r (Some d) h e =
    let same : r ≡ record { stands_for = d ∷ []; width = 1 } = cc in
    let P : Escape → Type 0 = λ z. EscapeAt (c ∷ cs) z in
    subst P (sym same) (record { word = c ∷ []; rest = cs; here = refl; is = letter h; size = refl })

escape_by : (c : ℕ) (cs : List ℕ) (r : Escape) (x y z : Bool) → (c == 10) ≡ x → (c == 120) ≡ y → (c == 117) ≡ z
    → (if x then Some (record { stands_for = []; width = 1 }) else (if y then hex 2 cs else (if z then hex 4 cs else option_map (λ d. record { stands_for = d ∷ []; width = 1 }) (simple c)))) ≡ Some r
    → EscapeAt (c ∷ cs) r
escape_by c cs r true y z a b d e =
    let same : r ≡ record { stands_for = []; width = 1 } = cc in
    let ten : 10 ≡ c = grind (arith, a) in
    let P : Escape → Type 0 = λ k. EscapeAt (c ∷ cs) k in
    let Q : ℕ → Type 0 = λ k. EscapeAt (k ∷ cs) (record { stands_for = []; width = 1 }) in
    subst P (sym same) (subst Q ten (record { word = 10 ∷ []; rest = cs; here = refl; is = line_end; size = refl }))
escape_by c cs r false true z a b d e =
    let same : 120 ≡ c = grind (arith, b) in
    let Q : ℕ → Type 0 = λ k. EscapeAt (k ∷ cs) r in
    subst Q same (hex_at 2 120 cs r (λ ds h. hex_two h) e)
escape_by c cs r false false true a b d e =
    let same : 117 ≡ c = grind (arith, d) in
    let Q : ℕ → Type 0 = λ k. EscapeAt (k ∷ cs) r in
    subst Q same (hex_at 4 117 cs r (λ ds h. hex_four h) e)
escape_by c cs r false false false a b d e = simple_at c cs r (simple c) refl e

escape_so : (cs : List ℕ) (r : Escape) → escape cs ≡ Some r → EscapeAt cs r
unfolding escape
escape_so [] r e = cc
escape_so (c ∷ cs) r e = escape_by c cs r (c == 10) (c == 120) (c == 117) refl refl refl e

-- the inside of a text
pub inside_long : (closing : List ℕ) {cs v : List ℕ} → Inside closing cs v → length closing ≤ length cs
inside_long closing closes = omega arith
inside_long closing (plain b s l d) = omega (arith, inside_long closing d)
inside_long closing (escaped {e} {s} {cs} x d) = omega (arith, inside_long closing d, length-append e cs)

not_slash : (c : ℕ) → (c == 92) ≡ false → c ≢ 92
not_slash c h = λ e. absurd (grind (arith, h, e))

pub inside_body : (q : ℕ) (qs : List ℕ) {cs v : List ℕ} → (q == 92) ≡ false → Inside (q ∷ qs) cs v → (r : List ℕ) → body (q ∷ qs) 0 (cs ++ r) ≡ Some (record { value = v; width = length cs })
inside_body q qs h closes r = closed_at (q ∷ qs) ((q ∷ qs) ++ r) (omega arith) (begins_self (q ∷ qs) r)
inside_body q qs h (plain {c} {cs} {v} b s l d) r =
    plain_at (q ∷ qs) (cs ++ r) c (begins_same (q ∷ qs) (c ∷ cs) r (omega (arith, inside_long (q ∷ qs) d)) ∙ b) l (not_slash c s)
    ∙ ap (λ o. behind (c ∷ []) 1 o) (inside_body q qs h d r)
    ∙ ap (λ n. Some (record { value = c ∷ v; width = n })) (omega arith)
inside_body q qs h (escaped {e} {s} {cs} {v} x d) r =
    let other : begins (q ∷ qs) (92 ∷ ((e ++ cs) ++ r)) ≡ false = let no : (92 == q) ≡ false = grind (arith, h) in rw no refl in
    let seam : (e ++ cs) ++ r ≡ e ++ (cs ++ r) = append_assoc e cs r in
    escape_at (q ∷ qs) ((e ++ cs) ++ r) 92 (record { stands_for = s; width = length e }) other refl (ap (λ z. escape z) seam ∙ escape_is e s (cs ++ r) x)
    ∙ ap (λ z. behind s 1 (body (q ∷ qs) (length e) z)) seam
    ∙ ap (λ o. behind s 1 o) (skip_at (q ∷ qs) e (cs ++ r))
    ∙ ap (λ o. behind s 1 (behind [] (length e) o)) (inside_body q qs h d r)
    ∙ ap (λ n. Some (record { value = s ++ v; width = n })) (omega (arith, length-append e cs))

record BodyAt (closing cs : List ℕ) (o : Quoted) : Type 0 where
  word : List ℕ
  rest : List ℕ
  here : cs ≡ word ++ rest
  inside : Inside closing word o.value
  size : length word ≡ o.width

pub behind_so : (front : List ℕ) (n : ℕ) (b : Option Quoted) (o : Quoted) → behind front n b ≡ Some o → (q : Quoted) × (b ≡ Some q) × (o ≡ record { value = front ++ q.value; width = n + q.width })
behind_so front n None o e = cc
behind_so front n (Some q) o e = (q, refl, cc)

closed_so : (closing cs : List ℕ) (o : Quoted) → begins closing cs ≡ true → o ≡ record { value = []; width = length closing } → BodyAt closing cs o
closed_so closing cs o b e =
    let r = begins_so closing cs b in
    let P : Quoted → Type 0 = λ z. BodyAt closing cs z in
    subst P (sym e) (record { word = closing; rest = r.0; here = r.1; inside = closes; size = refl })

plain_so : (closing : List ℕ) (c : ℕ) (cs : List ℕ) (q o : Quoted) → begins closing (c ∷ cs) ≡ false → (c == 92) ≡ false → (c == 10 && length closing == 1) ≡ false
    → BodyAt closing cs q → o ≡ record { value = c ∷ q.value; width = 1 + q.width } → BodyAt closing (c ∷ cs) o
plain_so closing c cs q o b s l a e =
    let P : Quoted → Type 0 = λ z. BodyAt closing (c ∷ cs) z in
    let no : begins closing (c ∷ a.word) ≡ false = sym (begins_same closing (c ∷ a.word) a.rest (omega (arith, inside_long closing a.inside))) ∙ ap (λ z. begins closing (c ∷ z)) (sym a.here) ∙ b in
    subst P (sym e) (record { word = c ∷ a.word; rest = a.rest; here = ap (λ z. c ∷ z) a.here; inside = plain no s l a.inside; size = omega (arith, a.size) })

escaped_so : (closing cs : List ℕ) (r : Escape) (x : EscapeAt cs r) (q o : Quoted) → BodyAt closing x.rest q → o ≡ record { value = r.stands_for ++ q.value; width = 1 + (r.width + q.width) } → BodyAt closing (92 ∷ cs) o
escaped_so closing cs r x q o a e =
    let P : Quoted → Type 0 = λ z. BodyAt closing (92 ∷ cs) z in
    subst P (sym e) (record {
      word = 92 ∷ (x.word ++ a.word);
      rest = a.rest;
      here = ap (λ z. 92 ∷ z) (x.here ∙ ap (λ z. x.word ++ z) a.here ∙ sym (append_assoc x.word a.word a.rest));
      inside = escaped x.is a.inside;
      size = omega (arith, length-append x.word a.word, x.size, a.size);
    })

skipped : (closing cs : List ℕ) (r : Escape) (x : EscapeAt cs r) → body closing r.width cs ≡ behind [] r.width (body closing 0 x.rest)
skipped closing cs r x =
    ap (λ k. body closing k cs) (sym x.size) ∙ ap (λ z. body closing (length x.word) z) x.here ∙ skip_at closing x.word x.rest ∙ ap (λ k. behind [] k (body closing 0 x.rest)) x.size

-- what a step of the body finds, where the same is known of shorter texts
Shorter : List ℕ → List ℕ → Type 0
Shorter closing cs = (ds : List ℕ) → length ds < length cs → (o : Quoted) → body closing 0 ds ≡ Some o → BodyAt closing ds o

escape_step : (closing cs : List ℕ) (o : Quoted) (f : Option Escape) → begins closing (92 ∷ cs) ≡ false → escape cs ≡ f → Shorter closing (92 ∷ cs) → body closing 0 (92 ∷ cs) ≡ Some o → BodyAt closing (92 ∷ cs) o
unfolding Shorter
escape_step closing cs o None b f more e = let none : None ≡ Some o = sym (bad_at closing cs 92 b refl f) ∙ e in cc
escape_step closing cs o (Some r) b f more e =
    let x : EscapeAt cs r = escape_so cs r f in
    let outer = behind_so r.stands_for 1 (body closing r.width cs) o (sym (escape_at closing cs 92 r b refl f) ∙ e) in
    let inner = behind_so [] r.width (body closing 0 x.rest) outer.0 (sym (skipped closing cs r x) ∙ outer.1) in
    let is : o ≡ record { value = r.stands_for ++ inner.0.value; width = 1 + (r.width + inner.0.width) } = outer.2 ∙ ap (λ (z : Quoted). record { value = r.stands_for ++ z.value; width = 1 + z.width }) inner.2 in
    let whole : length cs ≡ length x.word + length x.rest = ap (λ (z : List ℕ). length z) x.here ∙ length-append x.word x.rest in
    escaped_so closing cs r x inner.0 o (more x.rest (omega (arith, whole)) inner.0 inner.1) is

body_step : (closing : List ℕ) (c : ℕ) (cs : List ℕ) (o : Quoted) (x y z : Bool) → 0 < length closing → begins closing (c ∷ cs) ≡ x → (c == 10 && length closing == 1) ≡ y → (c == 92) ≡ z
    → Shorter closing (c ∷ cs) → body closing 0 (c ∷ cs) ≡ Some o → BodyAt closing (c ∷ cs) o
unfolding Shorter
body_step closing c cs o true y z h a b d more e =
    let same : Some (record { value = []; width = length closing }) ≡ Some o = sym (closed_at closing (c ∷ cs) h a) ∙ e in
    closed_so closing (c ∷ cs) o a cc
body_step closing c cs o false true z h a b d more e =
    let both = and_both (c == 10) (length closing == 1) b in
    let none : None ≡ Some o = sym (line_at closing cs c a (grind (arith, both.0)) (grind (arith, both.1))) ∙ e in cc
body_step closing c cs o false false true h a b d more e =
    let same : 92 ≡ c = grind (arith, d) in
    let P : ℕ → Type 0 = λ k. begins closing (k ∷ cs) ≡ false → Shorter closing (k ∷ cs) → body closing 0 (k ∷ cs) ≡ Some o → BodyAt closing (k ∷ cs) o in
    subst P same (λ b more e. escape_step closing cs o (escape cs) b refl more e) a more e
body_step closing c cs o false false false h a b d more e =
    let inner = behind_so (c ∷ []) 1 (body closing 0 cs) o (sym (plain_at closing cs c a b (not_slash c d)) ∙ e) in
    plain_so closing c cs inner.0 o a d b (more cs (omega arith) inner.0 inner.1) inner.2

body_upto : (n : ℕ) (closing : List ℕ) → 0 < length closing → (cs : List ℕ) → length cs < n → (o : Quoted) → body closing 0 cs ≡ Some o → BodyAt closing cs o
unfolding body Shorter
body_upto zero closing h cs l o e = absurd (omega (arith, l))
body_upto (suc n) closing h [] l o e = cc
body_upto (suc n) closing h (c ∷ cs) l o e =
    body_step closing c cs o (begins closing (c ∷ cs)) (c == 10 && length closing == 1) (c == 92) h refl refl refl (λ ds k p f. body_upto n closing h ds (omega (arith, k, l)) p f) e

-- a whole text, from behind its first quote
pub record TextAt (q : ℕ) (cs : List ℕ) (o : Quoted) : Type 0 where
  pub word : List ℕ
  pub rest : List ℕ
  pub here : cs ≡ word ++ rest
  pub is : IsText (q ∷ word) o.value
  pub size : length word ≡ o.width

long_so : (q : ℕ) (cs : List ℕ) (o : Quoted) → is_quote q ≡ true → behind [] 1 (behind [] 1 (body (q ∷ q ∷ q ∷ []) 0 cs)) ≡ Some o → TextAt q (q ∷ q ∷ cs) o
long_so q cs o h e =
    let outer = behind_so [] 1 (behind [] 1 (body (q ∷ q ∷ q ∷ []) 0 cs)) o e in
    let inner = behind_so [] 1 (body (q ∷ q ∷ q ∷ []) 0 cs) outer.0 outer.1 in
    let a : BodyAt (q ∷ q ∷ q ∷ []) cs inner.0 = body_upto (length cs + 1) (q ∷ q ∷ q ∷ []) (omega arith) cs (omega arith) inner.0 inner.1 in
    let is : o ≡ record { value = inner.0.value; width = 1 + (1 + inner.0.width) } = outer.2 ∙ ap (λ (z : Quoted). record { value = z.value; width = 1 + z.width }) inner.2 in
    let P : Quoted → Type 0 = λ z. TextAt q (q ∷ q ∷ cs) z in
    subst P (sym is) (record { word = q ∷ q ∷ a.word; rest = a.rest; here = ap (λ z. q ∷ q ∷ z) a.here; is = long h a.inside; size = omega (arith, a.size) })

quoted_by : (q : ℕ) (cs : List ℕ) (o : Quoted) (b : Bool) → begins (q ∷ q ∷ []) cs ≡ b → is_quote q ≡ true → quoted q cs ≡ Some o → TextAt q cs o
quoted_by q cs o true b h e =
    let r = begins_so (q ∷ q ∷ []) cs b in
    let long_form : behind [] 1 (behind [] 1 (body (q ∷ q ∷ q ∷ []) 0 r.0)) ≡ Some o =
    sym (rw (begins_self (q ∷ q ∷ []) r.0) refl) ∙ ap (λ z. quoted q z) (sym r.1) ∙ e in
    let P : List ℕ → Type 0 = λ z. TextAt q z o in
    subst P (sym r.1) (long_so q r.0 o h long_form)
quoted_by q cs o false b h e =
    let short_form : body (q ∷ []) 0 cs ≡ Some o = sym (rw b refl) ∙ e in
    let a : BodyAt (q ∷ []) cs o = body_upto (length cs + 1) (q ∷ []) (omega arith) cs (omega arith) o short_form in
    record { word = a.word; rest = a.rest; here = a.here; is = short h a.inside; size = a.size }

pub quoted_so : (q : ℕ) (cs : List ℕ) (o : Quoted) → is_quote q ≡ true → quoted q cs ≡ Some o → TextAt q cs o
quoted_so q cs o h e = quoted_by q cs o (begins (q ∷ q ∷ []) cs) refl h e

pub quote_no_slash : (q : ℕ) → is_quote q ≡ true → (q == 92) ≡ false
quote_no_slash q h = grind arith

-- what a text spells is read, where three quotes do not begin one with two
pub short_is : (q : ℕ) {cs v : List ℕ} → is_quote q ≡ true → Inside (q ∷ []) cs v → (r : List ℕ) → begins (q ∷ q ∷ []) (cs ++ r) ≡ false → quoted q (cs ++ r) ≡ Some (record { value = v; width = length cs })
short_is q h d r b = rw b (inside_body q [] (quote_no_slash q h) d r)

pub long_is : (q : ℕ) {cs v : List ℕ} → is_quote q ≡ true → Inside (q ∷ q ∷ q ∷ []) cs v → (r : List ℕ) → quoted q (q ∷ q ∷ (cs ++ r)) ≡ Some (record { value = v; width = length (q ∷ q ∷ cs) })
long_is q {cs} {v} h d r =
    let two : begins (q ∷ q ∷ []) (q ∷ q ∷ (cs ++ r)) ≡ true = begins_self (q ∷ q ∷ []) (cs ++ r) in
    rw two (ap (λ o. behind [] 1 (behind [] 1 o)) (inside_body q (q ∷ q ∷ []) (quote_no_slash q h) d r) ∙ ap (λ n. Some (record { value = v; width = n })) (omega arith))
