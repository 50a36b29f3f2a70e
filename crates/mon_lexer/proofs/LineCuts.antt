-- A text is cut into its lines in one way.
use Rattle.std.proofs.Common.{◌≡◌, true≢false, ℕ, ◌+◌, ◌<◌, List, [], ◌∷◌, ◌++◌, Bool, true, false, ◌&&◌, ◌==◌, refl, sym, ap, ◌∙◌, arith, subst, map, length, length-append, append_assoc, drop, get_or, IsUtf8, chars, encode_utf8, encode_utf8_all, if◌then◌else◌}
use Rattle.std.specs.List.{list_all}
use Rattle.std.proofs.Math.Seq.{take-append_seam, drop-append_seam, get_or-append_seam}
use Rattle.std.proofs.lemmas.List.Folds.{list_all-append}
use Rattle.std.proofs.lemmas.List.Elements.{All-cons, All-nil}
use Rattle.std.proofs.lemmas.Str.{IsUtf8-take, IsUtf8-drop, IsCharBoundary-before_ascii, IsCharBoundary-after_ascii, chars-append, chars-encodes}
use Rattle.mon_lexer.specs.Characters.{begins_with, line_ends}
use Rattle.mon_lexer.specs.Lines.{is_in_line, IsLine, EndsLine, feed, return_and_feed, return_alone, HasLines, last, more, joined, LinesOnce, LinesOfCharacters}

-- the first line, and the others
record Cut : Type 0 where
  first : List ℕ
  others : List (List ℕ)

abbrev all_of : Cut → List (List ℕ)
all_of k = k.first ∷ k.others

abbrev with_char : ℕ → Cut → Cut
with_char c k = record { first = c ∷ k.first; others = k.others }

abbrev behind_end : Cut → Cut
behind_end k = record { first = []; others = k.first ∷ k.others }

cut : List ℕ → Cut
cut [] = record { first = []; others = [] }
cut (c ∷ cs) =
    if c == 13 then (if begins_with 10 cs then cut cs else behind_end (cut cs))
    else (if c == 10 then behind_end (cut cs) else with_char c (cut cs))

in_line : (c : ℕ) → (c == 10) ≡ false → (c == 13) ≡ false → is_in_line c ≡ true
in_line c e f = rw (e, f) refl

in_line_end : (c : ℕ) → is_in_line c ≡ true → (c == 10) ≡ false
in_line_end c h = grind arith

in_line_return : (c : ℕ) → is_in_line c ≡ true → (c == 13) ≡ false
in_line_return c h = grind arith

line_cons : (c : ℕ) (l : List ℕ) → is_in_line c ≡ true → IsLine l → IsLine (c ∷ l)
line_cons c l h a = rw h a

line_first : (c : ℕ) (l : List ℕ) → IsLine (c ∷ l) → is_in_line c ≡ true
line_first c l a = by_test (is_in_line c) a
  where
    by_test : (b : Bool) → (b && list_all is_in_line l) ≡ true → b ≡ true
    by_test true h = refl
    by_test false h = h

line_rest : (c : ℕ) (l : List ℕ) → IsLine (c ∷ l) → IsLine l
line_rest c l a = by_test (is_in_line c) a
  where
    by_test : (b : Bool) → (b && list_all is_in_line l) ≡ true → list_all is_in_line l ≡ true
    by_test true h = h
    by_test false h = cc

-- one more character before a text
longer : (c : ℕ) (cs : List ℕ) (ls : List (List ℕ)) (l : List ℕ) (others : List (List ℕ)) → ls ≡ l ∷ others → is_in_line c ≡ true → HasLines cs ls → HasLines (c ∷ cs) ((c ∷ l) ∷ others)
longer c cs ls l others e h (last {l = a} x) =
    let first : a ≡ l = cc in
    let none : [] ≡ others = cc in
    let P : List ℕ → Type 0 = λ z. HasLines (c ∷ a) ((c ∷ z) ∷ others) in
    let Q : List (List ℕ) → Type 0 = λ z. HasLines (c ∷ a) ((c ∷ a) ∷ z) in
    subst P first (subst Q none (last (line_cons c a h x)))
longer c cs ls l others e h (more {l = a} {mark = m} {rest = r} {ls = zs} x y d) =
    let first : a ≡ l = cc in
    let rest : zs ≡ others = cc in
    let P : List ℕ → Type 0 = λ z. HasLines (c ∷ (a ++ (m ++ r))) ((c ∷ z) ∷ others) in
    let Q : List (List ℕ) → Type 0 = λ z. HasLines (c ∷ (a ++ (m ++ r))) ((c ∷ a) ∷ z) in
    subst P first (subst Q rest (more {l = c ∷ a} {mark = m} {rest = r} {ls = zs} (line_cons c a h x) y d))

-- a CR before an LF
returned : (cs rest : List ℕ) (ls : List (List ℕ)) → cs ≡ 10 ∷ rest → HasLines cs ls → HasLines (13 ∷ cs) ls
returned cs rest ls e (last {l = []} x) = cc
returned cs rest ls e (last {l = c ∷ l} x) =
    let same : c ≡ 10 = cc in
    let other : (c == 10) ≡ false = in_line_end c (line_first c l x) in
    absurd (grind (arith, same, other))
returned cs rest ls e (more {l = c ∷ l} x y d) =
    let same : c ≡ 10 = cc in
    let other : (c == 10) ≡ false = in_line_end c (line_first c l x) in
    absurd (grind (arith, same, other))
returned cs rest ls e (more {l = []} {ls = zs} x (feed {rest = r}) d) = more {l = []} {mark = 13 ∷ 10 ∷ []} {rest = r} {ls = zs} x return_and_feed d
returned cs rest ls e (more {l = []} x return_and_feed d) =
    let thirteen : ℕ = 13 in let same : thirteen ≡ 10 = cc in absurd (omega (arith, same))
returned cs rest ls e (more {l = []} x (return_alone f) d) =
    let thirteen : ℕ = 13 in let same : thirteen ≡ 10 = cc in absurd (omega (arith, same))

begins_so : (c : ℕ) (cs : List ℕ) → begins_with c cs ≡ true → (rest : List ℕ) × (cs ≡ c ∷ rest)
begins_so c [] h = cc
begins_so c (d ∷ ds) h = let same : d ≡ c = grind arith in (ds, ap (λ z. z ∷ ds) same)

abbrev cut_at : ℕ → List ℕ → Bool → Bool → Bool → Cut
cut_at c cs r f e = if r then (if f then cut cs else behind_end (cut cs)) else (if e then behind_end (cut cs) else with_char c (cut cs))

has_at : (c : ℕ) (cs : List ℕ) (r f e : Bool) → (c == 13) ≡ r → begins_with 10 cs ≡ f → (c == 10) ≡ e → HasLines cs (all_of (cut cs)) → HasLines (c ∷ cs) (all_of (cut_at c cs r f e))
has_at c cs true true e x y z d =
    let same : 13 ≡ c = grind arith in
    let P : ℕ → Type 0 = λ n. HasLines (n ∷ cs) (all_of (cut cs)) in
    let r = begins_so 10 cs y in
    subst P same (returned cs r.0 (all_of (cut cs)) r.1 d)
has_at c cs true false e x y z d =
    let same : 13 ≡ c = grind arith in
    let P : ℕ → Type 0 = λ n. HasLines (n ∷ cs) ([] ∷ all_of (cut cs)) in
    subst P same (more {l = []} {mark = 13 ∷ []} {rest = cs} {ls = all_of (cut cs)} refl (return_alone y) d)
has_at c cs false f true x y z d =
    let same : 10 ≡ c = grind arith in
    let P : ℕ → Type 0 = λ n. HasLines (n ∷ cs) ([] ∷ all_of (cut cs)) in
    subst P same (more {l = []} {mark = 10 ∷ []} {rest = cs} {ls = all_of (cut cs)} refl feed d)
has_at c cs false f false x y z d = longer c cs (all_of (cut cs)) (cut cs).first (cut cs).others refl (in_line c z x) d

has_cut : (cs : List ℕ) → HasLines cs (all_of (cut cs))
unfolding cut
has_cut [] = last refl
has_cut (c ∷ cs) = has_at c cs (c == 13) (begins_with 10 cs) (c == 10) refl refl refl (has_cut cs)

-- a line, its end, and what follows
cut_line : (l : List ℕ) → IsLine l → cut l ≡ record { first = l; others = [] }
unfolding cut
cut_line [] a = refl
cut_line (c ∷ l) a =
    let e : (c == 10) ≡ false = in_line_end c (line_first c l a) in
    let f : (c == 13) ≡ false = in_line_return c (line_first c l a) in
    rw (e, f) (ap (λ k. with_char c k) (cut_line l (line_rest c l a)))

cut_end : (mark rest : List ℕ) → EndsLine mark rest → cut (mark ++ rest) ≡ behind_end (cut rest)
unfolding cut
cut_end mark rest feed = refl
cut_end mark rest return_and_feed = refl
cut_end mark rest (return_alone h) = rw h refl

cut_more : (l rest : List ℕ) (k : Cut) → IsLine l → cut rest ≡ behind_end k → cut (l ++ rest) ≡ record { first = l; others = all_of k }
unfolding cut
cut_more [] rest k a e = e
cut_more (c ∷ l) rest k a h =
    let e : (c == 10) ≡ false = in_line_end c (line_first c l a) in
    let f : (c == 13) ≡ false = in_line_return c (line_first c l a) in
    rw (e, f) (ap (λ z. with_char c z) (cut_more l rest k (line_rest c l a) h))

cut_once : (cs : List ℕ) (ls : List (List ℕ)) → HasLines cs ls → ls ≡ all_of (cut cs)
cut_once cs ls (last {l} a) = ap (λ k. all_of k) (sym (cut_line l a))
cut_once cs ls (more {l} {mark} {rest} {ls = zs} a e d) =
    ap (λ z. l ∷ z) (cut_once rest zs d)
    ∙ ap (λ k. all_of k) (sym (cut_more l (mark ++ rest) (cut rest) a (cut_end mark rest e)))

pub lines_once : LinesOnce
lines_once text = (all_of (cut text), has_cut text, cut_once text)

-- the lines with LF between are the characters with each line end one LF
joined_at : (c : ℕ) (cs : List ℕ) (r f e : Bool) → (c == 10) ≡ e → joined (all_of (cut cs)) ≡ line_ends cs
    → joined (all_of (cut_at c cs r f e)) ≡ (if r then (if f then line_ends cs else 10 ∷ line_ends cs) else c ∷ line_ends cs)
joined_at c cs true true e z d = d
joined_at c cs true false e z d = ap (λ l. 10 ∷ l) d
joined_at c cs false f true z d = let same : 10 ≡ c = grind arith in ap (λ l. 10 ∷ l) d ∙ ap (λ n. n ∷ line_ends cs) same
joined_at c cs false f false z d = ap (λ l. c ∷ l) d

joined_cut : (cs : List ℕ) → joined (all_of (cut cs)) ≡ line_ends cs
unfolding cut line_ends
joined_cut [] = refl
joined_cut (c ∷ cs) = joined_at c cs (c == 13) (begins_with 10 cs) (c == 10) refl (joined_cut cs)

pub joined_is : (cs : List ℕ) (ls : List (List ℕ)) → HasLines cs ls → joined ls ≡ line_ends cs
joined_is cs ls h = ap (λ z. joined z) (cut_once cs ls h) ∙ joined_cut cs

-- lines of bytes and lines of characters
utf8_before : (l rest : List ℕ) (c : ℕ) → c < 128 → IsUtf8 (l ++ c ∷ rest) → IsUtf8 l
utf8_before l rest c h u =
    let e : get_or (l ++ c ∷ rest) (length l) 0 ≡ c = get_or-append_seam l c rest 0 in
    subst IsUtf8 (take-append_seam l (c ∷ rest)) (IsUtf8-take (l ++ c ∷ rest) (length l) u (IsCharBoundary-before_ascii (l ++ c ∷ rest) (length l) (omega (arith, length-append l (c ∷ rest))) (omega (arith, e, h))))

utf8_behind : (l rest : List ℕ) (c : ℕ) → c < 128 → IsUtf8 (l ++ c ∷ rest) → IsUtf8 rest
utf8_behind l rest c h u =
    let e : get_or (l ++ c ∷ rest) (length l) 0 ≡ c = get_or-append_seam l c rest 0 in
    let seam : drop (length l + 1) (l ++ c ∷ rest) ≡ rest = ap (λ n. drop n (l ++ c ∷ rest)) (omega (arith, length-append l (c ∷ []))) ∙ ap (λ z. drop (length (l ++ c ∷ [])) z) (sym (append_assoc l (c ∷ []) rest)) ∙ drop-append_seam (l ++ c ∷ []) rest in
    subst IsUtf8 seam (IsUtf8-drop (l ++ c ∷ rest) (length l + 1) u (IsCharBoundary-after_ascii (l ++ c ∷ rest) (length l) u (omega (arith, length-append l (c ∷ rest))) (omega (arith, e, h))))

-- characters that no line ends are written by bytes that no line ends
char_in_line : (c : ℕ) → list_all is_in_line (encode_utf8 c) ≡ true → is_in_line c ≡ true
unfolding lib.Utf8.encode
char_in_line c h = by_test (c == 10) (c == 13) refl refl
  where
    by_test : (x y : Bool) → (c == 10) ≡ x → (c == 13) ≡ y → is_in_line c ≡ true
    by_test true y e f = let same : c ≡ 10 = grind arith in absurd (true≢false (sym h ∙ ap (λ n. list_all is_in_line (encode_utf8 n)) same))
    by_test false true e f = let same : c ≡ 13 = grind arith in absurd (true≢false (sym h ∙ ap (λ n. list_all is_in_line (encode_utf8 n)) same))
    by_test false false e f = in_line c e f

and_first : (a b : Bool) → (a && b) ≡ true → a ≡ true
and_first true b h = refl
and_first false b h = h

and_second : (a b : Bool) → (a && b) ≡ true → b ≡ true
and_second true b h = h
and_second false b h = cc

chars_in_line : (cs : List ℕ) → IsLine (encode_utf8_all cs) → IsLine cs
chars_in_line [] h = refl
chars_in_line (c ∷ cs) h =
    let both : (list_all is_in_line (encode_utf8 c) && list_all is_in_line (encode_utf8_all cs)) ≡ true = sym (list_all-append is_in_line (encode_utf8 c) (encode_utf8_all cs)) ∙ h in
    line_cons c cs (char_in_line c (and_first (list_all is_in_line (encode_utf8 c)) (list_all is_in_line (encode_utf8_all cs)) both))
    (chars_in_line cs (and_second (list_all is_in_line (encode_utf8 c)) (list_all is_in_line (encode_utf8_all cs)) both))

line_of_chars : (l : List ℕ) → IsUtf8 l → IsLine l → IsLine (chars l)
line_of_chars l u a =
    let is : chars l ≡ u.0 = ap (λ z. chars z) (sym u.1.1) ∙ chars-encodes u.0 u.1.0 in
    let P : List ℕ → Type 0 = λ z. IsLine z in
    subst P (sym is) (chars_in_line u.0 (subst P (sym u.1.1) a))

no_feed : (cs : List ℕ) → begins_with 10 (encode_utf8_all cs) ≡ false → begins_with 10 cs ≡ false
unfolding lib.Utf8.encode
no_feed [] h = refl
no_feed (c ∷ cs) h = by_test (c == 10) refl
  where
    by_test : (x : Bool) → (c == 10) ≡ x → (c == 10) ≡ false
    by_test true e = let same : c ≡ 10 = grind arith in absurd (true≢false (sym (ap (λ n. begins_with 10 (encode_utf8 n ++ encode_utf8_all cs)) same) ∙ h))
    by_test false e = e

chars_no_feed : (l : List ℕ) → IsUtf8 l → begins_with 10 l ≡ false → begins_with 10 (chars l) ≡ false
chars_no_feed l u h =
    let is : chars l ≡ u.0 = ap (λ z. chars z) (sym u.1.1) ∙ chars-encodes u.0 u.1.0 in
    ap (λ z. begins_with 10 z) is ∙ no_feed u.0 (ap (λ z. begins_with 10 z) u.1.1 ∙ h)

mark_chars : (mark rest : List ℕ) → EndsLine mark rest → chars (mark ++ rest) ≡ mark ++ chars rest
unfolding lib.Utf8.encode
mark_chars mark rest feed = chars-append (10 ∷ []) rest (10 ∷ [], (refl, refl)) ∙ ap (λ z. z ++ chars rest) (chars-encodes (10 ∷ []) refl)
mark_chars mark rest return_and_feed = chars-append (13 ∷ 10 ∷ []) rest (13 ∷ 10 ∷ [], (refl, refl)) ∙ ap (λ z. z ++ chars rest) (chars-encodes (13 ∷ 10 ∷ []) refl)
mark_chars mark rest (return_alone h) = chars-append (13 ∷ []) rest (13 ∷ [], (refl, refl)) ∙ ap (λ z. z ++ chars rest) (chars-encodes (13 ∷ []) refl)

utf8_line : (l mark rest : List ℕ) → EndsLine mark rest → IsUtf8 (l ++ (mark ++ rest)) → IsUtf8 l × IsUtf8 rest
utf8_line l mark rest feed u = (utf8_before l rest 10 (omega arith) u, utf8_behind l rest 10 (omega arith) u)
utf8_line l mark rest (return_alone h) u = (utf8_before l rest 13 (omega arith) u, utf8_behind l rest 13 (omega arith) u)
utf8_line l mark rest return_and_feed u =
    let same : l ++ 13 ∷ 10 ∷ rest ≡ (l ++ 13 ∷ []) ++ 10 ∷ rest = sym (append_assoc l (13 ∷ []) (10 ∷ rest)) in
    (utf8_before l (10 ∷ rest) 13 (omega arith) u, utf8_behind (l ++ 13 ∷ []) rest 10 (omega arith) (subst IsUtf8 same u))

mark_of_chars : (mark rest : List ℕ) → IsUtf8 rest → EndsLine mark rest → EndsLine mark (chars rest)
mark_of_chars mark rest u feed = feed
mark_of_chars mark rest u return_and_feed = return_and_feed
mark_of_chars mark rest u (return_alone h) = return_alone (chars_no_feed rest u h)

pub lines_of_characters : LinesOfCharacters
lines_of_characters bytes ls u (last {l} a) = (All-cons IsUtf8 l [] u (All-nil IsUtf8), last (line_of_chars l u a))
lines_of_characters bytes ls u (more {l} {mark} {rest} {ls = zs} a e d) =
    let parts = utf8_line l mark rest e u in
    let below = lines_of_characters rest zs parts.1 d in
    let is : chars (l ++ (mark ++ rest)) ≡ chars l ++ (mark ++ chars rest) = chars-append l (mark ++ rest) parts.0 ∙ ap (λ z. chars l ++ z) (mark_chars mark rest e) in
    let P : List ℕ → Type 0 = λ z. HasLines z (chars l ∷ map chars zs) in
    (All-cons IsUtf8 l zs parts.0 below.0, subst P (sym is) (more {l = chars l} {mark = mark} {rest = chars rest} {ls = map chars zs} (line_of_chars l parts.0 a) (mark_of_chars mark rest parts.1 e) below.1))
