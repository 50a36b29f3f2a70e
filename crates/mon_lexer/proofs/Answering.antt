-- What a layout answers to a line's white space, and to a piece.
use Rattle.std.proofs.Common.{◌≡◌, ◌≢◌, ◌<◌, ◌≤◌, arith, ℕ, zero, suc, List, [], ◌∷◌, ◌++◌, Bool, true, false, ◌||◌, nat_lt, length, refl, sym, ap, ◌∙◌, append_assoc, append-nil, Some, is_some, Result, Ok, Err, OnOk, IfOk, subst, if◌then◌else◌}
use Rattle.std.specs.Result.{IsErrAnd}
use Rattle.mon_lexer.specs.Pieces.{Placed}
use Rattle.mon_lexer.specs.Layout.{Sign, Start, Breaks, Change, shows, closed, change, start, is_bad, is_deeper, is_mixed, top_of, first_fault, words, signs, in_brackets, lines, open_after, is_substance}
use Rattle.mon_lexer.specs.Shown.{outcome, with_token, with_item, stack_of, Shown, Answer, PieceAnswer, indented, begun_of, begun_started, rest_signs, rest_from, whitened, blanked, head_line, tail_lines}
use Rattle.mon_lexer.specs.declared.layout.Layout.{Layout}
use Rattle.mon_lexer.specs.declared.layout.Place.{Place}
use Rattle.mon_lexer.specs.declared.layout.Place.TheVariants.{Fresh, Leading, Within}
use Rattle.mon_lexer.specs.declared.piece.Piece.{Piece}
use Rattle.mon_lexer.specs.declared.piece.Piece.TheVariants.{Blank, Joined, Comment, LineEnd, Word, Wrong}
use Rattle.mon_lexer.specs.declared.token.Kind.{Kind}
use Rattle.mon_lexer.specs.declared.token.Kind.TheVariants as kind
use Rattle.mon_lexer.specs.declared.token.LexFault.{LexFault}
use Rattle.mon_lexer.specs.declared.token.LexFault.TheVariants.{NotUtf8, BadChar, BadIndent, BadNumber, BadText, TooLong, Memory}
use Rattle.mon_lexer.proofs.Lines.{at, lines_within, lines_joined, lines_ended, is_white, rest_white, rest_blank, rest_skipped, rest_white_line, rest_line, sign_of, rest_begun, ends_line}
use Rattle.mon_lexer.proofs.Closings.{outcome_token, outcome_item, outcome_kept, fault_of, stack_more, started_token}

-- the white space of a line
pub change_bad : (started : Bool) (line : ℕ) (w : List ℕ) (stack : List (List ℕ)) → is_bad started w ≡ true → (change started line w stack).signs ≡ Breaks (BadIndent line) ∷ []
change_bad started line w stack h = ap (λ b. (if b then record { signs = Breaks (BadIndent line) ∷ []; stack = stack } else (if is_deeper w (top_of stack) then record { signs = shows kind.Indent line ∷ []; stack = w ∷ stack } else closed line w stack)).signs) h

pub change_deeper : (started : Bool) (line : ℕ) (w : List ℕ) (stack : List (List ℕ)) → is_bad started w ≡ false → is_deeper w (top_of stack) ≡ true → change started line w stack ≡ record { signs = shows kind.Indent line ∷ []; stack = w ∷ stack }
change_deeper started line w stack h d = rw (h, d) refl

pub change_closed : (started : Bool) (line : ℕ) (w : List ℕ) (stack : List (List ℕ)) → is_bad started w ≡ false → is_deeper w (top_of stack) ≡ false → change started line w stack ≡ closed line w stack
change_closed started line w stack h d = rw (h, d) refl

pub deeper_start : (w top : List ℕ) → is_deeper w top ≡ true → start w ≡ []
deeper_start [] [] h = cc
deeper_start [] (t ∷ ts) h = cc
deeper_start (c ∷ cs) top h = refl

or_after : (a b : Bool) → (a || b) ≡ false → b ≡ false
or_after true b h = cc
or_after false b h = h

-- behind the first logical line
pub started_of : (started : Bool) (w : List ℕ) → is_bad started w ≡ false → start w ≡ [] → started ≡ true
started_of true w h s = refl
started_of false [] h s = cc
started_of false (c ∷ cs) h s =
    let some : nat_lt 0 (length (c ∷ cs)) ≡ true = grind arith in
    let e : true ≡ false = sym some ∙ or_after (is_mixed (c ∷ cs)) (nat_lt 0 (length (c ∷ cs))) h in
    cc

pub start_some : (w : List ℕ) → w ≢ [] → start w ≡ []
start_some [] h = absurd (h refl)
start_some (c ∷ cs) h = refl

pub bad_answer : (line : ℕ) (w : List ℕ) (l : Layout) → is_bad (is_some l.tokens) w ≡ true → (ss : List Sign) → first_fault ((indented line w l).signs ++ ss) ≡ Some (BadIndent line)
bad_answer line w l h ss = ap (λ k. first_fault ((k ++ start w) ++ ss)) (change_bad (is_some l.tokens) line w (stack_of l.indentations) h)

pub deeper_answer : (line : ℕ) (w : List ℕ) (old new : Layout) → is_bad (is_some old.tokens) w ≡ false → is_deeper w (top_of (stack_of old.indentations)) ≡ true
    → new.items ≡ old.items → new.tokens ≡ with_token old.tokens (record { kind = kind.Indent; line = line }) → new.depth ≡ old.depth → new.indentations ≡ old.indentations ++ w ∷ [] → Shown (indented line w old) old new
deeper_answer line w old new h d i t o n =
    let k : change (is_some old.tokens) line w (stack_of old.indentations) ≡ record { signs = shows kind.Indent line ∷ []; stack = w ∷ stack_of old.indentations }
    = change_deeper (is_some old.tokens) line w (stack_of old.indentations) h d in
    record {
      same = λ ss. ap (λ (c : Change). outcome old ((c.signs ++ start w) ++ ss)) k
          ∙ ap (λ l. outcome old ((shows kind.Indent line ∷ l) ++ ss)) (deeper_start w (top_of (stack_of old.indentations)) d)
          ∙ outcome_token old new (record { kind = kind.Indent; line = line }) ss i t;
      stack = ap (λ l. stack_of l) n ∙ stack_more old.indentations w ∙ ap (λ (c : Change). c.stack) (sym k);
      depth = o;
    }

pub deeper_started : (line : ℕ) (w : List ℕ) (old new : Layout) → is_bad (is_some old.tokens) w ≡ false → is_deeper w (top_of (stack_of old.indentations)) ≡ true
    → new.tokens ≡ with_token old.tokens (record { kind = kind.Indent; line = line }) → is_some new.tokens ≡ true
deeper_started line w old new h d t =
    ap (λ o. is_some o) t ∙ started_token old.tokens (record { kind = kind.Indent; line = line }) ∙ started_of (is_some old.tokens) w h (deeper_start w (top_of (stack_of old.indentations)) d)

-- a fault stays the first before more signs
pub answer_longer : (f : LexFault) (a b : Change) (more : List Sign) (old new other : Layout) → a.signs ≡ b.signs ++ more → Answer (Err f) b old new → Answer (Err f) a old other
answer_longer Memory a b more old new other e h = tt
answer_longer (NotUtf8 n) a b more old new other e h = λ ss. ap (λ l. first_fault (l ++ ss)) e ∙ ap (λ l. first_fault l) (append_assoc b.signs more ss) ∙ h (more ++ ss)
answer_longer (BadChar n) a b more old new other e h = λ ss. ap (λ l. first_fault (l ++ ss)) e ∙ ap (λ l. first_fault l) (append_assoc b.signs more ss) ∙ h (more ++ ss)
answer_longer (BadIndent n) a b more old new other e h = λ ss. ap (λ l. first_fault (l ++ ss)) e ∙ ap (λ l. first_fault l) (append_assoc b.signs more ss) ∙ h (more ++ ss)
answer_longer (BadNumber n) a b more old new other e h = λ ss. ap (λ l. first_fault (l ++ ss)) e ∙ ap (λ l. first_fault l) (append_assoc b.signs more ss) ∙ h (more ++ ss)
answer_longer (BadText n) a b more old new other e h = λ ss. ap (λ l. first_fault (l ++ ss)) e ∙ ap (λ l. first_fault l) (append_assoc b.signs more ss) ∙ h (more ++ ss)
answer_longer TooLong a b more old new other e h = λ ss. ap (λ l. first_fault (l ++ ss)) e ∙ ap (λ l. first_fault l) (append_assoc b.signs more ss) ∙ h (more ++ ss)

pub closed_fault : (f : LexFault) (line : ℕ) (w : List ℕ) (old new : Layout) → is_bad (is_some old.tokens) w ≡ false → is_deeper w (top_of (stack_of old.indentations)) ≡ false
    → Answer (Err f) (closed line w (stack_of old.indentations)) old new → Answer (Err f) (indented line w old) old new
closed_fault f line w old new h d a =
    answer_longer f (indented line w old) (closed line w (stack_of old.indentations)) (start w) old new new (ap (λ (c : Change). c.signs ++ start w) (change_closed (is_some old.tokens) line w (stack_of old.indentations) h d)) a

pub closed_answer : (line : ℕ) (w : List ℕ) (old new : Layout) → is_bad (is_some old.tokens) w ≡ false → is_deeper w (top_of (stack_of old.indentations)) ≡ false → start w ≡ []
    → Shown (closed line w (stack_of old.indentations)) old new → Shown (indented line w old) old new
closed_answer line w old new h d e s =
    let k : change (is_some old.tokens) line w (stack_of old.indentations) ≡ closed line w (stack_of old.indentations) = change_closed (is_some old.tokens) line w (stack_of old.indentations) h d in
    record {
      same = λ ss. ap (λ (c : Change). outcome old ((c.signs ++ start w) ++ ss)) k
          ∙ ap (λ l. outcome old (((closed line w (stack_of old.indentations)).signs ++ l) ++ ss)) e
          ∙ ap (λ l. outcome old (l ++ ss)) (append-nil (closed line w (stack_of old.indentations)).signs)
          ∙ s.same ss;
      stack = s.stack ∙ ap (λ (c : Change). c.stack) (sym k);
      depth = s.depth;
    }

pub start_answer : (line : ℕ) (w : List ℕ) (old mid new : Layout) → is_bad (is_some old.tokens) w ≡ false → is_deeper w (top_of (stack_of old.indentations)) ≡ false → w ≡ []
    → Shown (closed line w (stack_of old.indentations)) old mid → new.items ≡ with_item mid.items mid.tokens → new.tokens ≡ Some [] → new.depth ≡ mid.depth → new.indentations ≡ mid.indentations → Shown (indented line w old) old new
start_answer line w old mid new h d e s i t o n =
    let k : change (is_some old.tokens) line w (stack_of old.indentations) ≡ closed line w (stack_of old.indentations) = change_closed (is_some old.tokens) line w (stack_of old.indentations) h d in
    record {
      same = λ ss. ap (λ (c : Change). outcome old ((c.signs ++ start w) ++ ss)) k
          ∙ ap (λ l. outcome old (((closed line w (stack_of old.indentations)).signs ++ start l) ++ ss)) e
          ∙ ap (λ l. outcome old l) (append_assoc (closed line w (stack_of old.indentations)).signs (Start ∷ []) ss)
          ∙ s.same (Start ∷ ss)
          ∙ outcome_item mid new ss i t;
      stack = ap (λ l. stack_of l) n ∙ s.stack ∙ ap (λ (c : Change). c.stack) (sym k);
      depth = o ∙ s.depth;
    }

-- the start of a line's tokens
shown_at : (a b : Change) (old mid new : Layout) → a ≡ b → ((ss : List Sign) → outcome old ss ≡ outcome mid ss) → mid.depth ≡ old.depth → Shown b mid new → Shown a old new
shown_at a b old mid new e k o s = record {
  same = λ ss. ap (λ (c : Change). outcome old (c.signs ++ ss)) e ∙ k (b.signs ++ ss) ∙ s.same ss;
  stack = s.stack ∙ ap (λ (c : Change). c.stack) (sym e);
  depth = s.depth ∙ o;
}

pub begin_answer : (r : Result Unit LexFault) (line n : ℕ) (w : List ℕ) (old mid new : Layout) → begun_of line old ≡ indented n w mid → mid.items ≡ old.items → mid.tokens ≡ old.tokens → mid.depth ≡ old.depth
    → Answer r (indented n w mid) mid new → Answer r (begun_of line old) old new
begin_answer (Ok u) line n w old mid new e i t o a = shown_at (begun_of line old) (indented n w mid) old mid new e (λ ss. outcome_kept old mid ss i t) o a
begin_answer (Err Memory) line n w old mid new e i t o a = tt
begin_answer (Err (NotUtf8 m)) line n w old mid new e i t o a = λ ss. ap (λ (c : Change). first_fault (c.signs ++ ss)) e ∙ a ss
begin_answer (Err (BadChar m)) line n w old mid new e i t o a = λ ss. ap (λ (c : Change). first_fault (c.signs ++ ss)) e ∙ a ss
begin_answer (Err (BadIndent m)) line n w old mid new e i t o a = λ ss. ap (λ (c : Change). first_fault (c.signs ++ ss)) e ∙ a ss
begin_answer (Err (BadNumber m)) line n w old mid new e i t o a = λ ss. ap (λ (c : Change). first_fault (c.signs ++ ss)) e ∙ a ss
begin_answer (Err (BadText m)) line n w old mid new e i t o a = λ ss. ap (λ (c : Change). first_fault (c.signs ++ ss)) e ∙ a ss
begin_answer (Err TooLong) line n w old mid new e i t o a = λ ss. ap (λ (c : Change). first_fault (c.signs ++ ss)) e ∙ a ss

-- pieces
abbrev lines_after : Layout → Piece → List Placed → List (List Placed)
lines_after l p ps = lines (in_brackets (open_after l.depth p) ps)

abbrev rest_at : ℕ → Layout → List (List Placed) → List Sign
rest_at last l ls = rest_from last (is_some l.tokens) (stack_of l.indentations) l.place ls

rest_within : (last line : ℕ) (p : Piece) (l : Layout) (ps : List Placed) → ends_line p ≡ false
    → rest_signs last l (at line p ∷ ps) ≡ rest_at last l ((at line p ∷ head_line (lines_after l p ps)) ∷ tail_lines (lines_after l p ps))
rest_within last line p l ps h = ap (λ ls. rest_at last l ls) (lines_within l.depth line p ps h)

white_open : (depth : ℕ) (p : Piece) → is_white p ≡ true → open_after depth p ≡ depth
white_open depth Joined h = refl
white_open depth Comment h = refl
white_open depth LineEnd h = cc
white_open depth (Blank c) h = cc
white_open depth (Word k) h = cc
white_open depth (Wrong f) h = cc

white_goes_on : (p : Piece) → is_white p ≡ true → ends_line p ≡ false
white_goes_on Joined h = refl
white_goes_on Comment h = refl
white_goes_on LineEnd h = cc
white_goes_on (Blank c) h = cc
white_goes_on (Word k) h = cc
white_goes_on (Wrong f) h = cc

-- the new layout differs in its place alone
rest_moved : (last : ℕ) (old new : Layout) (ps : List Placed) (place : Place) → new ≡ record old { place = place }
    → outcome old (rest_from last (is_some old.tokens) (stack_of old.indentations) place (lines (in_brackets old.depth ps))) ≡ outcome new (rest_signs last new ps)
unfolding outcome
rest_moved last old new ps place e = ap (λ (l : Layout). outcome l (rest_signs last l ps)) (sym e)

pub white_answer : (line : ℕ) (p : Piece) (old new : Layout) → is_white p ≡ true → new ≡ record old { place = whitened line old.place }
    → (last : ℕ) (ps : List Placed) → outcome old (rest_signs last old (at line p ∷ ps)) ≡ outcome new (rest_signs last new ps)
white_answer line p old new h e last ps =
    ap (λ ss. outcome old ss)
    (rest_within last line p old ps (white_goes_on p h)
    ∙ rest_white last (is_some old.tokens) (stack_of old.indentations) old.place line p (lines_after old p ps) h
    ∙ ap (λ d. rest_from last (is_some old.tokens) (stack_of old.indentations) (whitened line old.place) (lines (in_brackets d ps))) (white_open old.depth p h))
    ∙ rest_moved last old new ps (whitened line old.place) e

pub blank_answer : (line c : ℕ) (old new : Layout) → new ≡ record old { place = blanked line c old.place }
    → (last : ℕ) (ps : List Placed) → outcome old (rest_signs last old (at line (Blank c) ∷ ps)) ≡ outcome new (rest_signs last new ps)
blank_answer line c old new e last ps =
    ap (λ ss. outcome old ss)
    (rest_within last line (Blank c) old ps refl
    ∙ rest_blank last (is_some old.tokens) (stack_of old.indentations) old.place line c (lines_after old (Blank c) ps))
    ∙ rest_moved last old new ps (blanked line c old.place) e

-- a token
pub token_fault : (f : LexFault) (line : ℕ) (p : Piece) (old new other : Layout) → is_substance (at line p) ≡ true → ends_line p ≡ false → Answer (Err f) (begun_of line old) old new → PieceAnswer (Err f) (at line p) old other
token_fault f line p old new other h e a = by_fault f a
  where
    rest : (last : ℕ) (ps : List Placed) → List Sign
    rest last ps = sign_of line p ∷ (words (head_line (lines_after old p ps)) ++ signs last (begun_started (is_some old.tokens) old.place) (begun_of line old).stack (tail_lines (lines_after old p ps)))

    is : (last : ℕ) (ps : List Placed) → rest_signs last old (at line p ∷ ps) ≡ (begun_of line old).signs ++ rest last ps
    is last ps = rest_within last line p old ps e ∙ rest_begun last (is_some old.tokens) (stack_of old.indentations) old.place line p (head_line (lines_after old p ps)) (tail_lines (lines_after old p ps)) h

    by_fault : (g : LexFault) → Answer (Err g) (begun_of line old) old new → PieceAnswer (Err g) (at line p) old other
    by_fault Memory b = tt
    by_fault (NotUtf8 n) b = λ last ps. ap (λ l. first_fault l) (is last ps) ∙ b (rest last ps)
    by_fault (BadChar n) b = λ last ps. ap (λ l. first_fault l) (is last ps) ∙ b (rest last ps)
    by_fault (BadIndent n) b = λ last ps. ap (λ l. first_fault l) (is last ps) ∙ b (rest last ps)
    by_fault (BadNumber n) b = λ last ps. ap (λ l. first_fault l) (is last ps) ∙ b (rest last ps)
    by_fault (BadText n) b = λ last ps. ap (λ l. first_fault l) (is last ps) ∙ b (rest last ps)
    by_fault TooLong b = λ last ps. ap (λ l. first_fault l) (is last ps) ∙ b (rest last ps)

rest_is : (last : ℕ) (l : Layout) (started : Bool) (stack : List (List ℕ)) (place : Place) (depth : ℕ) (ps : List Placed) → is_some l.tokens ≡ started → stack_of l.indentations ≡ stack → l.place ≡ place → l.depth ≡ depth
    → rest_signs last l ps ≡ rest_from last started stack place (lines (in_brackets depth ps))
rest_is last l started stack place depth ps s t p d =
    ap (λ x. rest_from last x (stack_of l.indentations) l.place (lines (in_brackets l.depth ps))) s
    ∙ ap (λ x. rest_from last started x l.place (lines (in_brackets l.depth ps))) t
    ∙ ap (λ x. rest_from last started stack x (lines (in_brackets l.depth ps))) p
    ∙ ap (λ x. rest_from last started stack place (lines (in_brackets x ps))) d

within_is : (last : ℕ) (started : Bool) (stack : List (List ℕ)) (ls : List (List Placed)) → rest_from last started stack Within ls ≡ words (head_line ls) ++ signs last started stack (tail_lines ls)
unfolding rest_from
within_is last started stack ls = refl

pub token_answer : (line : ℕ) (k : Kind) (old mid new : Layout) → Shown (begun_of line old) old mid → is_some mid.tokens ≡ begun_started (is_some old.tokens) old.place → mid.place ≡ Within
    → new.items ≡ mid.items → new.tokens ≡ with_token mid.tokens (record { kind = k; line = line }) → new.place ≡ mid.place → new.indentations ≡ mid.indentations → new.depth ≡ open_after mid.depth (Word k)
    → (last : ℕ) (ps : List Placed) → outcome old (rest_signs last old (at line (Word k) ∷ ps)) ≡ outcome new (rest_signs last new ps)
token_answer line k old mid new s b w i t p n d last ps =
    let started : Bool = begun_started (is_some old.tokens) old.place in
    let stack : List (List ℕ) = (begun_of line old).stack in
    let ls : List (List Placed) = lines_after old (Word k) ps in
    let rest : List Sign = words (head_line ls) ++ signs last started stack (tail_lines ls) in
    let begins : rest_signs last old (at line (Word k) ∷ ps) ≡ (begun_of line old).signs ++ (shows k line ∷ rest)
    = rest_within last line (Word k) old ps refl ∙ rest_begun last (is_some old.tokens) (stack_of old.indentations) old.place line (Word k) (head_line ls) (tail_lines ls) refl in
    let ends : rest_signs last new ps ≡ rest
    = rest_is last new started stack Within (open_after old.depth (Word k)) ps
    (ap (λ o. is_some o) t ∙ started_token mid.tokens (record { kind = k; line = line }) ∙ b)
    (ap (λ l. stack_of l) n ∙ s.stack) (p ∙ w) (d ∙ ap (λ x. open_after x (Word k)) s.depth)
    ∙ within_is last started stack ls in
    ap (λ ss. outcome old ss) begins ∙ s.same (shows k line ∷ rest) ∙ outcome_token mid new (record { kind = k; line = line }) rest i t ∙ ap (λ ss. outcome new ss) (sym ends)

-- a wrong piece
pub wrong_answer : (f : LexFault) (line : ℕ) (old mid other : Layout) → Shown (begun_of line old) old mid → PieceAnswer (Err f) (at line (Wrong f)) old other
wrong_answer f line old mid other s = by_fault f first
  where
    rest : (last : ℕ) (ps : List Placed) → List Sign
    rest last ps = Breaks f ∷ (words (head_line (lines_after old (Wrong f) ps)) ++ signs last (begun_started (is_some old.tokens) old.place) (begun_of line old).stack (tail_lines (lines_after old (Wrong f) ps)))

    first : (last : ℕ) (ps : List Placed) → first_fault (rest_signs last old (at line (Wrong f) ∷ ps)) ≡ Some f
    first last ps =
        ap (λ l. first_fault l) (rest_within last line (Wrong f) old ps refl
        ∙ rest_begun last (is_some old.tokens) (stack_of old.indentations) old.place line (Wrong f) (head_line (lines_after old (Wrong f) ps)) (tail_lines (lines_after old (Wrong f) ps)) refl)
        ∙ fault_of old mid ((begun_of line old).signs ++ rest last ps) (rest last ps) (s.same (rest last ps))

    by_fault : (g : LexFault) → ((last : ℕ) (ps : List Placed) → first_fault (rest_signs last old (at line (Wrong f) ∷ ps)) ≡ Some g) → PieceAnswer (Err g) (at line (Wrong f)) old other
    by_fault Memory b = tt
    by_fault (NotUtf8 n) b = b
    by_fault (BadChar n) b = b
    by_fault (BadIndent n) b = b
    by_fault (BadNumber n) b = b
    by_fault (BadText n) b = b
    by_fault TooLong b = b

-- a line end
in_brackets_joined : (depth line : ℕ) (ps : List Placed) → 0 < depth → lines (in_brackets depth (at line LineEnd ∷ ps)) ≡ lines (in_brackets depth (at line Joined ∷ ps))
in_brackets_joined zero line ps h = absurd (omega arith)
in_brackets_joined (suc depth) line ps h = lines_joined depth line ps

pub joined_answer : (line : ℕ) (old new : Layout) → 0 < old.depth → new ≡ record old { place = whitened line old.place }
    → (last : ℕ) (ps : List Placed) → outcome old (rest_signs last old (at line LineEnd ∷ ps)) ≡ outcome new (rest_signs last new ps)
joined_answer line old new h e last ps = ap (λ ls. outcome old (rest_at last old ls)) (in_brackets_joined old.depth line ps h) ∙ white_answer line Joined old new refl e last ps

outside_ended : (depth line : ℕ) (ps : List Placed) → depth ≤ 0 → lines (in_brackets depth (at line LineEnd ∷ ps)) ≡ (at line LineEnd ∷ []) ∷ lines (in_brackets depth ps)
outside_ended zero line ps h = lines_ended line ps
outside_ended (suc depth) line ps h = absurd (omega arith)

pub skipped_answer : (line : ℕ) (old new : Layout) → old.depth ≤ 0 → old.place ≡ Fresh → new ≡ record old { place = Fresh }
    → (last : ℕ) (ps : List Placed) → outcome old (rest_signs last old (at line LineEnd ∷ ps)) ≡ outcome new (rest_signs last new ps)
skipped_answer line old new h p e last ps =
    ap (λ ls. outcome old (rest_at last old ls)) (outside_ended old.depth line ps h)
    ∙ ap (λ x. outcome old (rest_from last (is_some old.tokens) (stack_of old.indentations) x ((at line LineEnd ∷ []) ∷ lines (in_brackets old.depth ps)))) p
    ∙ ap (λ ss. outcome old ss) (rest_skipped last (is_some old.tokens) (stack_of old.indentations) line (lines (in_brackets old.depth ps)))
    ∙ rest_moved last old new ps Fresh e

pub white_line_answer : (line n : ℕ) (w : List ℕ) (old new : Layout) → old.depth ≤ 0 → old.place ≡ Leading n w → new ≡ record old { place = Fresh }
    → (last : ℕ) (ps : List Placed) → outcome old (rest_signs last old (at line LineEnd ∷ ps)) ≡ outcome new (rest_signs last new ps)
white_line_answer line n w old new h p e last ps =
    ap (λ ls. outcome old (rest_at last old ls)) (outside_ended old.depth line ps h)
    ∙ ap (λ x. outcome old (rest_from last (is_some old.tokens) (stack_of old.indentations) x ((at line LineEnd ∷ []) ∷ lines (in_brackets old.depth ps)))) p
    ∙ ap (λ ss. outcome old ss) (rest_white_line last (is_some old.tokens) (stack_of old.indentations) n w line (lines (in_brackets old.depth ps)))
    ∙ rest_moved last old new ps Fresh e

pub ended_answer : (line : ℕ) (old new : Layout) → old.depth ≤ 0 → old.place ≡ Within
    → new.items ≡ old.items → new.tokens ≡ with_token old.tokens (record { kind = kind.Newline; line = line }) → new.place ≡ Fresh → new.indentations ≡ old.indentations → new.depth ≡ old.depth
    → (last : ℕ) (ps : List Placed) → outcome old (rest_signs last old (at line LineEnd ∷ ps)) ≡ outcome new (rest_signs last new ps)
ended_answer line old new h p i t f n d last ps =
    let ls : List (List Placed) = lines (in_brackets old.depth ps) in
    let rest : List Sign = rest_from last (is_some old.tokens) (stack_of old.indentations) Fresh ls in
    let ends : rest_signs last new ps ≡ rest
    = rest_is last new (is_some old.tokens) (stack_of old.indentations) Fresh old.depth ps (ap (λ o. is_some o) t ∙ started_token old.tokens (record { kind = kind.Newline; line = line })) (ap (λ l. stack_of l) n) f d in
    ap (λ k. outcome old (rest_at last old k)) (outside_ended old.depth line ps h)
    ∙ ap (λ x. outcome old (rest_from last (is_some old.tokens) (stack_of old.indentations) x ((at line LineEnd ∷ []) ∷ ls))) p
    ∙ ap (λ ss. outcome old ss) (rest_line last (is_some old.tokens) (stack_of old.indentations) line ls)
    ∙ outcome_token old new (record { kind = kind.Newline; line = line }) rest i t
    ∙ ap (λ ss. outcome new ss) (sym ends)

-- a piece by what it is
pub piece_at : (r : Result Unit LexFault) (line : ℕ) (p q : Piece) (old new : Layout) → p ≡ q → PieceAnswer r (at line q) old new → PieceAnswer r (at line p) old new
piece_at r line p q old new e a = let P : Piece → Type 0 = λ x. PieceAnswer r (at line x) old new in subst P (sym e) a

-- the answer of a `?`
pub answer_of : (r : Result Unit LexFault) (f : LexFault) (p : Placed) (old new : Layout) → IsErrAnd r (λ e. e ≡ f) → PieceAnswer (Err f) p old new → PieceAnswer r p old new
answer_of (Ok u) f p old new h a = absurd h
answer_of (Err e) f p old new h a = let P : LexFault → Type 0 = λ x. PieceAnswer (Err x) p old new in subst P (sym h) a

-- the answer where branches join
pub answer_joined : {E : Type 0} (r s : Result Unit E) (p : Placed) (old m n : Layout) → r ≡ s → m ≡ n → IfOk s (λ u. PieceAnswer (Ok u) p old n) → IfOk r (λ u. PieceAnswer (Ok u) p old m)
answer_joined {E} r s p old m n e f a =
    let P : Result Unit E → Type 0 = λ x. IfOk x (λ u. PieceAnswer (Ok u) p old m) in
    let Q : Layout → Type 0 = λ l. IfOk s (λ u. PieceAnswer (Ok u) p old l) in
    subst P (sym e) (subst Q (sym f) a)

pub ended_result : {E : Type 0} (r : Result Unit E) (line : ℕ) (old mid new : Layout) → old.depth ≤ 0 → old.place ≡ Within → mid ≡ record old { place = Fresh }
    → OnOk r (new ≡ record mid { tokens = with_token mid.tokens (record { kind = kind.Newline; line = line }) }) → IfOk r (λ u. PieceAnswer (Ok u) (at line LineEnd) old new)
ended_result (Err e) line old mid new h p m o = tt
ended_result (Ok u) line old mid new h p m o =
    ended_answer line old new h p (ap (λ (l : Layout). l.items) o ∙ ap (λ (l : Layout). l.items) m)
    (ap (λ (l : Layout). l.tokens) o ∙ ap (λ (l : Layout). with_token l.tokens (record { kind = kind.Newline; line = line })) m)
    (ap (λ (l : Layout). l.place) o ∙ ap (λ (l : Layout). l.place) m) (ap (λ (l : Layout). l.indentations) o ∙ ap (λ (l : Layout). l.indentations) m)
    (ap (λ (l : Layout). l.depth) o ∙ ap (λ (l : Layout). l.depth) m)
