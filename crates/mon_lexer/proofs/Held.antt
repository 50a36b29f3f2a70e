-- Logical lines and their items: what the lines show is what the cases give, and the cases give it where no rule is broken.
use Rattle.std.proofs.Common.{◌≡◌, ℕ, List, [], ◌∷◌, ◌++◌, Bool, true, false, not, ◌&&◌, ◌||◌, refl, sym, ap, ◌∙◌, arith, subst, map, length, append_assoc, append-nil, true≢false, nat_lt, bytes_eq, if◌then◌else◌, Some, None}
use Rattle.std.proofs.lemmas.Slice.Eq.{bytes_eq-Decides}
use Rattle.mon_lexer.specs.Layout.{Sign, Start, Shows, Change, shows, change, closed, start, all_closed, is_bad, is_mixed, is_deeper, top_of, first_fault, tokens_until_start, items_of}
use Rattle.mon_lexer.specs.Shown.{indented_from}
use Rattle.mon_lexer.specs.Lexing.{token, LogicalLine, Closes, level, close, Indents, deeper, not_deeper, AllClosed, nothing, bottom, close_top, Holds, no_line, indented, an_item, Begins, empty, first_item}
use Rattle.mon_lexer.specs.declared.token.Token.{Token}
use Rattle.mon_lexer.specs.declared.token.Item.{Item}
use Rattle.mon_lexer.specs.declared.token.Kind.TheVariants as kind
use Rattle.mon_lexer.specs.declared.token.LexFault.TheVariants.{BadIndent}
use Rattle.mon_lexer.proofs.Answering.{change_bad, change_deeper, change_closed}
use Rattle.mon_lexer.proofs.Logicals.{showing}

-- what signs give: no fault, tokens of the item that is open, and items
pub record Gives (ss : List Sign) (ts : List Token) (found : List Item) : Type 0 where
  pub no_fault : first_fault ss ≡ None
  pub tokens : tokens_until_start ss ≡ ts
  pub items : items_of ss ≡ found

gives_more : (us : List Token) {ss : List Sign} {ts : List Token} {found : List Item} → Gives ss ts found → Gives (map Shows us ++ ss) (us ++ ts) found
gives_more [] g = g
gives_more (u ∷ us) g = let r = gives_more us g in record { no_fault = r.no_fault; tokens = ap (λ z. u ∷ z) r.tokens; items = r.items }

gives_start : {ss : List Sign} {ts : List Token} {found : List Item} → Gives ss ts found → Gives (Start ∷ ss) [] (record { tokens = ts } ∷ found)
gives_start {ss} {ts} {found} g = record {
  no_fault = g.no_fault;
  tokens = refl;
  items = ap (λ z. record { tokens = z } ∷ items_of ss) g.tokens ∙ ap (λ z. record { tokens = ts } ∷ z) g.items;
}

closed_gives : (last : ℕ) {stack : List (List ℕ)} {ts : List Token} → AllClosed last stack ts → Gives (all_closed last stack) ts []
closed_gives last nothing = record { no_fault = refl; tokens = refl; items = refl }
closed_gives last bottom = record { no_fault = refl; tokens = refl; items = refl }
closed_gives last (close_top d) = let r = closed_gives last d in record { no_fault = r.no_fault; tokens = ap (λ z. token kind.Dedent last ∷ z) r.tokens; items = r.items }

equal_bytes : (w : List ℕ) → bytes_eq w w ≡ true
equal_bytes w = (bytes_eq-Decides w w).1 refl

unequal : (b : Bool) (top w : List ℕ) → bytes_eq top w ≡ b → (top ≡ w → ⊥) → bytes_eq top w ≡ false
unequal true top w e h = absurd (h ((bytes_eq-Decides top w).0 e))
unequal false top w e h = e

closes_is : (line : ℕ) (w : List ℕ) {stack new : List (List ℕ)} {ts : List Token} → Closes line w stack ts new → closed line w stack ≡ record { signs = map Shows ts; stack = new }
closes_is line w (level {below}) = rw (equal_bytes w) refl
closes_is line w (close {top} {below} h d) =
    let e : bytes_eq top w ≡ false = unequal (bytes_eq top w) top w refl h in
    rw e (ap (λ (c : Change). record { signs = shows kind.Dedent line ∷ c.signs; stack = c.stack }) (closes_is line w d))

not_bad : (w : List ℕ) → is_mixed w ≡ false → is_bad true w ≡ false
not_bad w h = rw h refl

indents_is : (line : ℕ) (w : List ℕ) (stack : List (List ℕ)) {new : List (List ℕ)} {ts : List Token} → Indents line w stack ts new → change true line w stack ≡ record { signs = map Shows ts; stack = new }
indents_is line w stack (deeper h d) = change_deeper true line w stack (not_bad w h) d
indents_is line w stack (not_deeper h d x) = change_closed true line w stack (not_bad w h) d ∙ closes_is line w x

indented_is : (line : ℕ) (w : List ℕ) (stack : List (List ℕ)) {new : List (List ℕ)} {ts : List Token} → Indents line w stack ts new
    → indented_from line true stack w ≡ record { signs = map Shows ts ++ start w; stack = new }
indented_is line w stack x = ap (λ (c : Change). record { signs = c.signs ++ start w; stack = c.stack }) (indents_is line w stack x)

-- signs of a line
shows_indented : (last line c : ℕ) (cs : List ℕ) (stack new : List (List ℕ)) (shown ts more : List Token) (ls : List LogicalLine) (found : List Item) → Indents line (c ∷ cs) stack shown new → Gives (showing last true new ls) more found
    → Gives (showing last true stack (record { line = line; indentation = c ∷ cs; tokens = ts } ∷ ls)) (shown ++ (ts ++ more)) found
shows_indented last line c cs stack new shown ts more ls found x g =
    let P : Change → Type 0 = λ k. Gives (k.signs ++ (map Shows ts ++ showing last true k.stack ls)) (shown ++ (ts ++ more)) found in
    let Q : List Sign → Type 0 = λ z. Gives (z ++ (map Shows ts ++ showing last true new ls)) (shown ++ (ts ++ more)) found in
    subst P (sym (indented_is line (c ∷ cs) stack x)) (subst Q (sym (append-nil (map Shows shown))) (gives_more shown (gives_more ts g)))

shows_item : (last line : ℕ) (stack new : List (List ℕ)) (shown ts more : List Token) (ls : List LogicalLine) (found : List Item) → Indents line [] stack shown new → Gives (showing last true new ls) more found
    → Gives (showing last true stack (record { line = line; indentation = []; tokens = ts } ∷ ls)) shown (record { tokens = ts ++ more } ∷ found)
shows_item last line stack new shown ts more ls found x g =
    let P : Change → Type 0 = λ k. Gives (k.signs ++ (map Shows ts ++ showing last true k.stack ls)) shown (record { tokens = ts ++ more } ∷ found) in
    let Q : List Sign → Type 0 = λ z. Gives z shown (record { tokens = ts ++ more } ∷ found) in
    let R : List Token → Type 0 = λ z. Gives (map Shows shown ++ (Start ∷ (map Shows ts ++ showing last true new ls))) z (record { tokens = ts ++ more } ∷ found) in
    subst P (sym (indented_is line [] stack x))
    (subst Q (sym (append_assoc (map Shows shown) (Start ∷ []) (map Shows ts ++ showing last true new ls)))
    (subst R (append-nil shown) (gives_more shown (gives_start (gives_more ts g)))))

holds_gives : (last : ℕ) {stack : List (List ℕ)} {ls : List LogicalLine} {ts : List Token} {found : List Item} → Holds last stack ls ts found → Gives (showing last true stack ls) ts found
holds_gives last (no_line d) = closed_gives last d
holds_gives last (indented {stack} {new} {line} {c} {cs} {shown} {ts} {more} {ls} {found} x d) = shows_indented last line c cs stack new shown ts more ls found x (holds_gives last d)
holds_gives last (an_item {stack} {new} {line} {shown} {ts} {more} {ls} {found} x d) = shows_item last line stack new shown ts more ls found x (holds_gives last d)

pub begins_gives : (last : ℕ) {ls : List LogicalLine} {found : List Item} → Begins last ls found → Gives (showing last false ([] ∷ []) ls) [] found
begins_gives last empty = record { no_fault = refl; tokens = refl; items = refl }
begins_gives last (first_item d) = holds_gives last d

-- where no rule is broken
record InItems (last : ℕ) (stack : List (List ℕ)) (ls : List LogicalLine) : Type 0 where
  tokens : List Token
  found : List Item
  are : Holds last stack ls tokens found

pub record AsItems (last : ℕ) (ls : List LogicalLine) : Type 0 where
  pub found : List Item
  pub are : Begins last ls found

record InClosed (last : ℕ) (stack : List (List ℕ)) : Type 0 where
  tokens : List Token
  are : AllClosed last stack tokens

in_closed : (last : ℕ) (stack : List (List ℕ)) → InClosed last stack
in_closed last [] = record { tokens = []; are = nothing }
in_closed last (w ∷ []) = record { tokens = []; are = bottom }
in_closed last (top ∷ next ∷ below) = let r = in_closed last (next ∷ below) in record { tokens = token kind.Dedent last ∷ r.tokens; are = close_top r.are }

record InCloses (line : ℕ) (w : List ℕ) (stack : List (List ℕ)) : Type 0 where
  tokens : List Token
  new : List (List ℕ)
  are : Closes line w stack tokens new

record InIndents (line : ℕ) (w : List ℕ) (stack : List (List ℕ)) : Type 0 where
  tokens : List Token
  new : List (List ℕ)
  are : Indents line w stack tokens new

abbrev closed_by : ℕ → List ℕ → List ℕ → List (List ℕ) → Bool → Change
closed_by line w top below b = if b then record { signs = []; stack = top ∷ below } else (let c = closed line w below in record { signs = shows kind.Dedent line ∷ c.signs; stack = c.stack })

close_more : (line : ℕ) (w top : List ℕ) (below : List (List ℕ)) (ss : List Sign) (b : Bool) → bytes_eq top w ≡ b → (first_fault ((closed line w below).signs ++ ss) ≡ None → InCloses line w below)
    → first_fault ((closed_by line w top below b).signs ++ ss) ≡ None → InCloses line w (top ∷ below)
close_more line w top below ss true e more h =
    let same : w ≡ top = sym ((bytes_eq-Decides top w).0 e) in
    let P : List ℕ → Type 0 = λ z. InCloses line w (z ∷ below) in
    subst P same (record { tokens = []; new = w ∷ below; are = level })
close_more line w top below ss false e more h =
    let r = more h in
    let other : top ≡ w → ⊥ = λ p. absurd (true≢false (sym ((bytes_eq-Decides top w).1 p) ∙ e)) in
    record { tokens = token kind.Dedent line ∷ r.tokens; new = r.new; are = close other r.are }

in_closes : (line : ℕ) (w : List ℕ) (stack : List (List ℕ)) (ss : List Sign) → first_fault ((closed line w stack).signs ++ ss) ≡ None → InCloses line w stack
in_closes line w [] ss h = cc
in_closes line w (top ∷ below) ss h = close_more line w top below ss (bytes_eq top w) refl (λ k. in_closes line w below ss k) h

right_indent : (started : Bool) (line : ℕ) (w : List ℕ) (stack : List (List ℕ)) (ss : List Sign) (b : Bool) → is_bad started w ≡ b → first_fault ((change started line w stack).signs ++ ss) ≡ None → is_bad started w ≡ false
right_indent started line w stack ss true e h =
    let none : Some (BadIndent line) ≡ None = ap (λ z. first_fault (z ++ ss)) (sym (change_bad started line w stack e)) ∙ h in cc
right_indent started line w stack ss false e h = e

or_false : (a b : Bool) → (a || b) ≡ false → a ≡ false
or_false true b h = cc
or_false false b h = refl

in_indents_by : (line : ℕ) (w : List ℕ) (stack : List (List ℕ)) (ss : List Sign) (d : Bool) → is_mixed w ≡ false → is_deeper w (top_of stack) ≡ d → first_fault ((change true line w stack).signs ++ ss) ≡ None → InIndents line w stack
in_indents_by line w stack ss true m e h = record { tokens = token kind.Indent line ∷ []; new = w ∷ stack; are = deeper m e }
in_indents_by line w stack ss false m e h =
    let r = in_closes line w stack ss (ap (λ (c : Change). first_fault (c.signs ++ ss)) (sym (change_closed true line w stack (not_bad w m) e)) ∙ h) in
    record { tokens = r.tokens; new = r.new; are = not_deeper m e r.are }

in_indents : (line : ℕ) (w : List ℕ) (stack : List (List ℕ)) (ss : List Sign) → first_fault ((change true line w stack).signs ++ ss) ≡ None → InIndents line w stack
in_indents line w stack ss h =
    let m : is_mixed w ≡ false = or_false (is_mixed w) (not true && nat_lt 0 (length w)) (right_indent true line w stack ss (is_bad true w) refl h) in
    in_indents_by line w stack ss (is_deeper w (top_of stack)) m refl h

fault_shows : (ts : List Token) (ss : List Sign) → first_fault (map Shows ts ++ ss) ≡ first_fault ss
fault_shows [] ss = refl
fault_shows (t ∷ ts) ss = fault_shows ts ss

fault_start : (w : List ℕ) (ss : List Sign) → first_fault (start w ++ ss) ≡ first_fault ss
fault_start [] ss = refl
fault_start (c ∷ cs) ss = refl

-- the lines behind a line have no fault either
rest_right : (last line : ℕ) (w : List ℕ) (ts : List Token) (stack new : List (List ℕ)) (shown : List Token) (ls : List LogicalLine) → Indents line w stack shown new
    → first_fault (showing last true stack (record { line = line; indentation = w; tokens = ts } ∷ ls)) ≡ None → first_fault (showing last true new ls) ≡ None
rest_right last line w ts stack new shown ls x h =
    sym (ap (λ (c : Change). first_fault (c.signs ++ (map Shows ts ++ showing last true c.stack ls))) (indented_is line w stack x)
    ∙ ap (λ z. first_fault z) (append_assoc (map Shows shown) (start w) (map Shows ts ++ showing last true new ls))
    ∙ fault_shows shown (start w ++ (map Shows ts ++ showing last true new ls)) ∙ fault_start w (map Shows ts ++ showing last true new ls) ∙ fault_shows ts (showing last true new ls))
    ∙ h

put_line : (last line : ℕ) (w : List ℕ) (ts : List Token) (stack : List (List ℕ)) (ls : List LogicalLine) (i : InIndents line w stack) → InItems last i.new ls → InItems last stack (record { line = line; indentation = w; tokens = ts } ∷ ls)
put_line last line [] ts stack ls i r = record { tokens = i.tokens; found = record { tokens = ts ++ r.tokens } ∷ r.found; are = an_item i.are r.are }
put_line last line (c ∷ cs) ts stack ls i r = record { tokens = i.tokens ++ (ts ++ r.tokens); found = r.found; are = indented i.are r.are }

in_items : (last : ℕ) (stack : List (List ℕ)) (ls : List LogicalLine) → first_fault (showing last true stack ls) ≡ None → InItems last stack ls
in_items last stack [] h = let r = in_closed last stack in record { tokens = r.tokens; found = []; are = no_line r.are }
in_items last stack (l ∷ ls) h =
    let c : Change = change true l.line l.indentation stack in
    let below : List Sign = map Shows l.tokens ++ showing last true c.stack ls in
    let i : InIndents l.line l.indentation stack = in_indents l.line l.indentation stack (start l.indentation ++ below) (ap (λ z. first_fault z) (sym (append_assoc c.signs (start l.indentation) below)) ∙ h) in
    put_line last l.line l.indentation l.tokens stack ls i (in_items last i.new ls (rest_right last l.line l.indentation l.tokens stack i.new i.tokens ls i.are h))

bottom_level : (line : ℕ) → Indents line [] ([] ∷ []) [] ([] ∷ [])
bottom_level line = not_deeper refl refl level

indented_first : (c : ℕ) (cs : List ℕ) → is_bad false (c ∷ cs) ≡ true
indented_first c cs = by_mixed (is_mixed (c ∷ cs))
  where
    by_mixed : (b : Bool) → (b || (not false && nat_lt 0 (length (c ∷ cs)))) ≡ true
    by_mixed true = refl
    by_mixed false = grind arith

pub as_items : (last : ℕ) (ls : List LogicalLine) → first_fault (showing last false ([] ∷ []) ls) ≡ None → AsItems last ls
as_items last [] h = record { found = []; are = empty }
as_items last (l ∷ ls) h = by_indentation l.line l.indentation l.tokens h
  where
    by_indentation : (line : ℕ) (w : List ℕ) (ts : List Token) → first_fault (showing last false ([] ∷ []) (record { line = line; indentation = w; tokens = ts } ∷ ls)) ≡ None → AsItems last (record { line = line; indentation = w; tokens = ts } ∷ ls)
    by_indentation line [] ts h =
        let r = in_items last ([] ∷ []) ls (rest_right last line [] ts ([] ∷ []) ([] ∷ []) [] ls (bottom_level line) h) in
        record { found = record { tokens = ts ++ r.tokens } ∷ r.found; are = first_item (an_item (bottom_level line) r.are) }
    by_indentation line (c ∷ cs) ts h =
        let below : List Sign = map Shows ts ++ showing last true (change false line (c ∷ cs) ([] ∷ [])).stack ls in
        let bad : is_bad false (c ∷ cs) ≡ false = right_indent false line (c ∷ cs) ([] ∷ []) (start (c ∷ cs) ++ below) (is_bad false (c ∷ cs)) refl
        (ap (λ z. first_fault z) (sym (append_assoc (change false line (c ∷ cs) ([] ∷ [])).signs (start (c ∷ cs)) below)) ∙ h) in
        absurd (true≢false (sym (indented_first c cs) ∙ bad))
