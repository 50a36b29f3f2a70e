-- What follows the first item of a list: further items, each after a comma, and maybe a comma at the end. Stated once, over any items.
use Rattle.std.proofs.Common.{◌≡◌, ℕ, zero, suc, ◌≤◌, List, [], ◌∷◌, ◌++◌, length, refl, sym, ap, ◌∙◌, arith, append_assoc, length-append, subst}
use Rattle.std.specs.Prelude.{Option, Some, None, ⊤, Bool, true, false}
use Rattle.mon_lexer.specs.declared.token.Token.{Token}
use Rattle.mon_lexer.specs.declared.token.Kind.{Kind}
use Rattle.mon_lexer.specs.declared.token.Kind.TheVariants as kind
use Rattle.mon_lexer.specs.declared.token.Operator.TheVariants as operator
use Rattle.mon_parser.specs.Tokens.{mark}
use Rattle.mon_parser.specs.Reader.{Answer, Reader, then_read, choose, pick, next_at, by_option, mark_at, more_items}
use Rattle.mon_parser.specs.declared.cursor.Sign.TheVariants as sign
use Rattle.mon_parser.proofs.Left.{some_pair, then_was}

pub data Tail {A : Type 0} (Item : List Token → A → Type 0) : List Token → List A → Type 0 where
  stop : Tail Item [] []
  trailing : (l : ℕ) → Tail Item (mark (kind.Operator operator.Comma) l ∷ []) []
  next : {ts us : List Token} {a : A} {more : List A} (l : ℕ) → Item ts a → Tail Item us more → Tail Item (mark (kind.Operator operator.Comma) l ∷ (ts ++ us)) (a ∷ more)

-- the list ends before this: no comma comes next, and no item begins
abbrev pub NoComma : List Token → Type 0
NoComma [] = Unit {0}
NoComma (t ∷ ts) = mark_at sign.Comma t.kind ≡ None

pub record Ends (begins : List Token → Bool) (rest : List Token) : Type 0 where
  pub comma : NoComma rest
  pub none_begins : begins rest ≡ false

-- what the reader of an item does
pub record ReadsItems {A : Type 0} (Item : List Token → A → Type 0) (begins : List Token → Bool) (After : List Token → Type 0) (item : Reader A) : Type 0 where
  pub reads : (ts : List Token) (a : A) → Item ts a → (rest : List Token) → After rest → item (ts ++ rest) ≡ Some (a, rest)
  pub item_begins : (ts : List Token) (a : A) → Item ts a → (rest : List Token) → begins (ts ++ rest) ≡ true
  pub comma : (l : ℕ) (ts : List Token) → After (mark (kind.Operator operator.Comma) l ∷ ts)

tail_after : {A : Type 0} (Item : List Token → A → Type 0) (After : List Token → Type 0) (rest : List Token) → ((l : ℕ) (ts : List Token) → After (mark (kind.Operator operator.Comma) l ∷ ts)) → After rest → {us : List Token} {more : List A} → Tail Item us more → After (us ++ rest)
tail_after Item After rest c a stop = a
tail_after Item After rest c a (trailing l) = c l rest
tail_after Item After rest c a (next {ts = ts} {us = us} l i d) = c l ((ts ++ us) ++ rest)

items_end : {A : Type 0} (begins : List Token → Bool) (item : Reader A) (turns : ℕ) (rest : List Token) → NoComma rest → more_items begins item turns rest ≡ Some ([], rest)
unfolding more_items choose next_at
items_end begins item zero rest h = refl
items_end begins item (suc turns) [] h = refl
items_end begins item (suc turns) (t ∷ ts) h = rw h refl

items_comma : {A : Type 0} (begins : List Token → Bool) (item : Reader A) (turns l : ℕ) (rest : List Token) → more_items begins item (suc turns) (mark (kind.Operator operator.Comma) l ∷ rest) ≡ pick (begins rest) (then_read (item rest) (λ a rest. then_read (more_items begins item turns rest) (λ more left. Some (a ∷ more, left)))) (Some ([], rest))
unfolding more_items choose next_at
items_comma begins item turns l rest = refl

pub tail_reads : {A : Type 0} (Item : List Token → A → Type 0) (begins : List Token → Bool) (After : List Token → Type 0) (item : Reader A) → ReadsItems Item begins After item → (rest : List Token) → Ends begins rest → After rest
    → {ts : List Token} {found : List A} → (d : Tail Item ts found) → (turns : ℕ) → length ts ≤ turns → more_items begins item turns (ts ++ rest) ≡ Some (found, rest)
unfolding pick then_read
tail_reads Item begins After item r rest e a stop turns h = items_end begins item turns rest e.comma
tail_reads Item begins After item r rest e a (trailing l) zero h = absurd (omega arith)
tail_reads {A} Item begins After item r rest e a (trailing l) (suc turns) h = items_comma begins item turns l rest ∙ ap (λ (c : Bool). pick c (then_read (item rest) (λ a rest. then_read (more_items begins item turns rest) (λ more left. Some (a ∷ more, left)))) (Some ([], rest))) e.none_begins
tail_reads Item begins After item r rest e a (next l i d) zero h = absurd (omega arith)
tail_reads {A} Item begins After item r rest e a (next {ts = ts} {us = us} {a = x} {more = more} l i d) (suc turns) h =
    let after = tail_after Item After rest r.comma a d in
    items_comma begins item turns l ((ts ++ us) ++ rest)
    ∙ ap (λ w. pick (begins w) (then_read (item w) (λ a rest. then_read (more_items begins item turns rest) (λ more left. Some (a ∷ more, left)))) (Some ([], w))) (append_assoc ts us rest)
    ∙ ap (λ (c : Bool). pick c (then_read (item (ts ++ (us ++ rest))) (λ a rest. then_read (more_items begins item turns rest) (λ more left. Some (a ∷ more, left)))) (Some ([], ts ++ (us ++ rest)))) (r.item_begins ts x i (us ++ rest))
    ∙ ap (λ (g : Answer A). then_read g (λ a rest. then_read (more_items begins item turns rest) (λ more left. Some (a ∷ more, left)))) (r.reads ts x i (us ++ rest) after)
    ∙ ap (λ (g : Answer (List A)). then_read g (λ more left. Some (x ∷ more, left))) (tail_reads Item begins After item r rest e a d turns (omega (arith, length-append ts us)))

-- and what is read is such a tail
abbrev pub DerivedAs : {A : Type 0} → (List Token → A → Type 0) → List Token → A → List Token → Type 0
DerivedAs Is ts a rest = (us : List Token) × (ts ≡ us ++ rest) × Is us a

by_begins : {A : Type 0} (Item : List Token → A → Type 0) (item : Reader A) (following : Reader (List A)) → ((ts : List Token) (a : A) (rest : List Token) → item ts ≡ Some (a, rest) → DerivedAs Item ts a rest)
    → (l : ℕ) (ts : List Token) (found : List A) (rest : List Token) → ((ts : List Token) (found : List A) → following ts ≡ Some (found, rest) → DerivedAs (Tail Item) ts found rest)
    → (c : Bool) → pick c (then_read (item ts) (λ a rest. then_read (following rest) (λ more left. Some (a ∷ more, left)))) (Some ([], ts)) ≡ Some (found, rest) → (vs : List Token) × (ts ≡ vs ++ rest) × Tail Item (mark (kind.Operator operator.Comma) l ∷ vs) found
unfolding pick
by_begins Item item following s l ts found rest again false e =
    let p = some_pair [] found ts rest e in ([], p.1, subst (λ x. Tail Item (mark (kind.Operator operator.Comma) l ∷ []) x) p.0 (trailing l))
by_begins Item item following s l ts found rest again true e =
    let a = then_was (item ts) (λ a rest. then_read (following rest) (λ more left. Some (a ∷ more, left))) (found, rest) e in
    let b = then_was (following a.rest) (λ more left. Some (a.value ∷ more, left)) (found, rest) a.last in
    let p = some_pair (a.value ∷ b.value) found b.rest rest b.last in
    let x = s ts a.value a.rest a.first in
    let y = again a.rest b.value (b.first ∙ ap (λ w. Some (b.value, w)) p.1) in
    (x.0 ++ y.0, x.1 ∙ ap (λ w. x.0 ++ w) y.1 ∙ sym (append_assoc x.0 y.0 rest), subst (λ z. Tail Item (mark (kind.Operator operator.Comma) l ∷ (x.0 ++ y.0)) z) p.0 (next l x.2 y.2))

pub comma_is : (k : Kind) → mark_at sign.Comma k ≡ Some tt → k ≡ (kind.Operator operator.Comma)
comma_is (kind.Operator operator.Comma) e = refl
comma_is _ e = cc

by_comma : {A : Type 0} (Item : List Token → A → Type 0) (begins : List Token → Bool) (item : Reader A) (following : Reader (List A)) → ((ts : List Token) (a : A) (rest : List Token) → item ts ≡ Some (a, rest) → DerivedAs Item ts a rest)
    → (t : Token) (ts : List Token) (found : List A) (rest : List Token) → ((ts : List Token) (found : List A) → following ts ≡ Some (found, rest) → DerivedAs (Tail Item) ts found rest)
    → (o : Option ⊤) → mark_at sign.Comma t.kind ≡ o → choose (by_option o None (λ is. Some (is, ts))) (Some ([], t ∷ ts)) (λ is left. pick (begins left) (then_read (item left) (λ a rest. then_read (following rest) (λ more end. Some (a ∷ more, end)))) (Some ([], left))) ≡ Some (found, rest) → DerivedAs (Tail Item) (t ∷ ts) found rest
unfolding choose
by_comma Item begins item following s t ts found rest again None o e = let p = some_pair [] found (t ∷ ts) rest e in ([], p.1, subst (λ x. Tail Item [] x) p.0 stop)
by_comma Item begins item following s t ts found rest again (Some i) o e =
    subst (λ (k : Kind). DerivedAs (Tail Item) (mark k t.line ∷ ts) found rest) (sym (comma_is t.kind o)) (let y = by_begins Item item following s t.line ts found rest again (begins ts) e in (mark (kind.Operator operator.Comma) t.line ∷ y.0, ap (λ w. mark (kind.Operator operator.Comma) t.line ∷ w) y.1, y.2))

pub tail_sound : {A : Type 0} (Item : List Token → A → Type 0) (begins : List Token → Bool) (item : Reader A) → ((ts : List Token) (a : A) (rest : List Token) → item ts ≡ Some (a, rest) → DerivedAs Item ts a rest)
    → (turns : ℕ) (ts : List Token) (found : List A) (rest : List Token) → more_items begins item turns ts ≡ Some (found, rest) → DerivedAs (Tail Item) ts found rest
unfolding more_items choose next_at
tail_sound Item begins item s zero ts found rest e = let p = some_pair [] found ts rest e in ([], p.1, subst (λ x. Tail Item [] x) p.0 stop)
tail_sound Item begins item s (suc turns) [] found rest e = let p = some_pair [] found [] rest e in ([], p.1, subst (λ x. Tail Item [] x) p.0 stop)
tail_sound Item begins item s (suc turns) (t ∷ ts) found rest e = by_comma Item begins item (more_items begins item turns) s t ts found rest (λ us bs x. tail_sound Item begins item s turns us bs rest x) (mark_at sign.Comma t.kind) refl e

-- where a comma comes, it is part of what is read
pub comma_sound : {A : Type 0} (Item : List Token → A → Type 0) (begins : List Token → Bool) (item : Reader A) → ((ts : List Token) (a : A) (rest : List Token) → item ts ≡ Some (a, rest) → DerivedAs Item ts a rest)
    → (turns l : ℕ) (ts : List Token) (found : List A) (rest : List Token) → more_items begins item (suc turns) (mark (kind.Operator operator.Comma) l ∷ ts) ≡ Some (found, rest) → (vs : List Token) × (ts ≡ vs ++ rest) × Tail Item (mark (kind.Operator operator.Comma) l ∷ vs) found
comma_sound Item begins item s turns l ts found rest e = by_begins Item item (more_items begins item turns) s l ts found rest (λ us bs x. tail_sound Item begins item s turns us bs rest x) (begins ts) (sym (items_comma begins item turns l ts) ∙ e)
