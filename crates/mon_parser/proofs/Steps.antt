-- Single steps of the readers, as the code takes them.
use Rattle.std.proofs.Common.{◌≡◌, ℕ, zero, suc, ◌+◌, ◌-◌, ◌<◌, ◌≤◌, List, [], ◌∷◌, ◌++◌, length, refl, sym, ap, arith, append_assoc, append-nil, le-leb}
use Rattle.std.specs.Prelude.{Option, Some, None, Bool, true, false, ⊤}
use Rattle.std.proofs.lemmas.Bool.{lt-leb}
use Rattle.mon_lexer.specs.declared.token.Token.{Token}
use Rattle.mon_lexer.specs.declared.token.Kind.{Kind}
use Rattle.mon_parser.specs.declared.cursor.Sign.TheVariants as sign
use Rattle.mon_trees.specs.declared.tree.Expression.{Expression}
use Rattle.mon_parser.specs.Reader.{Answer, Reader, Mark, then_read, choose, pick, next_at, by_option, mark_at, if_fits, within, made, text_at, suffix_at, read_more, more_texts, more_items, more_suffixes, read_suffix, read_prefix, read_or, if_from, read_expr_in, read_expr}
use Rattle.mon_parser.specs.Code.{with_front}
use Rattle.mon_parser.proofs.Left.{some_pair}

pub then_none : {A B : Type 0} (read : Answer A) (go : A → List Token → Answer B) → read ≡ None → then_read read go ≡ None
unfolding then_read
then_none read go e = rw e refl

pub within_fits : {A : Type 0} (depth : A → ℕ) (a : A) (rest : List Token) → depth a ≤ 256 → within depth a rest ≡ Some (a, rest)
unfolding within
within_fits depth a rest h = ap (λ c. if_fits c a rest) (le-leb (depth a) 256 h)

pub within_none : {A : Type 0} (depth : A → ℕ) (a : A) (rest : List Token) → 256 < depth a → within depth a rest ≡ None
unfolding within
within_none depth a rest h = ap (λ c. if_fits c a rest) (lt-leb (depth a) 256 h)

-- the loop of a level
pub more_step : {O : Type 0} (ops : Kind → Option O) (node : O → Expression → Expression → Expression) (lower : Reader Expression) (turn : ℕ) (t : Expression) (ts : List Token) → turn < 256
    → read_more ops node lower (256 - turn) t ts ≡ choose (next_at ops ts) (Some (t, ts)) (λ op rest. then_read (lower rest) (λ b left. then_read (made (node op t b) left) (λ u end. read_more ops node lower (256 - (turn + 1)) u end)))
unfolding read_more
more_step ops node lower turn t ts h = let e : 256 - turn ≡ suc (256 - (turn + 1)) = omega arith in rw e refl

pub more_last : {O : Type 0} (ops : Kind → Option O) (node : O → Expression → Expression → Expression) (lower : Reader Expression) (turn : ℕ) (t : Expression) (ts : List Token) → 256 ≤ turn → read_more ops node lower (256 - turn) t ts ≡ Some (t, ts)
unfolding read_more
more_last ops node lower turn t ts h = let e : 256 - turn ≡ zero = omega arith in rw e refl

-- the loop of suffixes
pub suffixes_turn : (expr : Reader Expression) (turn : ℕ) (a : Expression) (ts : List Token) → turn < 256
    → more_suffixes expr (256 - turn) a ts ≡ choose (next_at suffix_at ts) (Some (a, ts)) (λ x rest. then_read (read_suffix expr x a rest) (λ e left. more_suffixes expr (256 - (turn + 1)) e left))
unfolding more_suffixes
suffixes_turn expr turn a ts h = let e : 256 - turn ≡ suc (256 - (turn + 1)) = omega arith in rw e refl

pub suffixes_last : (expr : Reader Expression) (turn : ℕ) (a : Expression) (ts : List Token) → 256 ≤ turn → more_suffixes expr (256 - turn) a ts ≡ Some (a, ts)
unfolding more_suffixes
suffixes_last expr turn a ts h = let e : 256 - turn ≡ zero = omega arith in rw e refl

-- the loop of a list: what was read so far stands in front
pub items_last : {A : Type 0} (begins : List Token → Bool) (item : Reader A) (front : List A) (turns turn : ℕ) (ts : List Token) → turns ≤ turn → with_front front (more_items begins item (turns - turn) ts) ≡ Some (front, ts)
unfolding more_items then_read
items_last begins item front turns turn ts h = let e : turns - turn ≡ zero = omega arith in rw (e, append-nil) refl

pub items_none : {A : Type 0} (begins : List Token → Bool) (item : Reader A) (front : List A) (turns turn : ℕ) (ts : List Token) → turn < turns → next_at (mark_at sign.Comma) ts ≡ None → with_front front (more_items begins item (turns - turn) ts) ≡ Some (front, ts)
unfolding more_items then_read choose
items_none begins item front turns turn ts h n = let e : turns - turn ≡ suc (turns - (turn + 1)) = omega arith in rw (e, n, append-nil) refl

pub items_ended : {A : Type 0} (begins : List Token → Bool) (item : Reader A) (front : List A) (turns turn : ℕ) (is : ⊤) (ts rest : List Token) → turn < turns → next_at (mark_at sign.Comma) ts ≡ Some (is, rest) → begins rest ≡ false → with_front front (more_items begins item (turns - turn) ts) ≡ Some (front, rest)
unfolding more_items then_read choose pick
items_ended begins item front turns turn is ts rest h n b = let e : turns - turn ≡ suc (turns - (turn + 1)) = omega arith in rw (e, n, b, append-nil) refl

pub items_missing : {A : Type 0} (begins : List Token → Bool) (item : Reader A) (front : List A) (turns turn : ℕ) (is : ⊤) (ts rest : List Token) → turn < turns → next_at (mark_at sign.Comma) ts ≡ Some (is, rest) → begins rest ≡ true → item rest ≡ None → with_front front (more_items begins item (turns - turn) ts) ≡ None
unfolding more_items then_read choose pick
items_missing begins item front turns turn is ts rest h n b i = let e : turns - turn ≡ suc (turns - (turn + 1)) = omega arith in rw (e, n, b, i) refl

regrouped : {A : Type 0} (front : List A) (a : A) (read : Answer (List A)) → then_read (then_read read (λ more end. Some (a ∷ more, end))) (λ more rest. Some (front ++ more, rest)) ≡ with_front (front ++ a ∷ []) read
unfolding then_read
regrouped front a None = refl
regrouped front a (Some (more, rest)) = ap (λ z. Some (z, rest)) (sym (append_assoc front (a ∷ []) more))

pub items_more : {A : Type 0} (begins : List Token → Bool) (item : Reader A) (front : List A) (turns turn : ℕ) (is : ⊤) (ts rest left : List Token) (a : A) → turn < turns → next_at (mark_at sign.Comma) ts ≡ Some (is, rest) → begins rest ≡ true → item rest ≡ Some (a, left)
    → with_front front (more_items begins item (turns - turn) ts) ≡ with_front (front ++ a ∷ []) (more_items begins item (turns - (turn + 1)) left)
unfolding more_items then_read choose pick
items_more begins item front turns turn is ts rest left a h n b i = let e : turns - turn ≡ suc (turns - (turn + 1)) = omega arith in rw (e, n, b, i) (regrouped front a (more_items begins item (turns - (turn + 1)) left))

-- a list from its start
pub from_start : {A : Type 0} (first : A) (read : Answer (List A)) → with_front (first ∷ []) read ≡ then_read read (λ more rest. Some (first ∷ more, rest))
unfolding then_read
from_start first None = refl
from_start first (Some (more, rest)) = refl

-- texts
by_text_none : (o : Option (List ℕ)) (ts : List Token) → by_option {B = Answer (List ℕ)} o None (λ x. Some (x, ts)) ≡ None → o ≡ None
by_text_none None ts e = refl
by_text_none (Some x) ts e = cc

by_text_some : (o : Option (List ℕ)) (u : List ℕ) (ts rest : List Token) → by_option {B = Answer (List ℕ)} o None (λ x. Some (x, ts)) ≡ Some (u, rest) → (o ≡ Some u) × (ts ≡ rest)
by_text_some None u ts rest e = cc
by_text_some (Some x) u ts rest e = let p = some_pair x u ts rest e in (ap (λ z. Some z) p.0, p.1)

pub texts_none : (s : List ℕ) (ts : List Token) → next_at text_at ts ≡ None → more_texts s ts ≡ Some (s, ts)
unfolding more_texts next_at
texts_none s [] e = refl
texts_none s (t ∷ ts) e = rw (by_text_none (text_at t.kind) ts e) refl

pub texts_some : (s u : List ℕ) (ts rest : List Token) → next_at text_at ts ≡ Some (u, rest) → more_texts s ts ≡ more_texts (s ++ u) rest
unfolding more_texts next_at
texts_some s u [] rest e = cc
texts_some s u (t ∷ ts) rest e = let p = by_text_some (text_at t.kind) u ts rest e in rw (p.0, p.1) refl

pub next_shorter : {O : Type 0} (table : Kind → Option O) (ts rest : List Token) (found : O) → next_at table ts ≡ Some (found, rest) → length rest < length ts
unfolding next_at
next_shorter table [] rest found e = cc
next_shorter {O} table (t ∷ ts) rest found e = by_table (table t.kind) e
  where
    by_table : (o : Option O) → by_option {B = Answer O} o None (λ x. Some (x, ts)) ≡ Some (found, rest) → length rest < length (t ∷ ts)
    by_table None h = cc
    by_table (Some x) h = let p = some_pair x found ts rest h in let q = ap length p.1 in omega arith

-- a level whose operator stands in front
pub prefix_zero : (mark : Mark) (node : Expression → Expression) (below : ℕ → Reader Expression) (n : ℕ) (ts : List Token) → n ≡ 0 → read_prefix mark node below n ts ≡ None
unfolding read_prefix
prefix_zero mark node below n ts e = rw e refl

pub prefix_step : (mark : Mark) (node : Expression → Expression) (below : ℕ → Reader Expression) (n : ℕ) (ts : List Token) → 0 < n → read_prefix mark node below n ts ≡ choose (next_at mark ts) (below n ts) (λ is rest. then_read (read_prefix mark node below (n - 1) rest) (λ e left. made (node e) left))
unfolding read_prefix
prefix_step mark node below n ts h = let e : n ≡ suc (n - 1) = omega arith in by_suc n (n - 1) e
  where
    by_suc : (n j : ℕ) → n ≡ suc j → read_prefix mark node below n ts ≡ choose (next_at mark ts) (below n ts) (λ is rest. then_read (read_prefix mark node below j rest) (λ e left. made (node e) left))
    by_suc n j e = rw e refl

-- an expression
pub expr_none : (b n : ℕ) (ts : List Token) → b ≡ 0 → read_expr b n ts ≡ None
unfolding read_expr
expr_none b n ts e = rw e refl

expr_none_in : (expr : ℕ → Reader Expression) (n : ℕ) (ts : List Token) → n ≡ 0 → read_expr_in expr n ts ≡ None
unfolding read_expr_in
expr_none_in expr n ts e = rw e refl

pub expr_zero : (b n : ℕ) (ts : List Token) → n ≡ 0 → read_expr b n ts ≡ None
unfolding read_expr
expr_zero zero n ts e = refl
expr_zero (suc b) n ts e = expr_none_in (read_expr b) n ts e

pub expr_step : (b n : ℕ) (ts : List Token) → 0 < b → 0 < n → read_expr b n ts ≡ then_read (read_or (read_expr (b - 1)) n ts) (λ a rest. if_from (read_or (read_expr (b - 1)) n) (read_expr b (n - 1)) a rest)
unfolding read_expr read_expr_in
expr_step b n ts h k = by_suc b (b - 1) n (n - 1) (omega arith) (omega arith)
  where
    by_suc : (b c n j : ℕ) → b ≡ suc c → n ≡ suc j → read_expr b n ts ≡ then_read (read_or (read_expr c) n ts) (λ a rest. if_from (read_or (read_expr c) n) (read_expr b j) a rest)
    by_suc b c n j e f = rw (e, f) refl
