-- A level whose operators group to the left: its reader reads each derivation, and nothing else.
use Rattle.std.proofs.Common.{◌≡◌, ℕ, zero, suc, ◌+◌, ◌-◌, ◌<◌, ◌≤◌, max, List, [], ◌∷◌, ◌++◌, length, refl, sym, ap, ◌∙◌, arith, append_assoc, add-one, length-append, le-leb, subst}
use Rattle.std.specs.Prelude.{Option, Some, None, Bool, true, false, leb}
use Rattle.mon_lexer.specs.declared.token.Token.{Token}
use Rattle.mon_lexer.specs.declared.token.Kind.{Kind}
use Rattle.mon_trees.specs.declared.tree.Expression.{Expression}
use Rattle.mon_parser.specs.Tokens.{mark}
use Rattle.mon_parser.specs.Depth.{expr_depth}
use Rattle.mon_parser.specs.Reader.{Answer, Reader, then_read, choose, pick, next_at, by_option, if_fits, within, made, binds, read_more, read_left}

-- the next token binds less than this
abbrev pub Stops : ℕ → List Token → Type 0
Stops level [] = Unit {0}
Stops level (t ∷ ts) = binds t.kind < level

pub stops_more : (a b : ℕ) (ts : List Token) → Stops a ts → a ≤ b → Stops b ts
stops_more a b [] s h = tt
stops_more a b (t ∷ ts) s h = omega (arith, s)

-- the reader reads each derivation within its limits, where the rest stops at this level
abbrev pub Reads : (List Token → Expression → Type 0) → ℕ → ℕ → ℕ → Reader Expression → Type 0
Reads Is level b n read = (ts : List Token) (t : Expression) → Is ts t → length ts ≤ b → expr_depth t ≤ n → (rest : List Token) → Stops level rest → read (ts ++ rest) ≡ Some (t, rest)

-- what the reader reads derives
abbrev pub Derived : (List Token → Expression → Type 0) → List Token → Expression → List Token → Type 0
Derived Is ts t rest = (us : List Token) × (ts ≡ us ++ rest) × Is us t

abbrev pub Sound : (List Token → Expression → Type 0) → Reader Expression → Type 0
Sound Is read = (ts : List Token) (t : Expression) (rest : List Token) → read ts ≡ Some (t, rest) → Derived Is ts t rest

-- derivations of such a level
pub data Left {O : Type 0} (Lower : List Token → Expression → Type 0) (ops : Kind → Option O) (node : O → Expression → Expression → Expression) : List Token → Expression → Type 0 where
  one : {ts : List Token} {e : Expression} → Lower ts e → Left Lower ops node ts e
  more : {ts us : List Token} {a b : Expression} (k : Kind) (l : ℕ) (op : O) → Left Lower ops node ts a → ops k ≡ Some op → Lower us b → Left Lower ops node (ts ++ mark k l ∷ us) (node op a b)

-- what a level's operators are: each makes a node, they bind at the level, and nothing that binds less is one
pub record IsLevel {O : Type 0} (level : ℕ) (ops : Kind → Option O) (node : O → Expression → Expression → Expression) : Type 0 where
  pub grows : (op : O) (a b : Expression) → expr_depth (node op a b) ≡ 1 + max (expr_depth a) (expr_depth b)
  pub at : (k : Kind) (op : O) → ops k ≡ Some op → binds k ≡ level
  pub below : (k : Kind) → binds k < level → ops k ≡ None

-- what was read goes on
pub then_some : {A B : Type 0} (read : Answer A) (go : A → List Token → Answer B) (a : A) (rest : List Token) → read ≡ Some (a, rest) → then_read read go ≡ go a rest
unfolding then_read
then_some read go a rest e = rw e refl

-- the way that is taken
pub choose_other : {A B : Type 0} (read : Answer A) (other : Answer B) (go : A → List Token → Answer B) → read ≡ None → choose read other go ≡ other
unfolding choose
choose_other read other go e = rw e refl

pub choose_some : {A B : Type 0} (read : Answer A) (other : Answer B) (go : A → List Token → Answer B) (a : A) (rest : List Token) → read ≡ Some (a, rest) → choose read other go ≡ go a rest
unfolding choose
choose_some read other go a rest e = rw e refl

pub pick_true : {B : Type 0} (c : Bool) (a b : Answer B) → c ≡ true → pick c a b ≡ a
unfolding pick
pick_true c a b e = rw e refl

pub pick_false : {B : Type 0} (c : Bool) (a b : Answer B) → c ≡ false → pick c a b ≡ b
unfolding pick
pick_false c a b e = rw e refl

-- the next token by a table
pub next_none : {O : Type 0} (table : Kind → Option O) (t : Token) (ts : List Token) → table t.kind ≡ None → next_at table (t ∷ ts) ≡ None
unfolding next_at
next_none table t ts e = rw e refl

pub next_some : {O : Type 0} (table : Kind → Option O) (t : Token) (ts : List Token) (found : O) → table t.kind ≡ Some found → next_at table (t ∷ ts) ≡ Some (found, ts)
unfolding next_at
next_some table t ts found e = rw e refl

pub next_end : {O : Type 0} (table : Kind → Option O) → next_at table [] ≡ None
unfolding next_at
next_end table = refl

pub made_fits : (e : Expression) (rest : List Token) → expr_depth e ≤ 256 → made e rest ≡ Some (e, rest)
unfolding within
made_fits e rest h = ap (λ c. if_fits c e rest) (le-leb (expr_depth e) 256 h)

more_end : {O : Type 0} (ops : Kind → Option O) (node : O → Expression → Expression → Expression) (lower : Reader Expression) (turns : ℕ) (t : Expression) (ts : List Token) (level : ℕ) → IsLevel level ops node → Stops level ts → read_more ops node lower turns t ts ≡ Some (t, ts)
unfolding read_more choose next_at
more_end ops node lower zero t ts level v s = refl
more_end ops node lower (suc turns) t [] level v s = refl
more_end ops node lower (suc turns) t (k ∷ ts) level v s = rw (v.below k.kind s) refl

more_op : {O : Type 0} (ops : Kind → Option O) (node : O → Expression → Expression → Expression) (lower : Reader Expression) (turns j : ℕ) (t : Expression) (k : Kind) (l : ℕ) (op : O) (ts : List Token) → ops k ≡ Some op → turns ≡ j + 1
    → read_more ops node lower turns t (mark k l ∷ ts) ≡ then_read (lower ts) (λ b rest. then_read (made (node op t b) rest) (λ u left. read_more ops node lower j u left))
unfolding read_more choose next_at
more_op ops node lower turns j t k l op ts e h = rw (h, add-one, e) refl

-- how many operators
abbrev count : {O : Type 0} {Lower : List Token → Expression → Type 0} {ops : Kind → Option O} {node : O → Expression → Expression → Expression} {ts : List Token} {t : Expression} → Left Lower ops node ts t → ℕ
count (one x) = 0
count (more k l op d e x) = count d + 1

count_depth : {O : Type 0} (Lower : List Token → Expression → Type 0) (ops : Kind → Option O) (node : O → Expression → Expression → Expression) (level : ℕ) → IsLevel level ops node → {ts : List Token} {t : Expression} → (d : Left Lower ops node ts t) → count d ≤ expr_depth t
count_depth Lower ops node level v (one x) = omega arith
count_depth Lower ops node level v (more {a = a} {b = b} k l op d e x) = let h = count_depth Lower ops node level v d in omega (arith, h, v.grows op a b)

left_goes_on : {O : Type 0} (Lower : List Token → Expression → Type 0) (ops : Kind → Option O) (node : O → Expression → Expression → Expression) (lower : Reader Expression) (level b n : ℕ) → IsLevel level ops node → Reads Lower (level + 1) b n lower → n ≤ 256
    → {ts : List Token} {t : Expression} → (d : Left Lower ops node ts t) → length ts ≤ b → expr_depth t ≤ n → (rest : List Token) → Stops (level + 1) rest → (turns : ℕ) → count d ≤ turns
    → then_read (lower (ts ++ rest)) (λ u left. read_more ops node lower turns u left) ≡ read_more ops node lower (turns - count d) t rest
unfolding then_read
left_goes_on Lower ops node lower level b n v r m {ts} {t} (one x) w h rest s turns c =
    let all : turns ≡ turns - 0 = omega arith in
    ap (λ (g : Answer Expression). then_read g (λ u left. read_more ops node lower turns u left)) (r ts t x w h rest s) ∙ ap (λ k. read_more ops node lower k t rest) all
left_goes_on Lower ops node lower level b n v r m (more {ts = ts} {us = us} {a = x} {b = y} k l op d e z) w h rest s turns c =
    let go : Expression → Reader Expression = λ u left. read_more ops node lower turns u left in
    let j : ℕ = turns - (count d + 1) in
    let turn : turns - count d ≡ j + 1 = omega arith in
    let wide = length-append ts (mark k l ∷ us) in
    let deep = v.grows op x y in
    let stop : binds k < level + 1 = omega (arith, v.at k op e) in
    ap (λ i. then_read (lower i) go) (append_assoc ts (mark k l ∷ us) rest)
    ∙ left_goes_on Lower ops node lower level b n v r m d (omega arith) (omega arith) (mark k l ∷ (us ++ rest)) stop turns (omega arith)
    ∙ more_op ops node lower (turns - count d) j x k l op (us ++ rest) e turn
    ∙ ap (λ (g : Answer Expression). then_read g (λ b left. then_read (made (node op x b) left) (λ u left. read_more ops node lower j u left))) (r us y z (omega arith) (omega arith) rest s)
    ∙ ap (λ (g : Answer Expression). then_read g (λ u left. read_more ops node lower j u left)) (made_fits (node op x y) rest (omega arith))

-- a level reads all its derivations if the level below does
pub left_reads : {O : Type 0} (Lower : List Token → Expression → Type 0) (ops : Kind → Option O) (node : O → Expression → Expression → Expression) (lower : Reader Expression) (level b n : ℕ) → IsLevel level ops node → Reads Lower (level + 1) b n lower → n ≤ 256 → Reads (Left Lower ops node) level b n (read_left ops node lower)
left_reads Lower ops node lower level b n v r m ts t d w h rest s =
    left_goes_on Lower ops node lower level b n v r m d w h rest (stops_more level (level + 1) rest s (omega arith)) 256 (omega (arith, count_depth Lower ops node level v d)) ∙ more_end ops node lower (256 - count d) t rest level v s

pub some_pair : {A B : Type 0} (a b : A) (x y : B) → ◌≡◌ {A = Option (A × B)} (Some (a, x)) (Some (b, y)) → (a ≡ b) × (x ≡ y)
some_pair {A} {B} a b x y e = (ap first e, ap second e)
  where
    first : Option (A × B) → A
    first None = a
    first (Some p) = p.0

    second : Option (A × B) → B
    second None = x
    second (Some p) = p.1

-- what was read before what was read last
pub record Between {A B : Type 0} (read : Answer A) (go : A → Reader B) (whole : Answer B) : Type 0 where
  pub value : A
  pub rest : List Token
  pub first : read ≡ Some (value, rest)
  pub last : go value rest ≡ whole

pub then_was : {A B : Type 0} (read : Answer A) (go : A → Reader B) (y : B × List Token) → then_read read go ≡ Some y → Between read go (Some y)
unfolding then_read
then_was None go y e = cc
then_was (Some (a, rest)) go y e = record { value = a; rest = rest; first = refl; last = e }

pub made_then : {B : Type 0} (e : Expression) (rest : List Token) (go : Expression → Reader B) (y : B × List Token) → then_read (made e rest) go ≡ Some y → go e rest ≡ Some y
unfolding within then_read
made_then {B} e rest go y = by_test (leb (expr_depth e) 256)
  where
    by_test : (c : Bool) → then_read (if_fits c e rest) go ≡ Some y → go e rest ≡ Some y
    by_test true h = h
    by_test false h = cc

pub made_is : (e u : Expression) (rest left : List Token) → made e rest ≡ Some (u, left) → (e ≡ u) × (rest ≡ left)
unfolding within
made_is e u rest left = by_test (leb (expr_depth e) 256)
  where
    by_test : (c : Bool) → if_fits c e rest ≡ Some (u, left) → (e ≡ u) × (rest ≡ left)
    by_test true h = some_pair e u rest left h
    by_test false h = cc

op_derives : {O : Type 0} (Lower : List Token → Expression → Type 0) (ops : Kind → Option O) (node : O → Expression → Expression → Expression) (lower : Reader Expression) → Sound Lower lower
    → (next : Expression → Reader Expression) (k : Token) (t u : Expression) (us ts rest : List Token) → Left Lower ops node us t
    → ((t : Expression) (us ts : List Token) → Left Lower ops node us t → next t ts ≡ Some (u, rest) → Derived (Left Lower ops node) (us ++ ts) u rest)
    → (o : Option O) → ops k.kind ≡ o → choose (by_option o None (λ op. Some (op, ts))) (Some (t, k ∷ ts)) (λ op left. then_read (lower left) (λ b left. then_read (made (node op t b) left) (λ v left. next v left))) ≡ Some (u, rest) → Derived (Left Lower ops node) (us ++ k ∷ ts) u rest
unfolding choose
op_derives Lower ops node lower s next k t u us ts rest d more_so None o e = let p = some_pair t u (k ∷ ts) rest e in (us, ap (λ l. us ++ l) p.1, subst (λ (x : Expression). Left Lower ops node us x) p.0 d)
op_derives Lower ops node lower s next k t u us ts rest d more_so (Some op) o e =
    let a = then_was (lower ts) (λ b left. then_read (made (node op t b) left) (λ v left. next v left)) (u, rest) e in
    let x = s ts a.value a.rest a.first in
    let grown : Left Lower ops node (us ++ k ∷ x.0) (node op t a.value) = more k.kind k.line op d o x.2 in
    let last : next (node op t a.value) a.rest ≡ Some (u, rest) = made_then (node op t a.value) a.rest (λ v left. next v left) (u, rest) a.last in
    let y = more_so (node op t a.value) (us ++ k ∷ x.0) a.rest grown last in
    (y.0, ap (λ l. us ++ k ∷ l) x.1 ∙ sym (append_assoc us (k ∷ x.0) a.rest) ∙ y.1, y.2)

more_derives : {O : Type 0} (Lower : List Token → Expression → Type 0) (ops : Kind → Option O) (node : O → Expression → Expression → Expression) (lower : Reader Expression) → Sound Lower lower
    → (turns : ℕ) (t u : Expression) (us ts rest : List Token) → Left Lower ops node us t → read_more ops node lower turns t ts ≡ Some (u, rest) → Derived (Left Lower ops node) (us ++ ts) u rest
unfolding read_more choose next_at
more_derives Lower ops node lower s zero t u us ts rest d e = let p = some_pair t u ts rest e in (us, ap (λ l. us ++ l) p.1, subst (λ (x : Expression). Left Lower ops node us x) p.0 d)
more_derives Lower ops node lower s (suc turns) t u us [] rest d e = let p = some_pair t u [] rest e in (us, ap (λ l. us ++ l) p.1, subst (λ (x : Expression). Left Lower ops node us x) p.0 d)
more_derives Lower ops node lower s (suc turns) t u us (k ∷ ts) rest d e =
    op_derives Lower ops node lower s (λ v left. read_more ops node lower turns v left) k t u us ts rest d (λ t2 us2 ts2 d2 e2. more_derives Lower ops node lower s turns t2 u us2 ts2 rest d2 e2) (ops k.kind) refl e

-- what such a level reads derives if what the level below reads does
pub left_sound : {O : Type 0} (Lower : List Token → Expression → Type 0) (ops : Kind → Option O) (node : O → Expression → Expression → Expression) (lower : Reader Expression) → Sound Lower lower → Sound (Left Lower ops node) (read_left ops node lower)
left_sound Lower ops node lower s ts t rest e =
    let a = then_was (lower ts) (λ t left. read_more ops node lower 256 t left) (t, rest) e in
    let x = s ts a.value a.rest a.first in
    let y = more_derives Lower ops node lower s 256 a.value t x.0 a.rest rest (one x.2) a.last in
    (y.0, x.1 ∙ y.1, y.2)

-- so tokens that a level reads have one tree
pub one_tree : (Is : List Token → Expression → Type 0) (level b n : ℕ) (read : Reader Expression) → Reads Is level b n read → (ts : List Token) (t u : Expression) → Is ts t → Is ts u → length ts ≤ b → expr_depth t ≤ n → expr_depth u ≤ n → t ≡ u
one_tree Is level b n read r ts t u x y w h k = (some_pair t u [] [] (sym (r ts t x w h [] tt) ∙ r ts u y w k [] tt)).0
