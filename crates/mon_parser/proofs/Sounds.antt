-- What is read as a list, a tuple, a right side, an atom or what stands behind one derives.
use Rattle.std.proofs.Common.{◌≡◌, ℕ, List, [], ◌∷◌, ◌++◌, length, refl, sym, ap, ◌∙◌, append_assoc, append-nil, subst}
use Rattle.std.specs.Prelude.{Option, Some, None, ⊤, Bool, true, false, ℤ, pos}
use Rattle.mon_lexer.specs.declared.token.Token.{Token}
use Rattle.mon_lexer.specs.declared.token.Kind.{Kind}
use Rattle.mon_lexer.specs.declared.token.Kind.TheVariants as kind
use Rattle.mon_lexer.specs.declared.token.Operator.TheVariants as operator
use Rattle.mon_lexer.specs.declared.token.Keyword.TheVariants as word
use Rattle.mon_parser.specs.declared.cursor.Sign.TheVariants as sign
use Rattle.mon_trees.specs.declared.tree.Expression.{Expression}
use Rattle.mon_trees.specs.declared.tree.Expression as tree
use Rattle.mon_trees.specs.declared.tree.Expression.TheViews as node
use Rattle.mon_parser.specs.Tokens.{mark, key, symbol, name, int, text, single_of}
use Rattle.mon_parser.specs.Reader.{Answer, Reader, then_read, choose, pick, next_at, by_option, mark_at, made, text_at, name_at, number_at, starts, is_comma, is_comma_kind, is_yield, yield_line, more_items, more_texts, read_tuple, read_args, read_rhs, group_from, read_atom}
use Rattle.mon_parser.specs.Grammar.{IsTexts, texts_one, texts_more, single_word, IsExpr, IsExprs, exprs_one, exprs_more, IsTuple, tuple_one, tuple_tuple, tuple_comma, IsArgs, args_none, args_some, args_comma, IsRhs, rhs_yield, rhs_yield_value, rhs_tuple, IsAtom, atom_name, atom_int, atom_texts, atom_single, atom_empty, atom_group}
use Rattle.mon_parser.proofs.Left.{Sound, Derived, some_pair, then_was, made_is}
use Rattle.mon_parser.proofs.Compared.{took, Chose, chose_other, chose_some, chose}
use Rattle.mon_parser.proofs.Items.{Tail, stop, trailing, next, DerivedAs, tail_sound, comma_sound}

-- a pick went one way or the other
pub data Picked {B : Type 0} (c : Bool) (a b whole : Answer B) : Type 0 where
  picked_true : c ≡ true → a ≡ whole → Picked c a b whole
  picked_false : c ≡ false → b ≡ whole → Picked c a b whole

pub picked : {B : Type 0} (c : Bool) (a b whole : Answer B) → pick c a b ≡ whole → Picked c a b whole
unfolding pick
picked true a b whole e = picked_true refl e
picked false a b whole e = picked_false refl e

-- a first part and a tail are a list, without or with a comma at its end
pub data Listed : List Token → List Expression → Type 0 where
  listed : {ts : List Token} {es : List Expression} → IsExprs ts es → Listed ts es
  listed_comma : {ts : List Token} {es : List Expression} (l : ℕ) → IsExprs ts es → Listed (ts ++ symbol operator.Comma l ∷ []) es

listed_more : {ts us : List Token} {e : Expression} {es : List Expression} (l : ℕ) → IsExpr ts e → Listed us es → Listed (ts ++ symbol operator.Comma l ∷ us) (e ∷ es)
listed_more l d (listed x) = listed (exprs_more l d x)
listed_more {ts = vs} {e = e} {es = fs} l d (listed_comma {ts = ts} k x) =
    let some : Listed ((vs ++ symbol operator.Comma l ∷ ts) ++ symbol operator.Comma k ∷ []) (e ∷ fs) = listed_comma k (exprs_more l d x) in
    subst (λ z. Listed z (e ∷ fs)) (append_assoc vs (symbol operator.Comma l ∷ ts) (symbol operator.Comma k ∷ [])) some

pub of_tail : {us : List Token} {es : List Expression} → Tail IsExpr us es → {ts : List Token} {e : Expression} → IsExpr ts e → Listed (ts ++ us) (e ∷ es)
of_tail stop {ts = ts} {e = e} d = subst (λ z. Listed z (e ∷ [])) (sym (append-nil ts)) (listed (exprs_one d))
of_tail (trailing l) d = listed_comma l (exprs_one d)
of_tail (next l i x) d = listed_more l d (of_tail x i)

args_of : {ts : List Token} {es : List Expression} → Listed ts es → IsArgs ts es
args_of (listed d) = args_some d
args_of (listed_comma l d) = args_comma l d

pub args_derive : (expr : Reader Expression) → Sound IsExpr expr → (ts : List Token) (es : List Expression) (rest : List Token) → read_args expr ts ≡ Some (es, rest) → DerivedAs IsArgs ts es rest
args_derive expr s ts es rest e = by_start (picked (starts ts) some (Some ([], ts)) (Some (es, rest)) e)
  where
    some : Answer (List Expression)
    some = then_read (expr ts) (λ e left. then_read (more_items starts expr (length left) left) (λ es end. Some (e ∷ es, end)))

    by_start : Picked (starts ts) some (Some ([], ts)) (Some (es, rest)) → DerivedAs IsArgs ts es rest
    by_start (picked_false c h) = let p = some_pair [] es ts rest h in ([], p.1, subst (λ z. IsArgs [] z) p.0 args_none)
    by_start (picked_true c h) =
        let a = then_was (expr ts) (λ e left. then_read (more_items starts expr (length left) left) (λ es end. Some (e ∷ es, end))) (es, rest) h in
        let b = then_was (more_items starts expr (length a.rest) a.rest) (λ es end. Some (a.value ∷ es, end)) (es, rest) a.last in
        let p = some_pair (a.value ∷ b.value) es b.rest rest b.last in
        let x = s ts a.value a.rest a.first in
        let y = tail_sound IsExpr starts expr s (length a.rest) a.rest b.value b.rest b.first in
        (x.0 ++ y.0, x.1 ∙ ap (λ r. x.0 ++ r) (y.1 ∙ ap (λ r. y.0 ++ r) p.1) ∙ sym (append_assoc x.0 y.0 rest), subst (λ z. IsArgs (x.0 ++ y.0) z) p.0 (args_of (of_tail y.2 x.2)))

-- where a comma comes
comma_kind_is : (k : Kind) → is_comma_kind k ≡ true → k ≡ (kind.Operator operator.Comma)
comma_kind_is (kind.Operator operator.Comma) e = refl
comma_kind_is _ e = cc

pub comma_first : (ts : List Token) → is_comma ts ≡ true → (l : ℕ) × (us : List Token) × (ts ≡ symbol operator.Comma l ∷ us)
unfolding is_comma
comma_first [] e = cc
comma_first (t ∷ ts) e = (t.line, ts, ap (λ k. mark k t.line ∷ ts) (comma_kind_is t.kind e))

-- behind a first part, a tail that begins with a comma makes a tuple
tuple_of : {ts us : List Token} {e : Expression} {es : List Expression} → IsExpr ts e → Tail IsExpr us es → (us ≡ [] → ⊥) → IsTuple (ts ++ us) (node.Tuple (e ∷ es))
tuple_of d stop h = absurd (h refl)
tuple_of d (trailing l) h = tuple_comma l (exprs_one d)
tuple_of {ts = vs} {e = a} d (next {ts = ts} {us = us} {a = c} {more = cs} l i x) h = by_list vs (ts ++ us) a (c ∷ cs) l d (of_tail x i)
  where
    by_list : (vs us : List Token) (a : Expression) (es : List Expression) (l : ℕ) → IsExpr vs a → Listed us es → IsTuple (vs ++ symbol operator.Comma l ∷ us) (node.Tuple (a ∷ es))
    by_list vs us a es l d (listed y) = tuple_tuple l d y
    by_list vs us a es l d (listed_comma {ts = ts} k y) =
        let some : IsTuple ((vs ++ symbol operator.Comma l ∷ ts) ++ symbol operator.Comma k ∷ []) (node.Tuple (a ∷ es)) = tuple_comma k (exprs_more l d y) in
        subst (λ z. IsTuple z (node.Tuple (a ∷ es))) (append_assoc vs (symbol operator.Comma l ∷ ts) (symbol operator.Comma k ∷ [])) some

pub tuple_derives : (expr : Reader Expression) → Sound IsExpr expr → Sound IsTuple (read_tuple expr)
tuple_derives expr s ts t rest e =
    let a = then_was (expr ts) behind (t, rest) e in
    by_comma a.value a.rest (s ts a.value a.rest a.first) (picked (is_comma a.rest) (more a.value a.rest) (Some (a.value, a.rest)) (Some (t, rest)) a.last)
  where
    more : Expression → List Token → Answer Expression
    more e left = then_read (more_items starts expr (length left) left) (λ es end. made (node.Tuple (e ∷ es)) end)

    behind : Expression → Reader Expression
    behind e left = pick (is_comma left) (more e left) (Some (e, left))

    by_comma : (e : Expression) (left : List Token) → Derived IsExpr ts e left → Picked (is_comma left) (more e left) (Some (e, left)) (Some (t, rest)) → Derived IsTuple ts t rest
    by_comma e left d (picked_false c h) = let p = some_pair e t left rest h in (d.0, d.1 ∙ ap (λ r. d.0 ++ r) p.1, subst (λ z. IsTuple d.0 z) p.0 (tuple_one d.2))
    by_comma e left d (picked_true c h) =
        let f = comma_first left c in
        let g : more e (symbol operator.Comma f.0 ∷ f.1) ≡ Some (t, rest) = subst (λ z. more e z ≡ Some (t, rest)) f.2 h in
        let b = then_was (more_items starts expr (length (symbol operator.Comma f.0 ∷ f.1)) (symbol operator.Comma f.0 ∷ f.1)) (λ es end. made (node.Tuple (e ∷ es)) end) (t, rest) g in
        let m = made_is (node.Tuple (e ∷ b.value)) t b.rest rest b.last in
        let y = comma_sound IsExpr starts expr s (length f.1) f.0 f.1 b.value b.rest b.first in
        let us : List Token = symbol operator.Comma f.0 ∷ y.0 in (
          d.0 ++ us,
          d.1 ∙ ap (λ r. d.0 ++ r) (f.2 ∙ ap (λ r. symbol operator.Comma f.0 ∷ r) (y.1 ∙ ap (λ r. y.0 ++ r) m.1)) ∙ sym (append_assoc d.0 us rest),
          subst (λ z. IsTuple (d.0 ++ us) z) m.0 (tuple_of d.2 y.2 (λ q. cc)),
        )

-- a `yield` that comes next
yield_kind_is : (k : Kind) → is_yield k ≡ true → k ≡ kind.Keyword word.Yield
yield_kind_is (kind.Keyword word.Yield) e = refl
yield_kind_is _ e = cc

yield_first : (ts : List Token) (l : ℕ) (rest : List Token) → yield_line ts ≡ Some (l, rest) → ts ≡ key word.Yield l ∷ rest
unfolding yield_line pick
yield_first [] l rest e = cc
yield_first (t ∷ ts) l rest e = by_kind (is_yield t.kind) refl e
  where
    by_kind : (c : Bool) → is_yield t.kind ≡ c → pick c (Some (t.line, ts)) None ≡ Some (l, rest) → t ∷ ts ≡ key word.Yield l ∷ rest
    by_kind false c h = cc
    by_kind true c h = let p = some_pair t.line l ts rest h in ap (λ k. mark k t.line ∷ ts) (yield_kind_is t.kind c) ∙ ap (λ n. key word.Yield n ∷ ts) p.0 ∙ ap (λ r. key word.Yield l ∷ r) p.1

pub rhs_derives : (expr : Reader Expression) → Sound IsExpr expr → Sound IsRhs (read_rhs expr)
rhs_derives expr s ts t rest e = by_yield (chose (yield_line ts) (read_tuple expr ts) behind (Some (t, rest)) e)
  where
    value : ℕ → List Token → Answer Expression
    value line left = then_read (read_tuple expr left) (λ e end. made (node.Yield line (Some e)) end)

    behind : ℕ → Reader Expression
    behind line left = pick (starts left) (value line left) (Some (node.Yield line None, left))

    by_start : (line : ℕ) (left : List Token) → ts ≡ key word.Yield line ∷ left → Picked (starts left) (value line left) (Some (node.Yield line None, left)) (Some (t, rest)) → Derived IsRhs ts t rest
    by_start line left f (picked_false c h) = let p = some_pair (node.Yield line None) t left rest h in (key word.Yield line ∷ [], f ∙ ap (λ r. key word.Yield line ∷ r) p.1, subst (λ z. IsRhs (key word.Yield line ∷ []) z) p.0 (rhs_yield line))
    by_start line left f (picked_true c h) =
        let a = then_was (read_tuple expr left) (λ e end. made (node.Yield line (Some e)) end) (t, rest) h in
        let m = made_is (node.Yield line (Some a.value)) t a.rest rest a.last in
        let x = tuple_derives expr s left a.value a.rest a.first in
        (key word.Yield line ∷ x.0, f ∙ ap (λ r. key word.Yield line ∷ r) (x.1 ∙ ap (λ r. x.0 ++ r) m.1), subst (λ z. IsRhs (key word.Yield line ∷ x.0) z) m.0 (rhs_yield_value line x.2))

    by_yield : Chose (yield_line ts) (read_tuple expr ts) behind (Some (t, rest)) → Derived IsRhs ts t rest
    by_yield (chose_other none h) = let x = tuple_derives expr s ts t rest h in (x.0, x.1, rhs_tuple x.2)
    by_yield (chose_some line left first h) = by_start line left (yield_first ts line left first) (picked (starts left) (value line left) (Some (node.Yield line None, left)) (Some (t, rest)) h)

-- joined texts
pub data Joined : List Token → List ℕ → Type 0 where
  joined_none : Joined [] []
  joined_some : {ts : List Token} {s : List ℕ} → IsTexts ts s → Joined ts s

pub joined_more : {ts : List Token} {u : List ℕ} (s : List ℕ) (l : ℕ) → Joined ts u → IsTexts (text s l ∷ ts) (s ++ u)
joined_more s l joined_none = subst (λ z. IsTexts (text s l ∷ []) z) (sym (append-nil s)) (texts_one l)
joined_more s l (joined_some d) = texts_more l d

pub text_is : (k : Kind) (s : List ℕ) → text_at k ≡ Some s → k ≡ kind.Text s
text_is (kind.Text u) s e = cc
text_is _ s e = cc

by_text : (s : List ℕ) (t : Token) (ts : List Token) (u : List ℕ) (rest : List Token)
    → ((v : List ℕ) → more_texts (s ++ v) ts ≡ Some (u, rest) → (vs : List Token) × (w : List ℕ) × (ts ≡ vs ++ rest) × (u ≡ (s ++ v) ++ w) × Joined vs w)
    → (o : Option (List ℕ)) → text_at t.kind ≡ o → by_option o (Some (s, t ∷ ts)) (λ v. more_texts (s ++ v) ts) ≡ Some (u, rest) → (vs : List Token) × (w : List ℕ) × (t ∷ ts ≡ vs ++ rest) × (u ≡ s ++ w) × Joined vs w
by_text s t ts u rest again None o e = let p = some_pair s u (t ∷ ts) rest e in ([], [], p.1, sym p.0 ∙ sym (append-nil s), joined_none)
by_text s t ts u rest again (Some v) o e =
    let x = again v e in
    let spelled : t ∷ ts ≡ text v t.line ∷ ts = ap (λ k. mark k t.line ∷ ts) (text_is t.kind v o) in
    (text v t.line ∷ x.0, v ++ x.1, spelled ∙ ap (λ r. text v t.line ∷ r) x.2, x.3 ∙ append_assoc s v x.1, joined_some (joined_more v t.line x.4))

pub texts_derive : (s : List ℕ) (ts : List Token) (u : List ℕ) (rest : List Token) → more_texts s ts ≡ Some (u, rest) → (vs : List Token) × (w : List ℕ) × (ts ≡ vs ++ rest) × (u ≡ s ++ w) × Joined vs w
unfolding more_texts
texts_derive s [] u rest e = let p = some_pair s u [] rest e in ([], [], p.1, sym p.0 ∙ sym (append-nil s), joined_none)
texts_derive s (t ∷ ts) u rest e = by_text s t ts u rest (λ v h. texts_derive (s ++ v) ts u rest h) (text_at t.kind) refl e

pub close_is : (k : Kind) (x : ⊤) → mark_at sign.CloseRound k ≡ Some x → k ≡ (kind.Operator operator.CloseRound)
close_is (kind.Operator operator.CloseRound) x e = refl
close_is _ x e = cc

pub open_is : (k : Kind) (x : ⊤) → mark_at sign.OpenRound k ≡ Some x → k ≡ (kind.Operator operator.OpenRound)
open_is (kind.Operator operator.OpenRound) x e = refl
open_is _ x e = cc

pub group_derives : (expr : Reader Expression) → Sound IsExpr expr → (l : ℕ) (ts : List Token) (t : Expression) (rest : List Token) → group_from expr ts ≡ Some (t, rest) → Derived IsAtom (symbol operator.OpenRound l ∷ ts) t rest
group_derives expr s l ts t rest e = by_close (chose (next_at (mark_at sign.CloseRound) ts) inner (λ is left. Some (tree.Empty, left)) (Some (t, rest)) e)
  where
    behind : Expression → Reader Expression
    behind e left = then_read (next_at (mark_at sign.CloseRound) left) (λ is end. Some (e, end))

    inner : Answer Expression
    inner = then_read (read_rhs expr ts) behind

    by_close : Chose (next_at (mark_at sign.CloseRound) ts) inner (λ is left. Some (tree.Empty, left)) (Some (t, rest)) → Derived IsAtom (symbol operator.OpenRound l ∷ ts) t rest
    by_close (chose_some is left first h) =
        let k = took (mark_at sign.CloseRound) ts is left first in
        let p = some_pair tree.Empty t left rest h in (
          symbol operator.OpenRound l ∷ (symbol operator.CloseRound k.line ∷ []),
          ap (λ r. symbol operator.OpenRound l ∷ r) (k.front ∙ ap (λ j. mark j k.line ∷ left) (close_is k.kind is k.says) ∙ ap (λ r. symbol operator.CloseRound k.line ∷ r) p.1),
          subst (λ z. IsAtom (symbol operator.OpenRound l ∷ (symbol operator.CloseRound k.line ∷ [])) z) p.0 (atom_empty l k.line),
        )
    by_close (chose_other none h) =
        let a = then_was (read_rhs expr ts) behind (t, rest) h in
        let b = then_was (next_at (mark_at sign.CloseRound) a.rest) (λ is end. Some (a.value, end)) (t, rest) a.last in
        let k = took (mark_at sign.CloseRound) a.rest b.value b.rest b.first in
        let p = some_pair a.value t b.rest rest b.last in
        let x = rhs_derives expr s ts a.value a.rest a.first in
        let us : List Token = x.0 ++ symbol operator.CloseRound k.line ∷ [] in
        let closing : a.rest ≡ symbol operator.CloseRound k.line ∷ rest = k.front ∙ ap (λ j. mark j k.line ∷ b.rest) (close_is k.kind b.value k.says) ∙ ap (λ r. symbol operator.CloseRound k.line ∷ r) p.1 in (
          symbol operator.OpenRound l ∷ us,
          ap (λ r. symbol operator.OpenRound l ∷ r) (x.1 ∙ ap (λ r. x.0 ++ r) closing ∙ sym (append_assoc x.0 (symbol operator.CloseRound k.line ∷ []) rest)),
          subst (λ z. IsAtom (symbol operator.OpenRound l ∷ us) z) p.0 (atom_group l k.line x.2),
        )

pub number_is : (k : Kind) (z : ℤ) → number_at k ≡ Some z → (n : ℕ) × (k ≡ kind.Number (pos n)) × (z ≡ pos n)
number_is (kind.Number (pos n)) z e = (n, refl, cc)
number_is _ z e = cc

pub name_is : (k : Kind) (n : List ℕ) → name_at k ≡ Some n → k ≡ kind.Name n
name_is (kind.Name m) n e = cc
name_is _ n e = cc

pub atom_derives : (expr : Reader Expression) → Sound IsExpr expr → Sound IsAtom (read_atom expr)
atom_derives expr s ts t rest e = by_single (chose (next_at single_of ts) numbers (λ s left. Some (tree.Single s, left)) (Some (t, rest)) e)
  where
    opened : Answer Expression
    opened = then_read (next_at (mark_at sign.OpenRound) ts) (λ is left. group_from expr left)

    joins : List ℕ → Reader Expression
    joins s left = then_read (more_texts s left) (λ u end. Some (tree.Text u, end))

    strings : Answer Expression
    strings = choose (next_at text_at ts) opened joins

    names : Answer Expression
    names = choose (next_at name_at ts) strings (λ n left. Some (tree.Name n, left))

    numbers : Answer Expression
    numbers = choose (next_at number_at ts) names (λ z left. Some (tree.Integer z, left))

    by_texts : Chose (next_at text_at ts) opened joins (Some (t, rest)) → Derived IsAtom ts t rest
    by_texts (chose_other none h) =
        let a = then_was (next_at (mark_at sign.OpenRound) ts) (λ is left. group_from expr left) (t, rest) h in
        let k = took (mark_at sign.OpenRound) ts a.value a.rest a.first in
        let x = group_derives expr s k.line a.rest t rest a.last in
        (x.0, k.front ∙ ap (λ j. mark j k.line ∷ a.rest) (open_is k.kind a.value k.says) ∙ x.1, x.2)
    by_texts (chose_some v left first h) =
        let k = took text_at ts v left first in
        let a = then_was (more_texts v left) (λ u end. Some (tree.Text u, end)) (t, rest) h in
        let x = texts_derive v left a.value a.rest a.first in
        let p = some_pair (tree.Text a.value) t a.rest rest a.last in (
          text v k.line ∷ x.0,
          k.front ∙ ap (λ j. mark j k.line ∷ left) (text_is k.kind v k.says) ∙ ap (λ r. text v k.line ∷ r) (x.2 ∙ ap (λ r. x.0 ++ r) p.1),
          subst (λ z. IsAtom (text v k.line ∷ x.0) z) (ap (λ u. tree.Text u) (sym x.3) ∙ p.0) (atom_texts (joined_more v k.line x.4)),
        )

    by_name : Chose (next_at name_at ts) strings (λ n left. Some (tree.Name n, left)) (Some (t, rest)) → Derived IsAtom ts t rest
    by_name (chose_other none h) = by_texts (chose (next_at text_at ts) opened joins (Some (t, rest)) h)
    by_name (chose_some n left first h) =
        let k = took name_at ts n left first in
        let p = some_pair (tree.Name n) t left rest h in
        (name n k.line ∷ [], k.front ∙ ap (λ j. mark j k.line ∷ left) (name_is k.kind n k.says) ∙ ap (λ r. name n k.line ∷ r) p.1, subst (λ z. IsAtom (name n k.line ∷ []) z) p.0 (atom_name k.line))

    by_number : Chose (next_at number_at ts) names (λ z left. Some (tree.Integer z, left)) (Some (t, rest)) → Derived IsAtom ts t rest
    by_number (chose_other none h) = by_name (chose (next_at name_at ts) strings (λ n left. Some (tree.Name n, left)) (Some (t, rest)) h)
    by_number (chose_some z left first h) =
        let k = took number_at ts z left first in
        let i = number_is k.kind z k.says in
        let p = some_pair (tree.Integer z) t left rest h in
        (int i.0 k.line ∷ [], k.front ∙ ap (λ j. mark j k.line ∷ left) i.1 ∙ ap (λ r. int i.0 k.line ∷ r) p.1, subst (λ y. IsAtom (int i.0 k.line ∷ []) y) (ap (λ y. tree.Integer y) (sym i.2) ∙ p.0) (atom_int k.line))

    by_single : Chose (next_at single_of ts) numbers (λ s left. Some (tree.Single s, left)) (Some (t, rest)) → Derived IsAtom ts t rest
    by_single (chose_other none h) = by_number (chose (next_at number_at ts) names (λ z left. Some (tree.Integer z, left)) (Some (t, rest)) h)
    by_single (chose_some v left first h) =
        let k = took single_of ts v left first in
        let p = some_pair (tree.Single v) t left rest h in
        (mark k.kind k.line ∷ [], k.front ∙ ap (λ r. mark k.kind k.line ∷ r) p.1, subst (λ z. IsAtom (mark k.kind k.line ∷ []) z) p.0 (atom_single (single_word k.line k.says)))
