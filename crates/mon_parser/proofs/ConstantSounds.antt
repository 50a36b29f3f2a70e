-- What is read as constants derives.
use Rattle.std.proofs.Common.{◌≡◌, ℕ, zero, suc, List, [], ◌∷◌, ◌++◌, length, refl, sym, ap, ◌∙◌, append_assoc, append-nil, subst}
use Rattle.std.specs.Prelude.{Some, ⊤, neg_ℤ}
use Rattle.mon_lexer.specs.declared.token.Token.{Token}
use Rattle.mon_lexer.specs.declared.token.Operator.TheVariants as operator
use Rattle.mon_parser.specs.declared.cursor.Sign.TheVariants as sign
use Rattle.mon_trees.specs.declared.tree.Constant.{Constant}
use Rattle.mon_trees.specs.declared.tree.Constant as const
use Rattle.mon_trees.specs.declared.tree.Constant.TheViews as consts
use Rattle.mon_parser.specs.Tokens.{mark, symbol, int, text, single_of}
use Rattle.mon_parser.specs.Depth.{const_depth}
use Rattle.mon_parser.specs.Reader.{Answer, Reader, then_read, choose, pick, next_at, mark_at, within, text_at, number_at, is_comma, more_items, more_texts}
use Rattle.mon_parser.specs.Statements.{starts_constant, read_constants, read_constant}
use Rattle.mon_parser.specs.Grammar.{single_word, IsConsts, consts_one, consts_tuple, consts_comma, IsConstList, const_list_one, const_list_more, IsConst, const_int, const_negative, const_texts, const_single, const_empty, const_group}
use Rattle.mon_parser.proofs.Left.{some_pair, then_was}
use Rattle.mon_parser.proofs.Compared.{took, Chose, chose_other, chose_some, chose}
use Rattle.mon_parser.proofs.Items.{Tail, stop, trailing, next, DerivedAs, comma_sound}
use Rattle.mon_parser.proofs.Sounds.{Picked, picked_true, picked_false, picked, comma_first, joined_more, text_is, texts_derive, number_is}
use Rattle.mon_parser.proofs.Signs.{sign_comes, behind, behind_token, within_is}

-- what is read is a constant
abbrev pub SoundConst : Reader Constant → Type 0
SoundConst read = (ts : List Token) (c : Constant) (rest : List Token) → read ts ≡ Some (c, rest) → DerivedAs IsConst ts c rest

-- a first part and a tail are a list, without or with a comma at its end
data Listed : List Token → List Constant → Type 0 where
  listed : {ts : List Token} {cs : List Constant} → IsConstList ts cs → Listed ts cs
  listed_comma : {ts : List Token} {cs : List Constant} (l : ℕ) → IsConstList ts cs → Listed (ts ++ symbol operator.Comma l ∷ []) cs

listed_more : {ts us : List Token} {c : Constant} {cs : List Constant} (l : ℕ) → IsConst ts c → Listed us cs → Listed (ts ++ symbol operator.Comma l ∷ us) (c ∷ cs)
listed_more l d (listed x) = listed (const_list_more l d x)
listed_more {ts = vs} {c = c} {cs = cs} l d (listed_comma {ts = ts} k x) =
    let some : Listed ((vs ++ symbol operator.Comma l ∷ ts) ++ symbol operator.Comma k ∷ []) (c ∷ cs) = listed_comma k (const_list_more l d x) in
    subst (λ z. Listed z (c ∷ cs)) (append_assoc vs (symbol operator.Comma l ∷ ts) (symbol operator.Comma k ∷ [])) some

of_tail : {us : List Token} {cs : List Constant} → Tail IsConst us cs → {ts : List Token} {c : Constant} → IsConst ts c → Listed (ts ++ us) (c ∷ cs)
of_tail stop {ts = ts} {c = c} d = subst (λ z. Listed z (c ∷ [])) (sym (append-nil ts)) (listed (const_list_one d))
of_tail (trailing l) d = listed_comma l (const_list_one d)
of_tail (next l i x) d = listed_more l d (of_tail x i)

-- behind a first part, a tail that begins with a comma makes a tuple
tuple_of : {ts us : List Token} {c : Constant} {cs : List Constant} → IsConst ts c → Tail IsConst us cs → (us ≡ [] → ⊥) → IsConsts (ts ++ us) (consts.Tuple (c ∷ cs))
tuple_of d stop h = absurd (h refl)
tuple_of d (trailing l) h = consts_comma l (const_list_one d)
tuple_of {ts = vs} {c = a} d (next {ts = ts} {us = us} {a = c} {more = cs} l i x) h = by_list vs (ts ++ us) a (c ∷ cs) l d (of_tail x i)
  where
    by_list : (vs us : List Token) (a : Constant) (cs : List Constant) (l : ℕ) → IsConst vs a → Listed us cs → IsConsts (vs ++ symbol operator.Comma l ∷ us) (consts.Tuple (a ∷ cs))
    by_list vs us a cs l d (listed y) = consts_tuple l d y
    by_list vs us a cs l d (listed_comma {ts = ts} k y) =
        let some : IsConsts ((vs ++ symbol operator.Comma l ∷ ts) ++ symbol operator.Comma k ∷ []) (consts.Tuple (a ∷ cs)) = consts_comma k (const_list_more l d y) in
        subst (λ z. IsConsts z (consts.Tuple (a ∷ cs))) (append_assoc vs (symbol operator.Comma l ∷ ts) (symbol operator.Comma k ∷ [])) some

pub consts_derive : (constant : Reader Constant) → SoundConst constant → (ts : List Token) (c : Constant) (rest : List Token) → read_constants constant ts ≡ Some (c, rest) → DerivedAs IsConsts ts c rest
consts_derive constant s ts c rest e =
    let a = then_was (constant ts) following (c, rest) e in
    by_comma a.value a.rest (s ts a.value a.rest a.first) (picked (is_comma a.rest) (more a.value a.rest) (Some (a.value, a.rest)) (Some (c, rest)) a.last)
  where
    more : Constant → List Token → Answer Constant
    more a left = then_read (more_items starts_constant constant (length left) left) (λ cs end. within const_depth (consts.Tuple (a ∷ cs)) end)

    following : Constant → Reader Constant
    following a left = pick (is_comma left) (more a left) (Some (a, left))

    by_comma : (a : Constant) (left : List Token) → DerivedAs IsConst ts a left → Picked (is_comma left) (more a left) (Some (a, left)) (Some (c, rest)) → DerivedAs IsConsts ts c rest
    by_comma a left d (picked_false q h) = let p = some_pair a c left rest h in (d.0, d.1 ∙ ap (λ r. d.0 ++ r) p.1, subst (λ z. IsConsts d.0 z) p.0 (consts_one d.2))
    by_comma a left d (picked_true q h) =
        let f = comma_first left q in
        let g : more a (symbol operator.Comma f.0 ∷ f.1) ≡ Some (c, rest) = subst (λ z. more a z ≡ Some (c, rest)) f.2 h in
        let b = then_was (more_items starts_constant constant (length (symbol operator.Comma f.0 ∷ f.1)) (symbol operator.Comma f.0 ∷ f.1)) (λ cs end. within const_depth (consts.Tuple (a ∷ cs)) end) (c, rest) g in
        let m = within_is const_depth (consts.Tuple (a ∷ b.value)) c b.rest rest b.last in
        let y = comma_sound IsConst starts_constant constant s (length f.1) f.0 f.1 b.value b.rest b.first in
        let us : List Token = symbol operator.Comma f.0 ∷ y.0 in (
          d.0 ++ us,
          behind d.0 us rest d.1 (behind_token (symbol operator.Comma f.0) y.0 rest f.2 (y.1 ∙ ap (λ r. y.0 ++ r) m.1)),
          subst (λ z. IsConsts (d.0 ++ us) z) m.0 (tuple_of d.2 y.2 (λ q. cc)),
        )

const_derives : (brackets : ℕ) → SoundConst (read_constant brackets) → SoundConst (read_constant (suc brackets))
unfolding read_constant
const_derives brackets s ts c rest e = by_single (chose (next_at single_of ts) numbers (λ s left. Some (const.Single s, left)) (Some (c, rest)) e)
  where
    closed : Constant → Reader Constant
    closed a left = then_read (next_at (mark_at sign.CloseRound) left) (λ is end. Some (a, end))

    inner : Reader Constant
    inner left = then_read (read_constants (read_constant brackets) left) closed

    group : Reader Constant
    group left = choose (next_at (mark_at sign.CloseRound) left) (inner left) (λ is end. Some (const.Empty, end))

    opened : Answer Constant
    opened = then_read (next_at (mark_at sign.OpenRound) ts) (λ is left. group left)

    minus : ⊤ → Reader Constant
    minus is left = then_read (next_at number_at left) (λ z end. Some (const.Integer (neg_ℤ z), end))

    signs : Answer Constant
    signs = choose (next_at (mark_at sign.Minus) ts) opened minus

    joins : List ℕ → Reader Constant
    joins s left = then_read (more_texts s left) (λ u end. Some (const.Text u, end))

    strings : Answer Constant
    strings = choose (next_at text_at ts) signs joins

    numbers : Answer Constant
    numbers = choose (next_at number_at ts) strings (λ z left. Some (const.Integer z, left))

    by_group : (l : ℕ) (left : List Token) → ts ≡ symbol operator.OpenRound l ∷ left → Chose (next_at (mark_at sign.CloseRound) left) (inner left) (λ is end. Some (const.Empty, end)) (Some (c, rest)) → DerivedAs IsConst ts c rest
    by_group l left f (chose_some is end first h) =
        let k = sign_comes sign.CloseRound left is end first in
        let p = some_pair const.Empty c end rest h in
        (symbol operator.OpenRound l ∷ (symbol operator.CloseRound k.0 ∷ []), f ∙ ap (λ r. symbol operator.OpenRound l ∷ r) (k.1 ∙ ap (λ r. symbol operator.CloseRound k.0 ∷ r) p.1), subst (λ z. IsConst (symbol operator.OpenRound l ∷ (symbol operator.CloseRound k.0 ∷ [])) z) p.0 (const_empty l k.0))
    by_group l left f (chose_other none h) =
        let a = then_was (read_constants (read_constant brackets) left) closed (c, rest) h in
        let b = then_was (next_at (mark_at sign.CloseRound) a.rest) (λ is end. Some (a.value, end)) (c, rest) a.last in
        let k = sign_comes sign.CloseRound a.rest b.value b.rest b.first in
        let p = some_pair a.value c b.rest rest b.last in
        let x = consts_derive (read_constant brackets) s left a.value a.rest a.first in
        let us : List Token = x.0 ++ symbol operator.CloseRound k.0 ∷ [] in (
          symbol operator.OpenRound l ∷ us,
          behind_token (symbol operator.OpenRound l) us rest f (behind x.0 (symbol operator.CloseRound k.0 ∷ []) rest x.1 (k.1 ∙ ap (λ r. symbol operator.CloseRound k.0 ∷ r) p.1)),
          subst (λ z. IsConst (symbol operator.OpenRound l ∷ us) z) p.0 (const_group l k.0 x.2),
        )

    by_minus : Chose (next_at (mark_at sign.Minus) ts) opened minus (Some (c, rest)) → DerivedAs IsConst ts c rest
    by_minus (chose_other none h) =
        let a = then_was (next_at (mark_at sign.OpenRound) ts) (λ is left. group left) (c, rest) h in
        let k = sign_comes sign.OpenRound ts a.value a.rest a.first in
        by_group k.0 a.rest k.1 (chose (next_at (mark_at sign.CloseRound) a.rest) (inner a.rest) (λ is end. Some (const.Empty, end)) (Some (c, rest)) a.last)
    by_minus (chose_some is left first h) =
        let k = sign_comes sign.Minus ts is left first in
        let a = then_was (next_at number_at left) (λ z end. Some (const.Integer (neg_ℤ z), end)) (c, rest) h in
        let j = took number_at left a.value a.rest a.first in
        let i = number_is j.kind a.value j.says in
        let p = some_pair (const.Integer (neg_ℤ a.value)) c a.rest rest a.last in (
          symbol operator.Minus k.0 ∷ (int i.0 j.line ∷ []),
          k.1 ∙ ap (λ r. symbol operator.Minus k.0 ∷ r) (j.front ∙ ap (λ q. mark q j.line ∷ a.rest) i.1 ∙ ap (λ r. int i.0 j.line ∷ r) p.1),
          subst (λ z. IsConst (symbol operator.Minus k.0 ∷ (int i.0 j.line ∷ [])) z) (ap (λ y. const.Integer (neg_ℤ y)) (sym i.2) ∙ p.0) (const_negative k.0 j.line),
        )

    by_texts : Chose (next_at text_at ts) signs joins (Some (c, rest)) → DerivedAs IsConst ts c rest
    by_texts (chose_other none h) = by_minus (chose (next_at (mark_at sign.Minus) ts) opened minus (Some (c, rest)) h)
    by_texts (chose_some v left first h) =
        let k = took text_at ts v left first in
        let a = then_was (more_texts v left) (λ u end. Some (const.Text u, end)) (c, rest) h in
        let x = texts_derive v left a.value a.rest a.first in
        let p = some_pair (const.Text a.value) c a.rest rest a.last in (
          text v k.line ∷ x.0,
          k.front ∙ ap (λ j. mark j k.line ∷ left) (text_is k.kind v k.says) ∙ ap (λ r. text v k.line ∷ r) (x.2 ∙ ap (λ r. x.0 ++ r) p.1),
          subst (λ z. IsConst (text v k.line ∷ x.0) z) (ap (λ u. const.Text u) (sym x.3) ∙ p.0) (const_texts (joined_more v k.line x.4)),
        )

    by_number : Chose (next_at number_at ts) strings (λ z left. Some (const.Integer z, left)) (Some (c, rest)) → DerivedAs IsConst ts c rest
    by_number (chose_other none h) = by_texts (chose (next_at text_at ts) signs joins (Some (c, rest)) h)
    by_number (chose_some z left first h) =
        let k = took number_at ts z left first in
        let i = number_is k.kind z k.says in
        let p = some_pair (const.Integer z) c left rest h in
        (int i.0 k.line ∷ [], k.front ∙ ap (λ j. mark j k.line ∷ left) i.1 ∙ ap (λ r. int i.0 k.line ∷ r) p.1, subst (λ y. IsConst (int i.0 k.line ∷ []) y) (ap (λ y. const.Integer y) (sym i.2) ∙ p.0) (const_int k.line))

    by_single : Chose (next_at single_of ts) numbers (λ s left. Some (const.Single s, left)) (Some (c, rest)) → DerivedAs IsConst ts c rest
    by_single (chose_other none h) = by_number (chose (next_at number_at ts) strings (λ z left. Some (const.Integer z, left)) (Some (c, rest)) h)
    by_single (chose_some v left first h) =
        let k = took single_of ts v left first in
        let p = some_pair (const.Single v) c left rest h in
        (mark k.kind k.line ∷ [], k.front ∙ ap (λ r. mark k.kind k.line ∷ r) p.1, subst (λ z. IsConst (mark k.kind k.line ∷ []) z) p.0 (const_single (single_word k.line k.says)))

pub const_sound : (brackets : ℕ) → SoundConst (read_constant brackets)
unfolding read_constant
const_sound zero ts c rest e = cc
const_sound (suc brackets) ts c rest e = const_derives brackets (const_sound brackets) ts c rest e
