-- What is read as a comparison derives.
use Rattle.std.proofs.Common.{◌≡◌, ℕ, List, [], ◌∷◌, ◌++◌, refl, sym, ap, ◌∙◌, append_assoc, subst, inl, inr}
use Rattle.std.specs.Prelude.{Option, Some, None, ⊤, ◌⊎◌}
use Rattle.mon_lexer.specs.declared.token.Token.{Token}
use Rattle.mon_lexer.specs.declared.token.Kind.{Kind}
use Rattle.mon_lexer.specs.declared.token.Kind.TheVariants as kind
use Rattle.mon_lexer.specs.declared.token.Keyword.TheVariants as word
use Rattle.mon_parser.specs.declared.cursor.Sign.TheVariants as sign
use Rattle.mon_trees.specs.declared.tree.Comparison.{Comparison}
use Rattle.mon_trees.specs.declared.tree.Comparison.TheVariants as comparison
use Rattle.mon_trees.specs.declared.tree.Expression.{Expression}
use Rattle.mon_trees.specs.declared.tree.Expression.TheViews as node
use Rattle.mon_parser.specs.Tokens.{mark, key, cmp_op, single_of}
use Rattle.mon_parser.specs.Reader.{Answer, Reader, then_read, choose, next_at, by_option, mark_at, made, compared, compare_from, is_from, read_sum, read_compare}
use Rattle.mon_parser.specs.Grammar.{IsSum, IsCompare, compare_sum, compare_cmp, compare_is, compare_is_not, IsCmp, cmp_one, cmp_not_in, single_word}
use Rattle.mon_parser.proofs.Left.{Sound, Derived, some_pair, then_was, made_is}

-- what a table says of the next token: that token
pub record Took {O : Type 0} (table : Kind → Option O) (ts : List Token) (found : O) (rest : List Token) : Type 0 where
  pub kind : Kind
  pub line : ℕ
  pub front : ts ≡ mark kind line ∷ rest
  pub says : table kind ≡ Some found

pub took : {O : Type 0} (table : Kind → Option O) (ts : List Token) (found : O) (rest : List Token) → next_at table ts ≡ Some (found, rest) → Took table ts found rest
unfolding next_at
took table [] found rest e = cc
took {O} table (t ∷ ts) found rest e = by_table (table t.kind) refl e
  where
    by_table : (o : Option O) → table t.kind ≡ o → by_option {B = Answer O} o None (λ x. Some (x, ts)) ≡ Some (found, rest) → Took table (t ∷ ts) found rest
    by_table None o e = cc
    by_table (Some x) o e = let p = some_pair x found ts rest e in record { kind = t.kind; line = t.line; front = ap (λ r. t ∷ r) p.1; says = o ∙ ap (λ y. Some y) p.0 }

-- a choice went one way or the other
pub data Chose {A B : Type 0} (read : Answer A) (other : Answer B) (go : A → List Token → Answer B) (whole : Answer B) : Type 0 where
  chose_other : read ≡ None → other ≡ whole → Chose read other go whole
  chose_some : (a : A) (rest : List Token) → read ≡ Some (a, rest) → go a rest ≡ whole → Chose read other go whole

pub chose : {A B : Type 0} (read : Answer A) (other : Answer B) (go : A → List Token → Answer B) (whole : Answer B) → choose read other go ≡ whole → Chose read other go whole
unfolding choose
chose None other go whole e = chose_other refl e
chose (Some (a, rest)) other go whole e = chose_some a rest refl e

-- the keywords by their signs
not_is : (k : Kind) (x : ⊤) → mark_at sign.Not k ≡ Some x → k ≡ kind.Keyword word.Not
not_is (kind.Keyword word.Not) x e = refl
not_is _ x e = cc

is_is : (k : Kind) (x : ⊤) → mark_at sign.Is k ≡ Some x → k ≡ kind.Keyword word.Is
is_is (kind.Keyword word.Is) x e = refl
is_is _ x e = cc

in_is : (k : Kind) (x : ⊤) → mark_at sign.In k ≡ Some x → k ≡ kind.Keyword word.In
in_is (kind.Keyword word.In) x e = refl
in_is _ x e = cc

-- what such an end makes of a left part
abbrev Ended : Expression → List Token → Expression → List Token → Type 0
Ended a ts t rest = (us : List Token) × (ts ≡ us ++ rest) × ((left : List Token) → IsSum left a → IsCompare (left ++ us) t)

is_sound : (a : Expression) (l : ℕ) (ts : List Token) (t : Expression) (rest : List Token) → is_from a ts ≡ Some (t, rest) → Ended a (key word.Is l ∷ ts) t rest
is_sound a l ts t rest e = by_choice (chose (next_at (mark_at sign.Not) ts) (then_read (next_at single_of ts) (λ s left. made (node.Is a s) left)) (λ is left. then_read (next_at single_of left) (λ s end. made (node.IsNot a s) end)) (Some (t, rest)) e)
  where
    by_choice : Chose (next_at (mark_at sign.Not) ts) (then_read (next_at single_of ts) (λ s left. made (node.Is a s) left)) (λ is left. then_read (next_at single_of left) (λ s end. made (node.IsNot a s) end)) (Some (t, rest)) → Ended a (key word.Is l ∷ ts) t rest
    by_choice (chose_other none e) =
        let x = then_was (next_at single_of ts) (λ s left. made (node.Is a s) left) (t, rest) e in
        let y = took single_of ts x.value x.rest x.first in
        let m = made_is (node.Is a x.value) t x.rest rest x.last in (
          key word.Is l ∷ (mark y.kind y.line ∷ []),
          ap (λ r. key word.Is l ∷ r) (y.front ∙ ap (λ r. mark y.kind y.line ∷ r) m.1),
          λ left d. subst (λ (z : Expression). IsCompare (left ++ key word.Is l ∷ (mark y.kind y.line ∷ [])) z) m.0 (compare_is l d (single_word y.line y.says)),
        )
    by_choice (chose_some is more first e) =
        let n = took (mark_at sign.Not) ts is more first in
        let x = then_was (next_at single_of more) (λ s end. made (node.IsNot a s) end) (t, rest) e in
        let y = took single_of more x.value x.rest x.first in
        let m = made_is (node.IsNot a x.value) t x.rest rest x.last in
        let spelled : mark n.kind n.line ≡ key word.Not n.line = ap (λ k. mark k n.line) (not_is n.kind is n.says) in (
          key word.Is l ∷ (key word.Not n.line ∷ (mark y.kind y.line ∷ [])),
          ap (λ r. key word.Is l ∷ r) (n.front ∙ ap (λ w. w ∷ more) spelled ∙ ap (λ r. key word.Not n.line ∷ r) (y.front ∙ ap (λ r. mark y.kind y.line ∷ r) m.1)),
          λ left d. subst (λ (z : Expression). IsCompare (left ++ key word.Is l ∷ (key word.Not n.line ∷ (mark y.kind y.line ∷ []))) z) m.0 (compare_is_not l n.line d (single_word y.line y.says)),
        )

compared_sound : (sum : Reader Expression) → Sound IsSum sum → (a : Expression) (c : Comparison) (ops ts : List Token) (t : Expression) (rest : List Token) → IsCmp ops c → compared sum a c ts ≡ Some (t, rest) → Ended a (ops ++ ts) t rest
compared_sound sum s a c ops ts t rest o e =
    let x = then_was (sum ts) (λ b left. made (node.Compare c a b) left) (t, rest) e in
    let y = s ts x.value x.rest x.first in
    let m = made_is (node.Compare c a x.value) t x.rest rest x.last in (
      ops ++ y.0,
      ap (λ r. ops ++ r) (y.1 ∙ ap (λ r. y.0 ++ r) m.1) ∙ sym (append_assoc ops y.0 rest),
      λ left d. subst (λ (z : Expression). IsCompare (left ++ (ops ++ y.0)) z) m.0 (compare_cmp d o y.2),
    )

from_sound : (sum : Reader Expression) → Sound IsSum sum → (a : Expression) (ts : List Token) (t : Expression) (rest : List Token) → compare_from sum a ts ≡ Some (t, rest) → Ended a ts t rest ⊎ ((a ≡ t) × (ts ≡ rest))
from_sound sum s a ts t rest e = by_is (chose (next_at (mark_at sign.Is) ts) others (λ is left. is_from a left) (Some (t, rest)) e)
  where
    plain : Answer Expression
    plain = choose (next_at cmp_op ts) (Some (a, ts)) (λ c left. compared sum a c left)

    not_in : ⊤ → Reader Expression
    not_in is left = then_read (next_at (mark_at sign.In) left) (λ is end. compared sum a comparison.NotIn end)

    others : Answer Expression
    others = choose (next_at (mark_at sign.Not) ts) plain not_in

    by_op : Chose (next_at cmp_op ts) (Some (a, ts)) (λ c left. compared sum a c left) (Some (t, rest)) → Ended a ts t rest ⊎ ((a ≡ t) × (ts ≡ rest))
    by_op (chose_other none e) = inr (some_pair a t ts rest e)
    by_op (chose_some c left first e) =
        let y = took cmp_op ts c left first in
        inl (subst (λ (z : List Token). Ended a z t rest) (sym y.front) (compared_sound sum s a c (mark y.kind y.line ∷ []) left t rest (cmp_one y.line y.says) e))

    by_not : Chose (next_at (mark_at sign.Not) ts) plain not_in (Some (t, rest)) → Ended a ts t rest ⊎ ((a ≡ t) × (ts ≡ rest))
    by_not (chose_other none e) = by_op (chose (next_at cmp_op ts) (Some (a, ts)) (λ c left. compared sum a c left) (Some (t, rest)) e)
    by_not (chose_some is left first e) =
        let n = took (mark_at sign.Not) ts is left first in
        let x = then_was (next_at (mark_at sign.In) left) (λ is end. compared sum a comparison.NotIn end) (t, rest) e in
        let i = took (mark_at sign.In) left x.value x.rest x.first in
        let words : ts ≡ key word.Not n.line ∷ (key word.In i.line ∷ x.rest) = n.front ∙ ap (λ k. mark k n.line ∷ left) (not_is n.kind is n.says) ∙ ap (λ r. key word.Not n.line ∷ r) (i.front ∙ ap (λ k. mark k i.line ∷ x.rest) (in_is i.kind x.value i.says)) in
        inl (subst (λ (z : List Token). Ended a z t rest) (sym words) (compared_sound sum s a comparison.NotIn (key word.Not n.line ∷ (key word.In i.line ∷ [])) x.rest t rest (cmp_not_in n.line i.line) x.last))

    by_is : Chose (next_at (mark_at sign.Is) ts) others (λ is left. is_from a left) (Some (t, rest)) → Ended a ts t rest ⊎ ((a ≡ t) × (ts ≡ rest))
    by_is (chose_other none e) = by_not (chose (next_at (mark_at sign.Not) ts) plain not_in (Some (t, rest)) e)
    by_is (chose_some is left first e) =
        let n = took (mark_at sign.Is) ts is left first in
        let spelled : ts ≡ key word.Is n.line ∷ left = n.front ∙ ap (λ k. mark k n.line ∷ left) (is_is n.kind is n.says) in
        inl (subst (λ (z : List Token). Ended a z t rest) (sym spelled) (is_sound a n.line left t rest e))

pub compare_sound : (expr : ℕ → Reader Expression) (n : ℕ) → Sound IsSum (read_sum expr n) → Sound IsCompare (read_compare expr n)
compare_sound expr n s ts t rest e =
    let x = then_was (read_sum expr n ts) (λ a left. compare_from (read_sum expr n) a left) (t, rest) e in
    let y = s ts x.value x.rest x.first in
    by_end (read_sum expr n) ts x.value x.rest y.0 y.1 y.2 t rest (from_sound (read_sum expr n) s x.value x.rest t rest x.last)
  where
    by_end : (sum : Reader Expression) (ts : List Token) (a : Expression) (after us : List Token) → ts ≡ us ++ after → IsSum us a → (t : Expression) (rest : List Token) → Ended a after t rest ⊎ ((a ≡ t) × (after ≡ rest)) → Derived IsCompare ts t rest
    by_end sum ts a after us p d t rest (inl w) = (us ++ w.0, p ∙ ap (λ r. us ++ r) w.1 ∙ sym (append_assoc us w.0 rest), w.2 us d)
    by_end sum ts a after us p d t rest (inr w) = (us, p ∙ ap (λ r. us ++ r) w.1, subst (λ (z : Expression). IsCompare us z) w.0 (compare_sum d))
