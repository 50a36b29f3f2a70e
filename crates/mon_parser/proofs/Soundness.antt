-- What is read as an expression derives: the levels tied together.
use Rattle.std.proofs.Common.{◌≡◌, ℕ, zero, suc, List, [], ◌∷◌, ◌++◌, refl, sym, ap, ◌∙◌, append_assoc, subst}
use Rattle.std.specs.Prelude.{Option, Some, None, ⊤, Bool, true, false, cond}
use Rattle.std.specs.Str.{bytes_eq}
use Rattle.std.proofs.lemmas.Slice.Eq.{bytes_eq-Decides}
use Rattle.mon_lexer.specs.declared.token.Token.{Token}
use Rattle.mon_lexer.specs.declared.token.Kind.{Kind}
use Rattle.mon_lexer.specs.declared.token.Kind.TheVariants as kind
use Rattle.mon_lexer.specs.declared.token.Operator.TheVariants as operator
use Rattle.mon_lexer.specs.declared.token.Keyword.TheVariants as word
use Rattle.mon_parser.specs.declared.cursor.Sign.TheVariants as sign
use Rattle.mon_parser.specs.declared.levels.Suffix.{Suffix}
use Rattle.mon_parser.specs.declared.levels.Suffix.TheVariants as suffix
use Rattle.mon_trees.specs.declared.tree.Method.{Method}
use Rattle.mon_trees.specs.declared.tree.Method.TheVariants.{Send, Throw, Close}
use Rattle.mon_trees.specs.declared.tree.Expression.{Expression}
use Rattle.mon_trees.specs.declared.tree.Expression.TheViews as node
use Rattle.mon_parser.specs.Tokens.{mark, key, symbol, name, method_word}
use Rattle.mon_parser.specs.Reader.{Reader, then_read, next_at, mark_at, made, method_of, method_at, suffix_at, read_args, read_atom, read_suffix, more_suffixes, read_postfix, if_from, read_or, read_expr_in, read_expr}
use Rattle.mon_parser.specs.Grammar.{IsPostfix, postfix_atom, postfix_call, postfix_subscript, postfix_method, IsMethod, method_send, method_throw, method_close, IsOr, IsExpr, expr_or, expr_if}
use Rattle.mon_parser.proofs.Left.{Sound, Derived, some_pair, then_was, made_is}
use Rattle.mon_parser.proofs.Compared.{took, Chose, chose_other, chose_some, chose, compare_sound}
use Rattle.mon_parser.proofs.Prefixes.{unary_sound, not_sound}
use Rattle.mon_parser.proofs.Grouping.{term_sound, sum_sound, and_sound, or_sound}
use Rattle.mon_parser.proofs.Sounds.{args_derive, atom_derives, close_is, open_is}

-- a sign that comes next, with what is behind it
pub sign_next : (m : Kind → Option ⊤) (k : Kind) → ((j : Kind) (x : ⊤) → m j ≡ Some x → j ≡ k) → (ts : List Token) (x : ⊤) (rest : List Token) → next_at m ts ≡ Some (x, rest) → (l : ℕ) × (ts ≡ mark k l ∷ rest)
sign_next m k only ts x rest e = let t = took m ts x rest e in (t.line, t.front ∙ ap (λ j. mark j t.line ∷ rest) (only t.kind x t.says))

close_square_is : (k : Kind) (x : ⊤) → mark_at sign.CloseSquare k ≡ Some x → k ≡ (kind.Operator operator.CloseSquare)
close_square_is (kind.Operator operator.CloseSquare) x e = refl
close_square_is _ x e = cc

if_is : (k : Kind) (x : ⊤) → mark_at sign.If k ≡ Some x → k ≡ kind.Keyword word.If
if_is (kind.Keyword word.If) x e = refl
if_is _ x e = cc

else_is : (k : Kind) (x : ⊤) → mark_at sign.Else k ≡ Some x → k ≡ kind.Keyword word.Else
else_is (kind.Keyword word.Else) x e = refl
else_is _ x e = cc

-- the names of methods
abbrev picks : Bool → Bool → Bool → Option Method
picks true b c = Some Send
picks false true c = Some Throw
picks false false true = Some Close
picks false false false = None

picks_find : (n : List ℕ) → method_of n ≡ picks (bytes_eq (method_word Send) n) (bytes_eq (method_word Throw) n) (bytes_eq (method_word Close) n)
unfolding method_of
picks_find n = by_tests (bytes_eq (method_word Send) n) (bytes_eq (method_word Throw) n) (bytes_eq (method_word Close) n)
  where
    by_tests : (a b c : Bool) → cond a (Some Send) (cond b (Some Throw) (cond c (Some Close) None)) ≡ picks a b c
    by_tests true b c = refl
    by_tests false true c = refl
    by_tests false false true = refl
    by_tests false false false = refl

same_is : (w n : List ℕ) → bytes_eq w n ≡ true → w ≡ n
same_is w n e = (bytes_eq-Decides w n).0 e

method_cases : (n : List ℕ) (q : Method) (a b c : Bool) → (a ≡ true → method_word Send ≡ n) → (b ≡ true → method_word Throw ≡ n) → (c ≡ true → method_word Close ≡ n) → picks a b c ≡ Some q → method_word q ≡ n
method_cases n q true b c x y z e = subst (λ m. method_word m ≡ n) (first e) (x refl)
  where
    first : ◌≡◌ {A = Option Method} (Some Send) (Some q) → Send ≡ q
    first h = cc
method_cases n q false true c x y z e = subst (λ m. method_word m ≡ n) (first e) (y refl)
  where
    first : ◌≡◌ {A = Option Method} (Some Throw) (Some q) → Throw ≡ q
    first h = cc
method_cases n q false false true x y z e = subst (λ m. method_word m ≡ n) (first e) (z refl)
  where
    first : ◌≡◌ {A = Option Method} (Some Close) (Some q) → Close ≡ q
    first h = cc
method_cases n q false false false x y z e = cc

method_is : (n : List ℕ) (q : Method) → method_of n ≡ Some q → method_word q ≡ n
method_is n q e = method_cases n q (bytes_eq (method_word Send) n) (bytes_eq (method_word Throw) n) (bytes_eq (method_word Close) n) (same_is (method_word Send) n) (same_is (method_word Throw) n) (same_is (method_word Close) n) (sym (picks_find n) ∙ e)

named : (q : Method) (l : ℕ) → IsMethod (name (method_word q) l ∷ []) q
named Send l = method_send l
named Throw l = method_throw l
named Close l = method_close l

method_kind : (k : Kind) (q : Method) → method_at k ≡ Some q → k ≡ kind.Name (method_word q)
method_kind (kind.Name n) q e = ap (λ m. kind.Name m) (sym (method_is n q e))
method_kind _ q e = cc

call_is : (k : Kind) → suffix_at k ≡ Some suffix.Call → k ≡ (kind.Operator operator.OpenRound)
call_is (kind.Operator operator.OpenRound) e = refl
call_is (kind.Operator operator.OpenSquare) e = cc
call_is (kind.Operator operator.Dot) e = cc
call_is _ e = cc

subscript_is : (k : Kind) → suffix_at k ≡ Some suffix.Subscript → k ≡ (kind.Operator operator.OpenSquare)
subscript_is (kind.Operator operator.OpenSquare) e = refl
subscript_is _ e = cc

ask_is : (k : Kind) → suffix_at k ≡ Some suffix.Ask → k ≡ (kind.Operator operator.Dot)
ask_is (kind.Operator operator.Dot) e = refl
ask_is _ e = cc

-- a tree behind which a suffix was read
suffix_derives : (expr : Reader Expression) → Sound IsExpr expr → (x : Suffix) (k : Kind) (l : ℕ) → suffix_at k ≡ Some x → (a : Expression) (us ts : List Token) (t : Expression) (rest : List Token) → IsPostfix us a → read_suffix expr x a ts ≡ Some (t, rest) → Derived IsPostfix (us ++ mark k l ∷ ts) t rest
suffix_derives expr s suffix.Call k l i a us ts t rest d e =
    let x = then_was (read_args expr ts) (λ es left. then_read (next_at (mark_at sign.CloseRound) left) (λ is end. made (node.Call a es) end)) (t, rest) e in
    let y = then_was (next_at (mark_at sign.CloseRound) x.rest) (λ is end. made (node.Call a x.value) end) (t, rest) x.last in
    let c = sign_next (mark_at sign.CloseRound) (kind.Operator operator.CloseRound) close_is x.rest y.value y.rest y.first in
    let m = made_is (node.Call a x.value) t y.rest rest y.last in
    let z = args_derive expr s ts x.value x.rest x.first in
    let vs : List Token = z.0 ++ symbol operator.CloseRound c.0 ∷ [] in
    let inner : ts ≡ vs ++ rest = z.1 ∙ ap (λ r. z.0 ++ r) (c.1 ∙ ap (λ r. symbol operator.CloseRound c.0 ∷ r) m.1) ∙ sym (append_assoc z.0 (symbol operator.CloseRound c.0 ∷ []) rest) in (
      us ++ symbol operator.OpenRound l ∷ vs,
      ap (λ j. us ++ mark j l ∷ ts) (call_is k i) ∙ ap (λ r. us ++ symbol operator.OpenRound l ∷ r) inner ∙ sym (append_assoc us (symbol operator.OpenRound l ∷ vs) rest),
      subst (λ w. IsPostfix (us ++ symbol operator.OpenRound l ∷ vs) w) m.0 (postfix_call l c.0 d z.2),
    )
suffix_derives expr s suffix.Subscript k l i a us ts t rest d e =
    let x = then_was (expr ts) (λ b left. then_read (next_at (mark_at sign.CloseSquare) left) (λ is end. made (node.Subscript a b) end)) (t, rest) e in
    let y = then_was (next_at (mark_at sign.CloseSquare) x.rest) (λ is end. made (node.Subscript a x.value) end) (t, rest) x.last in
    let c = sign_next (mark_at sign.CloseSquare) (kind.Operator operator.CloseSquare) close_square_is x.rest y.value y.rest y.first in
    let m = made_is (node.Subscript a x.value) t y.rest rest y.last in
    let z = s ts x.value x.rest x.first in
    let vs : List Token = z.0 ++ symbol operator.CloseSquare c.0 ∷ [] in
    let inner : ts ≡ vs ++ rest = z.1 ∙ ap (λ r. z.0 ++ r) (c.1 ∙ ap (λ r. symbol operator.CloseSquare c.0 ∷ r) m.1) ∙ sym (append_assoc z.0 (symbol operator.CloseSquare c.0 ∷ []) rest) in (
      us ++ symbol operator.OpenSquare l ∷ vs,
      ap (λ j. us ++ mark j l ∷ ts) (subscript_is k i) ∙ ap (λ r. us ++ symbol operator.OpenSquare l ∷ r) inner ∙ sym (append_assoc us (symbol operator.OpenSquare l ∷ vs) rest),
      subst (λ w. IsPostfix (us ++ symbol operator.OpenSquare l ∷ vs) w) m.0 (postfix_subscript l c.0 d z.2),
    )
suffix_derives expr s suffix.Ask k l i a us ts t rest d e =
    let w = then_was (next_at method_at ts) (λ q left. then_read (next_at (mark_at sign.OpenRound) left) (λ is more. then_read (read_args expr more) (λ es end. then_read (next_at (mark_at sign.CloseRound) end) (λ is last. made (node.Method a q es) last)))) (t, rest) e in
    let n = took method_at ts w.value w.rest w.first in
    let v = then_was (next_at (mark_at sign.OpenRound) w.rest) (λ is more. then_read (read_args expr more) (λ es end. then_read (next_at (mark_at sign.CloseRound) end) (λ is last. made (node.Method a w.value es) last))) (t, rest) w.last in
    let o = sign_next (mark_at sign.OpenRound) (kind.Operator operator.OpenRound) open_is w.rest v.value v.rest v.first in
    let x = then_was (read_args expr v.rest) (λ es end. then_read (next_at (mark_at sign.CloseRound) end) (λ is last. made (node.Method a w.value es) last)) (t, rest) v.last in
    let y = then_was (next_at (mark_at sign.CloseRound) x.rest) (λ is last. made (node.Method a w.value x.value) last) (t, rest) x.last in
    let c = sign_next (mark_at sign.CloseRound) (kind.Operator operator.CloseRound) close_is x.rest y.value y.rest y.first in
    let m = made_is (node.Method a w.value x.value) t y.rest rest y.last in
    let z = args_derive expr s v.rest x.value x.rest x.first in
    let vs : List Token = z.0 ++ symbol operator.CloseRound c.0 ∷ [] in
    let spelled : Token = name (method_word w.value) n.line in
    let mid : List Token = (spelled ∷ []) ++ symbol operator.OpenRound o.0 ∷ vs in
    let inner : v.rest ≡ vs ++ rest = z.1 ∙ ap (λ r. z.0 ++ r) (c.1 ∙ ap (λ r. symbol operator.CloseRound c.0 ∷ r) m.1) ∙ sym (append_assoc z.0 (symbol operator.CloseRound c.0 ∷ []) rest) in
    let whole : ts ≡ mid ++ rest = n.front ∙ ap (λ j. mark j n.line ∷ w.rest) (method_kind n.kind w.value n.says) ∙ ap (λ r. spelled ∷ r) (o.1 ∙ ap (λ r. symbol operator.OpenRound o.0 ∷ r) inner) in (
      us ++ symbol operator.Dot l ∷ mid,
      ap (λ j. us ++ mark j l ∷ ts) (ask_is k i) ∙ ap (λ r. us ++ symbol operator.Dot l ∷ r) whole ∙ sym (append_assoc us (symbol operator.Dot l ∷ mid) rest),
      subst (λ p. IsPostfix (us ++ symbol operator.Dot l ∷ mid) p) m.0 (postfix_method l o.0 c.0 d (named w.value n.line) z.2),
    )

by_suffix : (expr : Reader Expression) → Sound IsExpr expr → (following : Expression → Reader Expression) (a t : Expression) (us ts rest : List Token) → IsPostfix us a
    → ((b : Expression) (vs ws : List Token) → IsPostfix vs b → following b ws ≡ Some (t, rest) → Derived IsPostfix (vs ++ ws) t rest)
    → Chose (next_at suffix_at ts) (Some (a, ts)) (λ x left. then_read (read_suffix expr x a left) (λ e end. following e end)) (Some (t, rest)) → Derived IsPostfix (us ++ ts) t rest
by_suffix expr s following a t us ts rest d again (chose_other none h) = let p = some_pair a t ts rest h in (us, ap (λ r. us ++ r) p.1, subst (λ z. IsPostfix us z) p.0 d)
by_suffix expr s following a t us ts rest d again (chose_some x left first h) =
    let k = took suffix_at ts x left first in
    let b = then_was (read_suffix expr x a left) (λ e end. following e end) (t, rest) h in
    let y = suffix_derives expr s x k.kind k.line k.says a us left b.value b.rest d b.first in
    let z = again b.value y.0 b.rest y.2 b.last in
    (z.0, ap (λ r. us ++ r) k.front ∙ y.1 ∙ z.1, z.2)

suffixes_derive : (expr : Reader Expression) → Sound IsExpr expr → (turns : ℕ) (a t : Expression) (us ts rest : List Token) → IsPostfix us a → more_suffixes expr turns a ts ≡ Some (t, rest) → Derived IsPostfix (us ++ ts) t rest
unfolding more_suffixes
suffixes_derive expr s zero a t us ts rest d e = let p = some_pair a t ts rest e in (us, ap (λ r. us ++ r) p.1, subst (λ z. IsPostfix us z) p.0 d)
suffixes_derive expr s (suc turns) a t us ts rest d e =
    by_suffix expr s (more_suffixes expr turns) a t us ts rest d (λ b vs ws x h. suffixes_derive expr s turns b t vs ws rest x h) (chose (next_at suffix_at ts) (Some (a, ts)) (λ x left. then_read (read_suffix expr x a left) (λ e end. more_suffixes expr turns e end)) (Some (t, rest)) e)

pub postfix_derives : (expr : Reader Expression) → Sound IsExpr expr → Sound IsPostfix (read_postfix expr)
postfix_derives expr s ts t rest e =
    let x = then_was (read_atom expr ts) (λ a left. more_suffixes expr 256 a left) (t, rest) e in
    let y = atom_derives expr s ts x.value x.rest x.first in
    let z = suffixes_derive expr s 256 x.value t y.0 x.rest rest (postfix_atom y.2) x.last in
    (z.0, y.1 ∙ z.1, z.2)

-- the reader of what stands in brackets reads only what derives
abbrev pub SoundExpr : (ℕ → Reader Expression) → Type 0
SoundExpr expr = (n : ℕ) → Sound IsExpr (expr n)

pub or_level_sound : (expr : ℕ → Reader Expression) → SoundExpr expr → (n : ℕ) → Sound IsOr (read_or expr n)
or_level_sound expr s n =
    or_sound expr n (and_sound expr n (not_sound expr n (λ k. compare_sound expr k (sum_sound expr k (term_sound expr k (unary_sound expr k (λ j. postfix_derives (expr j) (s j))))))))

by_if : (or last : Reader Expression) → Sound IsOr or → ((ts : List Token) (t : Expression) (rest : List Token) → last ts ≡ Some (t, rest) → Derived IsExpr ts t rest)
    → (ts : List Token) (a : Expression) (left : List Token) (t : Expression) (rest : List Token) → Derived IsOr ts a left → if_from or last a left ≡ Some (t, rest) → Derived IsExpr ts t rest
by_if or last so sl ts a left t rest d e = by_choice (chose (next_at (mark_at sign.If) left) (Some (a, left)) behind (Some (t, rest)) e)
  where
    behind : ⊤ → Reader Expression
    behind is more = then_read (or more) (λ c left. then_read (next_at (mark_at sign.Else) left) (λ is end. then_read (last end) (λ b z. made (node.If a c b) z)))

    by_choice : Chose (next_at (mark_at sign.If) left) (Some (a, left)) behind (Some (t, rest)) → Derived IsExpr ts t rest
    by_choice (chose_other none h) = let p = some_pair a t left rest h in (d.0, d.1 ∙ ap (λ r. d.0 ++ r) p.1, subst (λ z. IsExpr d.0 z) p.0 (expr_or d.2))
    by_choice (chose_some is more first h) =
        let i = sign_next (mark_at sign.If) (kind.Keyword word.If) if_is left is more first in
        let x = then_was (or more) (λ c left. then_read (next_at (mark_at sign.Else) left) (λ is end. then_read (last end) (λ b z. made (node.If a c b) z))) (t, rest) h in
        let y = then_was (next_at (mark_at sign.Else) x.rest) (λ is end. then_read (last end) (λ b z. made (node.If a x.value b) z)) (t, rest) x.last in
        let j = sign_next (mark_at sign.Else) (kind.Keyword word.Else) else_is x.rest y.value y.rest y.first in
        let z = then_was (last y.rest) (λ b z. made (node.If a x.value b) z) (t, rest) y.last in
        let m = made_is (node.If a x.value z.value) t z.rest rest z.last in
        let c = so more x.value x.rest x.first in
        let b = sl y.rest z.value z.rest z.first in
        let tail : List Token = c.0 ++ key word.Else j.0 ∷ b.0 in
        let inner : more ≡ tail ++ rest = c.1 ∙ ap (λ r. c.0 ++ r) (j.1 ∙ ap (λ r. key word.Else j.0 ∷ r) (b.1 ∙ ap (λ r. b.0 ++ r) m.1)) ∙ sym (append_assoc c.0 (key word.Else j.0 ∷ b.0) rest) in (
          d.0 ++ key word.If i.0 ∷ tail,
          d.1 ∙ ap (λ r. d.0 ++ r) (i.1 ∙ ap (λ r. key word.If i.0 ∷ r) inner) ∙ sym (append_assoc d.0 (key word.If i.0 ∷ tail) rest),
          subst (λ w. IsExpr (d.0 ++ key word.If i.0 ∷ tail) w) m.0 (expr_if i.0 j.0 d.2 c.2 b.2),
        )

in_sound : (expr : ℕ → Reader Expression) → SoundExpr expr → (n : ℕ) → Sound IsExpr (read_expr_in expr n)
unfolding read_expr_in
in_sound expr s zero ts t rest e = cc
in_sound expr s (suc n) ts t rest e =
    let x = then_was (read_or expr (suc n) ts) (λ a left. if_from (read_or expr (suc n)) (read_expr_in expr n) a left) (t, rest) e in
    by_if (read_or expr (suc n)) (read_expr_in expr n) (or_level_sound expr s (suc n)) (λ us b left h. in_sound expr s n us b left h) ts x.value x.rest t rest (or_level_sound expr s (suc n) ts x.value x.rest x.first) x.last

pub expr_sound : (b : ℕ) → SoundExpr (read_expr b)
unfolding read_expr
expr_sound zero n ts t rest e = cc
expr_sound (suc b) n ts t rest e = in_sound (read_expr b) (expr_sound b) n ts t rest e
