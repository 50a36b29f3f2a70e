-- "-" and "not" are levels with the operator in front.
use Rattle.std.proofs.Common.{◌≡◌, ℕ, ◌<◌, ◌≤◌, List, [], ◌∷◌, ◌++◌, refl, sym, arith, subst}
use Rattle.std.specs.Prelude.{Option, Some, None, ⊤, ℤ, pos}
use Rattle.mon_lexer.specs.declared.token.Token.{Token}
use Rattle.mon_lexer.specs.declared.token.Kind.{Kind}
use Rattle.mon_lexer.specs.declared.token.Kind.TheVariants as kind
use Rattle.mon_lexer.specs.declared.token.Operator.TheVariants as operator
use Rattle.mon_lexer.specs.declared.token.Keyword.TheVariants as word
use Rattle.mon_trees.specs.declared.tree.Single.{Single}
use Rattle.mon_trees.specs.declared.tree.Expression.{Expression}
use Rattle.mon_trees.specs.declared.tree.Expression.TheOpen.{Expression-F}
use Rattle.mon_trees.specs.declared.tree.Expression.TheFolds.{fold-roll-Expression, map-Expression}
use Rattle.mon_trees.specs.declared.tree.Expression.TheViews as node
use Rattle.mon_parser.specs.Tokens.{single_of}
use Rattle.mon_parser.specs.Depth.{expr_depth, expr_depth_step}
use Rattle.mon_parser.specs.Reader.{Reader, mark_at, read_unary, read_postfix, read_not, read_compare}
use Rattle.mon_parser.specs.Grammar.{IsTexts, texts_one, texts_more, single_word, IsNot, not_not, not_compare, IsCompare, compare_sum, compare_cmp, compare_is, compare_is_not, IsSum, sum_one, sum_more, IsTerm, term_one, term_more, IsUnary, unary_minus, unary_postfix, IsPostfix, postfix_atom, postfix_call, postfix_subscript, postfix_method, IsAtom, atom_name, atom_int, atom_texts, atom_single, atom_empty, atom_group}
use Rattle.mon_parser.specs.declared.cursor.Sign.TheVariants as sign
use Rattle.mon_parser.proofs.Depths.{depth_negative, depth_not}
use Rattle.mon_parser.proofs.Left.{Reads, Sound}
use Rattle.mon_parser.proofs.Prefix.{Begins, Prefixed, lower, prefix, IsPrefix, prefix_reads, prefix_sound}

abbrev minus_at : Kind → Option ⊤
minus_at = mark_at sign.Minus

abbrev not_at : Kind → Option ⊤
not_at = mark_at sign.Not

step_some : (x : Expression-F ℕ) → 0 < expr_depth_step x
step_some (Expression-F.Name n) = omega arith
step_some _ = omega arith

pub depth_some : (e : Expression) → 0 < expr_depth e
depth_some e = subst (λ (x : Expression). 0 < expr_depth x) (node.roll-out-Expression e) (subst (λ n. 0 < n) (sym (fold-roll-Expression ℕ expr_depth_step (node.out-Expression e))) (step_some (map-Expression Expression ℕ expr_depth (node.out-Expression e))))

pub begins_more : (at : Kind → Option ⊤) (ts us : List Token) → Begins at ts → Begins at (ts ++ us)
begins_more at [] us h = absurd h
begins_more at (t ∷ ts) us h = h

-- a table that has neither what begins an atom, nor a sign
pub record NoAtom (at : Kind → Option ⊤) : Type 0 where
  pub name : (n : List ℕ) → at (kind.Name n) ≡ None
  pub int : (n : ℤ) → at (kind.Number n) ≡ None
  pub text : (s : List ℕ) → at (kind.Text s) ≡ None
  pub single : (k : Kind) (s : Single) → single_of k ≡ Some s → at k ≡ None
  pub bracket : at (kind.Operator operator.OpenRound) ≡ None

texts_begin : (at : Kind → Option ⊤) → NoAtom at → {ts : List Token} {s : List ℕ} → IsTexts ts s → Begins at ts
texts_begin at free (texts_one {s = s} l) = free.text s
texts_begin at free (texts_more {s = s} l d) = free.text s

atom_begins : (at : Kind → Option ⊤) → NoAtom at → {ts : List Token} {e : Expression} → IsAtom ts e → Begins at ts
atom_begins at free (atom_name {n = n} l) = free.name n
atom_begins at free (atom_int {n = n} l) = free.int (pos n)
atom_begins at free (atom_texts d) = texts_begin at free d
atom_begins at free (atom_single (single_word {k = k} l {s = s} e)) = free.single k s e
atom_begins at free (atom_empty l m) = free.bracket
atom_begins at free (atom_group l m d) = free.bracket

postfix_begins : (at : Kind → Option ⊤) → NoAtom at → {ts : List Token} {e : Expression} → IsPostfix ts e → Begins at ts
postfix_begins at free (postfix_atom d) = atom_begins at free d
postfix_begins at free (postfix_call {ts = ts} l m d x) = begins_more at ts _ (postfix_begins at free d)
postfix_begins at free (postfix_subscript {ts = ts} l m d x) = begins_more at ts _ (postfix_begins at free d)
postfix_begins at free (postfix_method {ts = ts} k l m d x y) = begins_more at ts _ (postfix_begins at free d)

unary_begins : (at : Kind → Option ⊤) → NoAtom at → at (kind.Operator operator.Minus) ≡ None → {ts : List Token} {e : Expression} → IsUnary ts e → Begins at ts
unary_begins at free m (unary_minus l d) = m
unary_begins at free m (unary_postfix d) = postfix_begins at free d

term_begins : (at : Kind → Option ⊤) → NoAtom at → at (kind.Operator operator.Minus) ≡ None → {ts : List Token} {e : Expression} → IsTerm ts e → Begins at ts
term_begins at free m (term_one d) = unary_begins at free m d
term_begins at free m (term_more {ts = ts} k l d e x) = begins_more at ts _ (term_begins at free m d)

sum_begins : (at : Kind → Option ⊤) → NoAtom at → at (kind.Operator operator.Minus) ≡ None → {ts : List Token} {e : Expression} → IsSum ts e → Begins at ts
sum_begins at free m (sum_one d) = term_begins at free m d
sum_begins at free m (sum_more {ts = ts} k l d e x) = begins_more at ts _ (sum_begins at free m d)

pub compare_begins : (at : Kind → Option ⊤) → NoAtom at → at (kind.Operator operator.Minus) ≡ None → {ts : List Token} {e : Expression} → IsCompare ts e → Begins at ts
compare_begins at free m (compare_sum d) = sum_begins at free m d
compare_begins at free m (compare_cmp {ts = ts} d c x) = begins_more at ts _ (sum_begins at free m d)
compare_begins at free m (compare_is {ts = ts} l d x) = begins_more at ts _ (sum_begins at free m d)
compare_begins at free m (compare_is_not {ts = ts} l n d x) = begins_more at ts _ (sum_begins at free m d)

single_no_minus : (k : Kind) (s : Single) → single_of k ≡ Some s → minus_at k ≡ None
single_no_minus (kind.Operator operator.Minus) s e = cc
single_no_minus _ s e = refl

pub single_no_not : (k : Kind) (s : Single) → single_of k ≡ Some s → mark_at sign.Not k ≡ None
single_no_not (kind.Keyword word.Not) s e = cc
single_no_not _ s e = refl

minus_only : (j : Kind) → minus_at j ≡ Some tt → j ≡ (kind.Operator operator.Minus)
minus_only (kind.Operator operator.Minus) e = refl
minus_only _ e = cc

not_only : (j : Kind) → not_at j ≡ Some tt → j ≡ kind.Keyword word.Not
not_only (kind.Keyword word.Not) e = refl
not_only _ e = cc

no_minus : NoAtom minus_at
no_minus = record { name = λ n. refl; int = λ n. refl; text = λ s. refl; single = single_no_minus; bracket = refl }

no_not : NoAtom not_at
no_not = record { name = λ n. refl; int = λ n. refl; text = λ s. refl; single = single_no_not; bracket = refl }

is_minus : IsPrefix IsPostfix minus_at (kind.Operator operator.Minus) node.Negative
is_minus = record { is = refl; only = minus_only; begins = λ ts e d. postfix_begins minus_at no_minus d; grows = depth_negative; some = depth_some }

is_not : IsPrefix IsCompare not_at (kind.Keyword word.Not) node.Not
is_not = record { is = refl; only = not_only; begins = λ ts e d. compare_begins not_at no_not refl d; grows = depth_not; some = depth_some }

to_unary : {ts : List Token} {e : Expression} → IsUnary ts e → Prefixed IsPostfix (kind.Operator operator.Minus) node.Negative ts e
to_unary (unary_minus l d) = prefix l (to_unary d)
to_unary (unary_postfix d) = lower d

of_unary : {ts : List Token} {e : Expression} → Prefixed IsPostfix (kind.Operator operator.Minus) node.Negative ts e → IsUnary ts e
of_unary (prefix l d) = unary_minus l (of_unary d)
of_unary (lower d) = unary_postfix d

to_not : {ts : List Token} {e : Expression} → IsNot ts e → Prefixed IsCompare (kind.Keyword word.Not) node.Not ts e
to_not (not_not l d) = prefix l (to_not d)
to_not (not_compare d) = lower d

of_not : {ts : List Token} {e : Expression} → Prefixed IsCompare (kind.Keyword word.Not) node.Not ts e → IsNot ts e
of_not (prefix l d) = not_not l (of_not d)
of_not (lower d) = not_compare d

pub unary_reads : (expr : ℕ → Reader Expression) (b n : ℕ) → n ≤ 256 → ((n : ℕ) → n ≤ 256 → Reads IsPostfix 8 b n (read_postfix (expr n))) → Reads IsUnary 8 b n (read_unary expr n)
unary_reads expr b n m r ts t d w h rest s = prefix_reads IsPostfix minus_at (kind.Operator operator.Minus) node.Negative (λ n. read_postfix (expr n)) 8 b is_minus r (to_unary d) n m w h rest s

pub not_reads : (expr : ℕ → Reader Expression) (b n : ℕ) → n ≤ 256 → ((n : ℕ) → n ≤ 256 → Reads IsCompare 5 b n (read_compare expr n)) → Reads IsNot 5 b n (read_not expr n)
not_reads expr b n m r ts t d w h rest s = prefix_reads IsCompare not_at (kind.Keyword word.Not) node.Not (λ n. read_compare expr n) 5 b is_not r (to_not d) n m w h rest s

pub unary_sound : (expr : ℕ → Reader Expression) (n : ℕ) → ((n : ℕ) → Sound IsPostfix (read_postfix (expr n))) → Sound IsUnary (read_unary expr n)
unary_sound expr n s ts t rest e = let x = prefix_sound IsPostfix minus_at (kind.Operator operator.Minus) node.Negative (λ n. read_postfix (expr n)) minus_only s n ts t rest e in (x.0, x.1, of_unary x.2)

pub not_sound : (expr : ℕ → Reader Expression) (n : ℕ) → ((n : ℕ) → Sound IsCompare (read_compare expr n)) → Sound IsNot (read_not expr n)
not_sound expr n s ts t rest e = let x = prefix_sound IsCompare not_at (kind.Keyword word.Not) node.Not (λ n. read_compare expr n) not_only s n ts t rest e in (x.0, x.1, of_not x.2)
