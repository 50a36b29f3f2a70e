-- A comparison is read, whatever follows it that binds less.
use Rattle.std.proofs.Common.{◌≡◌, ℕ, ◌<◌, ◌≤◌, List, [], ◌∷◌, ◌++◌, length, refl, ap, ◌∙◌, arith, append_assoc, length-append}
use Rattle.std.specs.Prelude.{Option, Some, None}
use Rattle.mon_lexer.specs.declared.token.Token.{Token}
use Rattle.mon_lexer.specs.declared.token.Kind.{Kind}
use Rattle.mon_lexer.specs.declared.token.Kind.TheVariants as kind
use Rattle.mon_lexer.specs.declared.token.Operator.TheVariants as operator
use Rattle.mon_lexer.specs.declared.token.Keyword.TheVariants as word
use Rattle.mon_trees.specs.declared.tree.Comparison.{Comparison}
use Rattle.mon_trees.specs.declared.tree.Comparison.TheVariants as comparison
use Rattle.mon_trees.specs.declared.tree.Single.{Single}
use Rattle.mon_trees.specs.declared.tree.Expression.{Expression}
use Rattle.mon_trees.specs.declared.tree.Expression.TheViews as node
use Rattle.mon_parser.specs.Tokens.{mark, key, cmp_op, single_of}
use Rattle.mon_parser.specs.Depth.{expr_depth}
use Rattle.mon_parser.specs.Reader.{Answer, Reader, then_read, choose, next_at, by_option, made, binds, compared, compare_from, is_from, read_sum, read_compare}
use Rattle.mon_parser.specs.Grammar.{IsSum, IsCompare, compare_sum, compare_cmp, compare_is, compare_is_not, cmp_one, cmp_not_in, single_word}
use Rattle.mon_parser.proofs.Depths.{depth_compare, depth_is, depth_is_not}
use Rattle.mon_parser.proofs.Left.{Stops, stops_more, Reads, made_fits}
use Rattle.mon_parser.proofs.Prefixes.{single_no_not}

compare_none : (sum : Reader Expression) (a : Expression) (k : Kind) (l : ℕ) (ts : List Token) → binds k < 5 → compare_from sum a (mark k l ∷ ts) ≡ Some (a, mark k l ∷ ts)
unfolding choose next_at
compare_none sum a (kind.Operator operator.Equal) l ts h = absurd (omega (arith, h))
compare_none sum a (kind.Operator operator.NotEqual) l ts h = absurd (omega (arith, h))
compare_none sum a (kind.Operator operator.Less) l ts h = absurd (omega (arith, h))
compare_none sum a (kind.Operator operator.LessEqual) l ts h = absurd (omega (arith, h))
compare_none sum a (kind.Operator operator.Greater) l ts h = absurd (omega (arith, h))
compare_none sum a (kind.Operator operator.GreaterEqual) l ts h = absurd (omega (arith, h))
compare_none sum a (kind.Keyword word.In) l ts h = absurd (omega (arith, h))
compare_none sum a (kind.Keyword word.Is) l ts h = absurd (omega (arith, h))
compare_none sum a (kind.Keyword word.Not) l ts h = absurd (omega (arith, h))
compare_none sum a _ l ts h = refl

compare_end : (sum : Reader Expression) (a : Expression) (rest : List Token) → Stops 5 rest → compare_from sum a rest ≡ Some (a, rest)
unfolding choose next_at
compare_end sum a [] s = refl
compare_end sum a (t ∷ ts) s = compare_none sum a t.kind t.line ts s

cmp_binds : (k : Kind) (c : Comparison) → cmp_op k ≡ Some c → binds k ≡ 5
cmp_binds (kind.Operator operator.Equal) c e = refl
cmp_binds (kind.Operator operator.NotEqual) c e = refl
cmp_binds (kind.Operator operator.Less) c e = refl
cmp_binds (kind.Operator operator.LessEqual) c e = refl
cmp_binds (kind.Operator operator.Greater) c e = refl
cmp_binds (kind.Operator operator.GreaterEqual) c e = refl
cmp_binds (kind.Keyword word.In) c e = refl
cmp_binds _ c e = cc

compare_some : (sum : Reader Expression) (a : Expression) (k : Kind) (c : Comparison) (l : ℕ) (ts : List Token) → cmp_op k ≡ Some c → compare_from sum a (mark k l ∷ ts) ≡ compared sum a c ts
unfolding choose next_at
compare_some sum a (kind.Keyword word.Is) c l ts e = cc
compare_some sum a (kind.Keyword word.Not) c l ts e = cc
compare_some sum a k c l ts e = ap (λ (o : Option Comparison). choose (by_option o None (λ found. Some (found, ts))) (Some (a, mark k l ∷ ts)) (λ c rest. compared sum a c rest)) e

is_some : (a : Expression) (k : Kind) (s : Single) (m : ℕ) (rest : List Token) → single_of k ≡ Some s → is_from a (mark k m ∷ rest) ≡ made (node.Is a s) rest
unfolding choose next_at then_read
is_some a k s m rest e = rw (single_no_not k s e, e) refl

is_not_some : (a : Expression) (k : Kind) (s : Single) (l m : ℕ) (rest : List Token) → single_of k ≡ Some s → is_from a (key word.Not l ∷ (mark k m ∷ rest)) ≡ made (node.IsNot a s) rest
unfolding choose next_at then_read
is_not_some a k s l m rest e = rw e refl

pub compare_reads : (expr : ℕ → Reader Expression) (b n : ℕ) → n ≤ 256 → Reads IsSum 6 b n (read_sum expr n) → (ts : List Token) (t : Expression) → IsCompare ts t → length ts ≤ b → expr_depth t ≤ n → (rest : List Token) → Stops 5 rest → read_compare expr n (ts ++ rest) ≡ Some (t, rest)
unfolding choose next_at then_read
compare_reads expr b n m r ts t (compare_sum d) w h rest s =
    ap (λ (g : Answer Expression). then_read g (λ a left. compare_from (read_sum expr n) a left)) (r ts t d w h rest (stops_more 5 6 rest s (omega arith))) ∙ compare_end (read_sum expr n) t rest s
compare_reads expr b n m r ts0 t0 (compare_cmp {ts = ts} {us = us} {a = x} {b = y} {c = c} d (cmp_one {k = k} l e) z) w h rest s =
    let go : Expression → Reader Expression = λ a left. compare_from (read_sum expr n) a left in
    let wide = length-append ts (mark k l ∷ us) in
    let deep = depth_compare c x y in
    let stop : binds k < 6 = omega (arith, cmp_binds k c e) in
    ap (λ i. then_read (read_sum expr n i) go) (append_assoc ts (mark k l ∷ us) rest)
    ∙ ap (λ (g : Answer Expression). then_read g go) (r ts x d (omega arith) (omega arith) (mark k l ∷ (us ++ rest)) stop)
    ∙ compare_some (read_sum expr n) x k c l (us ++ rest) e
    ∙ ap (λ (g : Answer Expression). then_read g (λ b left. made (node.Compare c x b) left)) (r us y z (omega arith) (omega arith) rest (stops_more 5 6 rest s (omega arith)))
    ∙ made_fits (node.Compare c x y) rest (omega arith)
compare_reads expr b n m r ts0 t0 (compare_cmp {ts = ts} {us = us} {a = x} {b = y} d (cmp_not_in l j) z) w h rest s =
    let go : Expression → Reader Expression = λ a left. compare_from (read_sum expr n) a left in
    let wide = length-append ts (key word.Not l ∷ (key word.In j ∷ us)) in
    let deep = depth_compare comparison.NotIn x y in
    let stop : binds (kind.Keyword word.Not) < 6 = omega arith in
    ap (λ i. then_read (read_sum expr n i) go) (append_assoc ts (key word.Not l ∷ (key word.In j ∷ us)) rest)
    ∙ ap (λ (g : Answer Expression). then_read g go) (r ts x d (omega arith) (omega arith) (key word.Not l ∷ (key word.In j ∷ (us ++ rest))) stop)
    ∙ ap (λ (g : Answer Expression). then_read g (λ b left. made (node.Compare comparison.NotIn x b) left)) (r us y z (omega arith) (omega arith) rest (stops_more 5 6 rest s (omega arith)))
    ∙ made_fits (node.Compare comparison.NotIn x y) rest (omega arith)
compare_reads expr b n m r ts0 t0 (compare_is {ts = ts} {a = x} {s = one} l d (single_word {k = k} j e)) w h rest s =
    let go : Expression → Reader Expression = λ a left. compare_from (read_sum expr n) a left in
    let wide = length-append ts (key word.Is l ∷ (mark k j ∷ [])) in
    let deep = depth_is x one in
    let stop : binds (kind.Keyword word.Is) < 6 = omega arith in
    ap (λ i. then_read (read_sum expr n i) go) (append_assoc ts (key word.Is l ∷ (mark k j ∷ [])) rest)
    ∙ ap (λ (g : Answer Expression). then_read g go) (r ts x d (omega arith) (omega arith) (key word.Is l ∷ (mark k j ∷ rest)) stop)
    ∙ is_some x k one j rest e
    ∙ made_fits (node.Is x one) rest (omega arith)
compare_reads expr b n m r ts0 t0 (compare_is_not {ts = ts} {a = x} {s = one} l i d (single_word {k = k} j e)) w h rest s =
    let go : Expression → Reader Expression = λ a left. compare_from (read_sum expr n) a left in
    let wide = length-append ts (key word.Is l ∷ (key word.Not i ∷ (mark k j ∷ []))) in
    let deep = depth_is_not x one in
    let stop : binds (kind.Keyword word.Is) < 6 = omega arith in
    ap (λ i. then_read (read_sum expr n i) go) (append_assoc ts (key word.Is l ∷ (key word.Not i ∷ (mark k j ∷ []))) rest)
    ∙ ap (λ (g : Answer Expression). then_read g go) (r ts x d (omega arith) (omega arith) (key word.Is l ∷ (key word.Not i ∷ (mark k j ∷ rest))) stop)
    ∙ is_not_some x k one i j rest e
    ∙ made_fits (node.IsNot x one) rest (omega arith)
