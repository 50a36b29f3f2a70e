-- Tuples and right sides are read, whatever follows them that ends an expression.
use Rattle.std.proofs.Common.{◌≡◌, ℕ, ◌≤◌, List, [], ◌∷◌, ◌++◌, length, map, refl, sym, ap, ◌∙◌, arith, append_assoc, length-append, subst}
use Rattle.std.specs.Prelude.{Option, Some, None, ⊤, Bool, true, false}
use Rattle.mon_lexer.specs.declared.token.Token.{Token}
use Rattle.mon_lexer.specs.declared.token.Kind.{Kind}
use Rattle.mon_lexer.specs.declared.token.Kind.TheVariants as kind
use Rattle.mon_lexer.specs.declared.token.Operator.TheVariants as operator
use Rattle.mon_lexer.specs.declared.token.Keyword.TheVariants as word
use Rattle.mon_trees.specs.declared.tree.Single.{Single}
use Rattle.mon_trees.specs.declared.tree.Expression.{Expression}
use Rattle.mon_trees.specs.declared.tree.Expression.TheViews as node
use Rattle.mon_parser.specs.Tokens.{symbol, single_of}
use Rattle.mon_parser.specs.Depth.{expr_depth, most}
use Rattle.mon_parser.specs.Reader.{Answer, Reader, then_read, choose, pick, made, starts, is_comma, is_comma_kind, is_yield, yield_line, more_items, read_tuple, read_rhs}
use Rattle.mon_parser.specs.Grammar.{IsRhs, rhs_yield, rhs_yield_value, rhs_tuple, IsTuple, tuple_one, tuple_tuple, tuple_comma, IsExprs, exprs_one, exprs_more, IsExpr}
use Rattle.mon_parser.proofs.Left.{Stops, stops_more, Reads, made_fits}
use Rattle.mon_parser.proofs.Prefix.{Begins}
use Rattle.mon_parser.proofs.Items.{Tail}
use Rattle.mon_parser.proofs.Begins.{NoStart, tuple_starts, tuple_begins, stops_none, stops_comma}
use Rattle.mon_parser.proofs.Lists.{Small, First, first_comma, to_tail, tail_comes, tail_stops}
use Rattle.mon_parser.proofs.Depths.{depth_tuple, depth_yield_some}

-- a tail that is not empty begins with a comma
abbrev pub IsComma : List Token → Type 0
IsComma [] = ⊥
IsComma (t ∷ ts) = is_comma_kind t.kind ≡ true

pub comma_here : (ts rest : List Token) → IsComma ts → is_comma (ts ++ rest) ≡ true
unfolding is_comma
comma_here [] rest h = absurd h
comma_here (t ∷ ts) rest h = h

-- with a comma behind the first
tuple_from : (b n : ℕ) (expr : Reader Expression) → n ≤ 256 → Reads IsExpr 2 b n expr → (rest : List Token) → Stops 1 rest → (front follow : List Token) (e : Expression) (es : List Expression) → Small b n front e → Tail (Small b n) follow es → IsComma follow → expr_depth (node.Tuple (e ∷ es)) ≤ n
    → read_tuple expr (front ++ (follow ++ rest)) ≡ Some (node.Tuple (e ∷ es), rest)
unfolding then_read pick
tuple_from b n expr m r rest s front follow e es one tail comma h =
    ap (λ (g : Answer Expression). then_read g (λ e left. pick (is_comma left) (then_read (more_items starts expr (length left) left) (λ es end. made (node.Tuple (e ∷ es)) end)) (Some (e, left)))) (r front e one.0 one.1 one.2 (follow ++ rest) (tail_stops b n rest s tail))
    ∙ ap (λ c. pick c (then_read (more_items starts expr (length (follow ++ rest)) (follow ++ rest)) (λ es end. made (node.Tuple (e ∷ es)) end)) (Some (e, follow ++ rest))) (comma_here follow rest comma)
    ∙ ap (λ (g : Answer (List Expression)). then_read g (λ es end. made (node.Tuple (e ∷ es)) end)) (tail_comes b n expr r rest s tail)
    ∙ made_fits (node.Tuple (e ∷ es)) rest (omega arith)

-- the tail of a list that ends with a comma
comma_tail : (b n : ℕ) {us : List Token} {es : List Expression} → IsExprs us es → length us ≤ b → most (map expr_depth es) ≤ n → (k : ℕ) → (f : First b n (us ++ symbol operator.Comma k ∷ []) es) × IsComma f.follow
unfolding first_comma
comma_tail b n (exprs_one d) w h k = (first_comma b n (exprs_one d) w h k, refl)
comma_tail b n (exprs_more m d x) w h k = (first_comma b n (exprs_more m d x) w h k, refl)

pub tuple_reads : (b n : ℕ) (expr : Reader Expression) → n ≤ 256 → Reads IsExpr 2 b n expr → Reads IsTuple 1 b n (read_tuple expr)
unfolding then_read pick
tuple_reads b n expr m r ts t (tuple_one d) w h rest s =
    ap (λ (g : Answer Expression). then_read g (λ e left. pick (is_comma left) (then_read (more_items starts expr (length left) left) (λ es end. made (node.Tuple (e ∷ es)) end)) (Some (e, left)))) (r ts t d w h rest (stops_more 1 2 rest s (omega arith)))
    ∙ ap (λ c. pick c (then_read (more_items starts expr (length rest) rest) (λ es end. made (node.Tuple (t ∷ es)) end)) (Some (t, rest))) (stops_comma rest s)
tuple_reads b n expr m r ts0 t0 (tuple_tuple {ts = ts} {us = us} {e = e} {es = es} l d x) w h rest s =
    let wide = length-append ts (symbol operator.Comma l ∷ us) in
    let deep = depth_tuple (e ∷ es) in
    ap (λ w. read_tuple expr w) (append_assoc ts (symbol operator.Comma l ∷ us) rest)
    ∙ tuple_from b n expr m r rest s ts (symbol operator.Comma l ∷ us) e es (d, omega arith, omega arith) (to_tail b n x (omega arith) (omega arith) l) refl h
tuple_reads b n expr m r ts0 t0 (tuple_comma {ts = ts} {es = es} l d) w h rest s =
    let wide = length-append ts (symbol operator.Comma l ∷ []) in
    let deep = depth_tuple es in
    let c = comma_tail b n d (omega arith) (omega arith) l in
    let f = c.0 in
    ap (λ w. read_tuple expr (w ++ rest)) f.tokens
    ∙ ap (λ w. read_tuple expr w) (append_assoc f.front f.follow rest)
    ∙ tuple_from b n expr m r rest s f.front f.follow f.first f.more f.one f.tail c.1 (subst (λ z. expr_depth (node.Tuple z) ≤ n) f.trees h)
    ∙ ap (λ z. Some (node.Tuple z, rest)) (sym f.trees)

-- no expression begins with `yield`
abbrev by_yield : Bool → Option ⊤
by_yield true = Some tt
by_yield false = None

abbrev yields : Kind → Option ⊤
yields k = by_yield (is_yield k)

single_yield : (k : Kind) (s : Single) → single_of k ≡ Some s → yields k ≡ None
single_yield (kind.Keyword word.Yield) s e = cc
single_yield _ s e = refl

yield_free : NoStart yields
yield_free = record { atom = record { name = λ n. refl; int = λ n. refl; text = λ s. refl; single = single_yield; bracket = refl }; minus = refl; negation = refl }

by_yield_none : (c : Bool) → by_yield c ≡ None → c ≡ false
by_yield_none false e = refl
by_yield_none true e = cc

no_yield : (ts rest : List Token) → Begins yields ts → yield_line (ts ++ rest) ≡ None
unfolding yield_line pick
no_yield [] rest h = absurd h
no_yield (t ∷ ts) rest h = rw (by_yield_none (is_yield t.kind) h) refl

pub rhs_reads : (b n : ℕ) (expr : Reader Expression) → n ≤ 256 → Reads IsExpr 2 b n expr → Reads IsRhs 1 b n (read_rhs expr)
unfolding then_read pick choose yield_line
rhs_reads b n expr m r ts t (rhs_yield l) w h rest s = rw (stops_none rest s) refl
rhs_reads b n expr m r ts0 t0 (rhs_yield_value {ts = ts} {e = e} l d) w h rest s =
    let deep = depth_yield_some l e in
    ap (λ c. pick c (then_read (read_tuple expr (ts ++ rest)) (λ e left. made (node.Yield l (Some e)) left)) (Some (node.Yield l None, ts ++ rest))) (tuple_starts ts rest e d)
    ∙ ap (λ (g : Answer Expression). then_read g (λ e left. made (node.Yield l (Some e)) left)) (tuple_reads b n expr m r ts e d (omega arith) (omega arith) rest s)
    ∙ made_fits (node.Yield l (Some e)) rest (omega arith)
rhs_reads b n expr m r ts t (rhs_tuple d) w h rest s =
    ap (λ (g : Answer ℕ). choose g (read_tuple expr (ts ++ rest)) (λ line left. pick (starts left) (then_read (read_tuple expr left) (λ e end. made (node.Yield line (Some e)) end)) (Some (node.Yield line None, left)))) (no_yield ts rest (tuple_begins yields yield_free d))
    ∙ tuple_reads b n expr m r ts t d w h rest s
