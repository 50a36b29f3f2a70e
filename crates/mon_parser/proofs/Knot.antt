-- Expressions are read: the levels tied together.
use Rattle.std.proofs.Common.{◌≡◌, ℕ, zero, suc, ◌<◌, ◌≤◌, List, [], ◌∷◌, ◌++◌, length, refl, ap, ◌∙◌, arith, append_assoc, length-append}
use Rattle.std.specs.Prelude.{Some, None}
use Rattle.mon_lexer.specs.declared.token.Token.{Token}
use Rattle.mon_lexer.specs.declared.token.Kind.{Kind}
use Rattle.mon_lexer.specs.declared.token.Kind.TheVariants as kind
use Rattle.mon_lexer.specs.declared.token.Keyword.TheVariants as word
use Rattle.mon_parser.specs.declared.cursor.Sign.TheVariants as sign
use Rattle.mon_trees.specs.declared.tree.Expression.{Expression}
use Rattle.mon_trees.specs.declared.tree.Expression.TheViews as node
use Rattle.mon_parser.specs.Tokens.{key}
use Rattle.mon_parser.specs.Depth.{expr_depth}
use Rattle.mon_parser.specs.Reader.{Answer, Reader, then_read, choose, next_at, mark_at, made, binds, if_from, read_or, read_expr_in, read_expr}
use Rattle.mon_parser.specs.Grammar.{IsOr, IsExpr, expr_or, expr_if}
use Rattle.mon_parser.proofs.Left.{Stops, stops_more, Reads, made_fits}
use Rattle.mon_parser.proofs.Prefixes.{depth_some, unary_reads, not_reads}
use Rattle.mon_parser.proofs.Grouping.{term_reads, sum_reads, and_reads, or_reads}
use Rattle.mon_parser.proofs.Compare.{compare_reads}
use Rattle.mon_parser.proofs.Begins.{no_start, starts_free, expr_begins}
use Rattle.mon_parser.proofs.Postfix.{postfix_reads}
use Rattle.mon_parser.proofs.Depths.{depth_if}

-- the reader of what stands in brackets reads to any number of nodes
abbrev pub ReadsExpr : ℕ → (ℕ → Reader Expression) → Type 0
ReadsExpr b expr = (n : ℕ) → n ≤ 256 → Reads IsExpr 2 b n (expr n)

pub or_level_reads : (b : ℕ) (expr : ℕ → Reader Expression) → ReadsExpr b expr → (n : ℕ) → n ≤ 256 → Reads IsOr 3 (suc b) n (read_or expr n)
or_level_reads b expr r n m =
    or_reads expr (suc b) n m (and_reads expr (suc b) n m (not_reads expr (suc b) n m (λ k i. compare_reads expr (suc b) k i (sum_reads expr (suc b) k i (term_reads expr (suc b) k i (unary_reads expr (suc b) k i (λ j z. postfix_reads b j (expr j) z (r j z))))))))

if_none : (k : Kind) → binds k < 2 → mark_at sign.If k ≡ None
if_none (kind.Keyword word.If) h = absurd (omega (arith, h))
if_none _ h = refl

if_end : (or last : Reader Expression) (a : Expression) (rest : List Token) → Stops 2 rest → if_from or last a rest ≡ Some (a, rest)
unfolding choose next_at
if_end or last a [] s = refl
if_end or last a (t ∷ ts) s = rw (if_none t.kind s) refl

in_reads : (b : ℕ) (expr : ℕ → Reader Expression) → ReadsExpr b expr → (n : ℕ) → n ≤ 256 → (ts : List Token) (t : Expression) → IsExpr ts t → length ts ≤ suc b → expr_depth t ≤ n → (rest : List Token) → Stops 2 rest → read_expr_in expr n (ts ++ rest) ≡ Some (t, rest)
unfolding read_expr_in then_read choose next_at
in_reads b expr r zero m ts t d w h rest s = absurd (omega (arith, depth_some t))
in_reads b expr r (suc n) m ts t (expr_or d) w h rest s =
    ap (λ (g : Answer Expression). then_read g (λ a left. if_from (read_or expr (suc n)) (read_expr_in expr n) a left)) (or_level_reads b expr r (suc n) m ts t d w h rest (stops_more 2 3 rest s (omega arith)))
    ∙ if_end (read_or expr (suc n)) (read_expr_in expr n) t rest s
in_reads b expr r (suc n) m ts0 t0 (expr_if {ts = ts} {us = us} {vs = vs} {a = a} {c = c} {b = e} l k d x y) w h rest s =
    let deep = depth_if a c e in
    let some = depth_some e in
    let wide = length-append ts (key word.If l ∷ (us ++ key word.Else k ∷ vs)) in
    let wider = length-append us (key word.Else k ∷ vs) in
    ap (λ z. then_read (read_or expr (suc n) z) (λ a left. if_from (read_or expr (suc n)) (read_expr_in expr n) a left)) (append_assoc ts (key word.If l ∷ (us ++ key word.Else k ∷ vs)) rest)
    ∙ ap (λ (g : Answer Expression). then_read g (λ a left. if_from (read_or expr (suc n)) (read_expr_in expr n) a left)) (or_level_reads b expr r (suc n) m ts a d (omega arith) (omega arith) (key word.If l ∷ ((us ++ key word.Else k ∷ vs) ++ rest)) (omega arith))
    ∙ ap (λ z. then_read (read_or expr (suc n) z) (λ c left. then_read (next_at (mark_at sign.Else) left) (λ is end. then_read (read_expr_in expr n end) (λ b last. made (node.If a c b) last)))) (append_assoc us (key word.Else k ∷ vs) rest)
    ∙ ap (λ (g : Answer Expression). then_read g (λ c left. then_read (next_at (mark_at sign.Else) left) (λ is end. then_read (read_expr_in expr n end) (λ b last. made (node.If a c b) last)))) (or_level_reads b expr r (suc n) m us c x (omega arith) (omega arith) (key word.Else k ∷ (vs ++ rest)) (omega arith))
    ∙ ap (λ (g : Answer Expression). then_read g (λ b last. made (node.If a c b) last)) (in_reads b expr r n (omega arith) vs e y (omega arith) (omega arith) rest s)
    ∙ made_fits (node.If a c e) rest (omega arith)

no_tokens : (t : Expression) → IsExpr [] t → ⊥
no_tokens t d = expr_begins no_start starts_free d

pub expr_reads : (b : ℕ) → ReadsExpr b (read_expr b)
unfolding read_expr
expr_reads zero n m [] t d w h rest s = absurd (no_tokens t d)
expr_reads zero n m (u ∷ ts) t d w h rest s = absurd (omega arith)
expr_reads (suc b) n m ts t d w h rest s = in_reads b (read_expr b) (expr_reads b) n m ts t d w h rest s
