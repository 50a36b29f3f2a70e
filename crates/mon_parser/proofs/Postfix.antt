-- An atom with what stands behind it is read.
use Rattle.std.proofs.Common.{◌≡◌, ℕ, zero, suc, ◌+◌, ◌-◌, ◌<◌, ◌≤◌, List, [], ◌∷◌, ◌++◌, length, map, refl, ap, ◌∙◌, arith, append_assoc, length-append, add-one}
use Rattle.std.specs.Prelude.{Some, None}
use Rattle.mon_lexer.specs.declared.token.Token.{Token}
use Rattle.mon_lexer.specs.declared.token.Kind.{Kind}
use Rattle.mon_lexer.specs.declared.token.Kind.TheVariants as kind
use Rattle.mon_lexer.specs.declared.token.Operator.TheVariants as operator
use Rattle.mon_parser.specs.declared.cursor.Sign.TheVariants as sign
use Rattle.mon_parser.specs.declared.levels.Suffix.{Suffix}
use Rattle.mon_parser.specs.declared.levels.Suffix.TheVariants as suffix
use Rattle.mon_trees.specs.declared.tree.Method.{Method}
use Rattle.mon_trees.specs.declared.tree.Expression.{Expression}
use Rattle.mon_trees.specs.declared.tree.Expression.TheViews as node
use Rattle.mon_parser.specs.Tokens.{mark, symbol}
use Rattle.mon_parser.specs.Depth.{expr_depth, most}
use Rattle.mon_parser.specs.Reader.{Answer, Reader, then_read, choose, next_at, mark_at, made, binds, method_of, method_at, suffix_at, read_args, read_atom, read_suffix, more_suffixes, read_postfix}
use Rattle.mon_parser.specs.Grammar.{IsPostfix, postfix_atom, postfix_call, postfix_subscript, postfix_method, IsArgs, IsMethod, method_send, method_throw, method_close, IsExpr}
use Rattle.mon_parser.proofs.Left.{Stops, stops_more, Reads, made_fits}
use Rattle.mon_parser.proofs.Lists.{args_reads}
use Rattle.mon_parser.proofs.Atoms.{atom_reads}
use Rattle.mon_parser.proofs.Depths.{depth_call, depth_subscript, depth_method}

suffix_none : (k : Kind) → binds k < 8 → suffix_at k ≡ None
suffix_none (kind.Operator operator.OpenRound) h = absurd (omega (arith, h))
suffix_none (kind.Operator operator.OpenSquare) h = absurd (omega (arith, h))
suffix_none (kind.Operator operator.Dot) h = absurd (omega (arith, h))
suffix_none _ h = refl

suffixes_end : (expr : Reader Expression) (turns : ℕ) (a : Expression) (rest : List Token) → Stops 8 rest → more_suffixes expr turns a rest ≡ Some (a, rest)
unfolding more_suffixes choose next_at
suffixes_end expr zero a rest s = refl
suffixes_end expr (suc turns) a [] s = refl
suffixes_end expr (suc turns) a (t ∷ ts) s = rw (suffix_none t.kind s) refl

suffixes_step : (expr : Reader Expression) (turns j : ℕ) (a b : Expression) (k : Kind) (l : ℕ) (x : Suffix) (ts rest : List Token) → suffix_at k ≡ Some x → read_suffix expr x a ts ≡ Some (b, rest) → turns ≡ j + 1 → more_suffixes expr turns a (mark k l ∷ ts) ≡ more_suffixes expr j b rest
unfolding more_suffixes choose next_at then_read
suffixes_step expr turns j a b k l x ts rest e r h = rw (h, add-one, e, r) refl

-- the suffixes themselves
call_reads : (b n : ℕ) (expr : Reader Expression) → Reads IsExpr 2 b n expr → (a : Expression) (us : List Token) (es : List Expression) → IsArgs us es → length us ≤ b → most (map expr_depth es) ≤ n → expr_depth (node.Call a es) ≤ 256 → (m : ℕ) (rest : List Token)
    → read_suffix expr suffix.Call a (us ++ symbol operator.CloseRound m ∷ rest) ≡ Some (node.Call a es, rest)
unfolding then_read next_at
call_reads b n expr r a us es d w h fits m rest =
    ap (λ (g : Answer (List Expression)). then_read g (λ es left. then_read (next_at (mark_at sign.CloseRound) left) (λ is end. made (node.Call a es) end))) (args_reads b n expr r us es d w h (symbol operator.CloseRound m ∷ rest) (omega arith))
    ∙ made_fits (node.Call a es) rest fits

subscript_reads : (b n : ℕ) (expr : Reader Expression) → Reads IsExpr 2 b n expr → (a : Expression) (us : List Token) (i : Expression) → IsExpr us i → length us ≤ b → expr_depth i ≤ n → expr_depth (node.Subscript a i) ≤ 256 → (m : ℕ) (rest : List Token)
    → read_suffix expr suffix.Subscript a (us ++ symbol operator.CloseSquare m ∷ rest) ≡ Some (node.Subscript a i, rest)
unfolding then_read next_at
subscript_reads b n expr r a us i d w h fits m rest =
    ap (λ (g : Answer Expression). then_read g (λ i left. then_read (next_at (mark_at sign.CloseSquare) left) (λ is end. made (node.Subscript a i) end))) (r us i d w h (symbol operator.CloseSquare m ∷ rest) (omega arith))
    ∙ made_fits (node.Subscript a i) rest fits

method_named : (m : Method) (ns : List Token) → IsMethod ns m → (rest : List Token) → next_at method_at (ns ++ rest) ≡ Some (m, rest)
unfolding next_at method_of
method_named m0 ns0 (method_send l) rest = refl
method_named m0 ns0 (method_throw l) rest = refl
method_named m0 ns0 (method_close l) rest = refl

method_reads : (b n : ℕ) (expr : Reader Expression) → Reads IsExpr 2 b n expr → (a : Expression) (ns us : List Token) (q : Method) (es : List Expression) → IsMethod ns q → IsArgs us es → length us ≤ b → most (map expr_depth es) ≤ n → expr_depth (node.Method a q es) ≤ 256 → (l m : ℕ) (rest : List Token)
    → read_suffix expr suffix.Ask a (ns ++ symbol operator.OpenRound l ∷ (us ++ symbol operator.CloseRound m ∷ rest)) ≡ Some (node.Method a q es, rest)
unfolding then_read next_at
method_reads b n expr r a ns us q es word d w h fits l m rest =
    ap (λ (g : Answer Method). then_read g (λ q left. then_read (next_at (mark_at sign.OpenRound) left) (λ is more. then_read (read_args expr more) (λ es end. then_read (next_at (mark_at sign.CloseRound) end) (λ is last. made (node.Method a q es) last))))) (method_named q ns word (symbol operator.OpenRound l ∷ (us ++ symbol operator.CloseRound m ∷ rest)))
    ∙ ap (λ (g : Answer (List Expression)). then_read g (λ es left. then_read (next_at (mark_at sign.CloseRound) left) (λ is end. made (node.Method a q es) end))) (args_reads b n expr r us es d w h (symbol operator.CloseRound m ∷ rest) (omega arith))
    ∙ made_fits (node.Method a q es) rest fits

-- how many suffixes
abbrev count : {ts : List Token} {t : Expression} → IsPostfix ts t → ℕ
count (postfix_atom d) = 0
count (postfix_call l m d x) = count d + 1
count (postfix_subscript l m d x) = count d + 1
count (postfix_method k l m d y x) = count d + 1

count_depth : {ts : List Token} {t : Expression} → (d : IsPostfix ts t) → count d ≤ expr_depth t
count_depth (postfix_atom d) = omega arith
count_depth (postfix_call {f = a} {args = es} l m d x) = let h = count_depth d in omega (arith, h, depth_call a es)
count_depth (postfix_subscript {a = a} {i = i} l m d x) = let h = count_depth d in omega (arith, h, depth_subscript a i)
count_depth (postfix_method {a = a} {method = q} {args = es} k l m d y x) = let h = count_depth d in omega (arith, h, depth_method a q es)

postfix_goes_on : (b n : ℕ) (expr : Reader Expression) → n ≤ 256 → Reads IsExpr 2 b n expr → {ts : List Token} {t : Expression} → (d : IsPostfix ts t) → length ts ≤ suc b → expr_depth t ≤ n → (rest : List Token) → Stops 9 rest → (turns : ℕ) → count d ≤ turns
    → then_read (read_atom expr (ts ++ rest)) (λ a left. more_suffixes expr turns a left) ≡ more_suffixes expr (turns - count d) t rest
unfolding then_read
postfix_goes_on b n expr i r {ts} {t} (postfix_atom d) w h rest s turns c =
    let all : turns ≡ turns - 0 = omega arith in
    ap (λ (g : Answer Expression). then_read g (λ a left. more_suffixes expr turns a left)) (atom_reads b n expr i r ts t d w h rest s) ∙ ap (λ k. more_suffixes expr k t rest) all
postfix_goes_on b n expr i r (postfix_call {ts = ts} {us = us} {f = a} {args = es} l m d x) w h rest s turns c =
    let go : Expression → Reader Expression = λ a left. more_suffixes expr turns a left in
    let j : ℕ = turns - (count d + 1) in
    let turn : turns - count d ≡ j + 1 = omega arith in
    let wide = length-append ts (symbol operator.OpenRound l ∷ (us ++ symbol operator.CloseRound m ∷ [])) in
    let wider = length-append us (symbol operator.CloseRound m ∷ []) in
    let deep = depth_call a es in
    let stop : binds (kind.Operator operator.OpenRound) < 9 = omega arith in
    ap (λ z. then_read (read_atom expr z) go) (append_assoc ts (symbol operator.OpenRound l ∷ (us ++ symbol operator.CloseRound m ∷ [])) rest)
    ∙ postfix_goes_on b n expr i r d (omega arith) (omega arith) (symbol operator.OpenRound l ∷ ((us ++ symbol operator.CloseRound m ∷ []) ++ rest)) stop turns (omega arith)
    ∙ suffixes_step expr (turns - count d) j a (node.Call a es) (kind.Operator operator.OpenRound) l suffix.Call ((us ++ symbol operator.CloseRound m ∷ []) ++ rest) rest refl
    (ap (λ z. read_suffix expr suffix.Call a z) (append_assoc us (symbol operator.CloseRound m ∷ []) rest) ∙ call_reads b n expr r a us es x (omega arith) (omega arith) (omega arith) m rest) turn
postfix_goes_on b n expr i r (postfix_subscript {ts = ts} {us = us} {a = a} {i = e} l m d x) w h rest s turns c =
    let go : Expression → Reader Expression = λ a left. more_suffixes expr turns a left in
    let j : ℕ = turns - (count d + 1) in
    let turn : turns - count d ≡ j + 1 = omega arith in
    let wide = length-append ts (symbol operator.OpenSquare l ∷ (us ++ symbol operator.CloseSquare m ∷ [])) in
    let wider = length-append us (symbol operator.CloseSquare m ∷ []) in
    let deep = depth_subscript a e in
    let stop : binds (kind.Operator operator.OpenSquare) < 9 = omega arith in
    ap (λ z. then_read (read_atom expr z) go) (append_assoc ts (symbol operator.OpenSquare l ∷ (us ++ symbol operator.CloseSquare m ∷ [])) rest)
    ∙ postfix_goes_on b n expr i r d (omega arith) (omega arith) (symbol operator.OpenSquare l ∷ ((us ++ symbol operator.CloseSquare m ∷ []) ++ rest)) stop turns (omega arith)
    ∙ suffixes_step expr (turns - count d) j a (node.Subscript a e) (kind.Operator operator.OpenSquare) l suffix.Subscript ((us ++ symbol operator.CloseSquare m ∷ []) ++ rest) rest refl
    (ap (λ z. read_suffix expr suffix.Subscript a z) (append_assoc us (symbol operator.CloseSquare m ∷ []) rest) ∙ subscript_reads b n expr r a us e x (omega arith) (omega arith) (omega arith) m rest) turn
postfix_goes_on b n expr i r (postfix_method {ts = ts} {ns = ns} {us = us} {a = a} {method = q} {args = es} k l m d y x) w h rest s turns c =
    let go : Expression → Reader Expression = λ a left. more_suffixes expr turns a left in
    let j : ℕ = turns - (count d + 1) in
    let turn : turns - count d ≡ j + 1 = omega arith in
    let inner : List Token = us ++ symbol operator.CloseRound m ∷ [] in
    let middle : List Token = ns ++ symbol operator.OpenRound l ∷ inner in
    let wide = length-append ts (symbol operator.Dot k ∷ middle) in
    let wider = length-append ns (symbol operator.OpenRound l ∷ inner) in
    let widest = length-append us (symbol operator.CloseRound m ∷ []) in
    let deep = depth_method a q es in
    let stop : binds (kind.Operator operator.Dot) < 9 = omega arith in
    ap (λ z. then_read (read_atom expr z) go) (append_assoc ts (symbol operator.Dot k ∷ middle) rest)
    ∙ postfix_goes_on b n expr i r d (omega arith) (omega arith) (symbol operator.Dot k ∷ (middle ++ rest)) stop turns (omega arith)
    ∙ suffixes_step expr (turns - count d) j a (node.Method a q es) (kind.Operator operator.Dot) k suffix.Ask (middle ++ rest) rest refl
    (ap (λ z. read_suffix expr suffix.Ask a z) (append_assoc ns (symbol operator.OpenRound l ∷ inner) rest)
    ∙ ap (λ z. read_suffix expr suffix.Ask a (ns ++ symbol operator.OpenRound l ∷ z)) (append_assoc us (symbol operator.CloseRound m ∷ []) rest)
    ∙ method_reads b n expr r a ns us q es y x (omega arith) (omega arith) (omega arith) l m rest) turn

pub postfix_reads : (b n : ℕ) (expr : Reader Expression) → n ≤ 256 → Reads IsExpr 2 b n expr → Reads IsPostfix 8 (suc b) n (read_postfix expr)
postfix_reads b n expr i r ts t d w h rest s =
    postfix_goes_on b n expr i r d w h rest (stops_more 8 9 rest s (omega arith)) 256 (omega (arith, count_depth d)) ∙ suffixes_end expr (256 - count d) t rest s
