-- Lists of expressions: tuples and arguments are read, and nothing else is.
use Rattle.std.proofs.Common.{◌≡◌, ℕ, ◌≤◌, List, [], ◌∷◌, ◌++◌, length, map, refl, sym, ap, ◌∙◌, arith, append_assoc, append-nil, length-append, subst}
use Rattle.std.specs.Prelude.{Some}
use Rattle.mon_lexer.specs.declared.token.Token.{Token}
use Rattle.mon_lexer.specs.declared.token.Operator.TheVariants as operator
use Rattle.mon_trees.specs.declared.tree.Expression.{Expression}
use Rattle.mon_parser.specs.Tokens.{symbol}
use Rattle.mon_parser.specs.Depth.{expr_depth, most}
use Rattle.mon_parser.specs.Reader.{Answer, Reader, then_read, pick, starts, more_items, read_args}
use Rattle.mon_parser.specs.Grammar.{IsExprs, exprs_one, exprs_more, IsExpr, IsArgs, args_none, args_some, args_comma}
use Rattle.mon_parser.proofs.Left.{Stops, stops_more, Reads}
use Rattle.mon_parser.proofs.Items.{Tail, stop, trailing, next, Ends, ReadsItems, tail_reads}
use Rattle.mon_parser.proofs.Begins.{expr_starts, stops_none, none_no_comma}

-- an expression within the limits
abbrev pub Small : ℕ → ℕ → List Token → Expression → Type 0
Small b n ts e = IsExpr ts e × (length ts ≤ b) × (expr_depth e ≤ n)

pub reads_items : (b n : ℕ) (expr : Reader Expression) → Reads IsExpr 2 b n expr → ReadsItems (Small b n) starts (Stops 2) expr
reads_items b n expr r = record {
  reads = λ ts e i rest after. r ts e i.0 i.1 i.2 rest after;
  item_begins = λ ts e i rest. expr_starts ts rest e i.0;
  comma = λ l ts. omega arith;
}

pub ends_list : (rest : List Token) → Stops 1 rest → Ends starts rest
ends_list rest s = record { comma = none_no_comma rest s; none_begins = stops_none rest s }

-- a list behind a comma, without and with a comma at the end
pub to_tail : (b n : ℕ) {us : List Token} {es : List Expression} → IsExprs us es → length us ≤ b → most (map expr_depth es) ≤ n → (l : ℕ) → Tail (Small b n) (symbol operator.Comma l ∷ us) es
to_tail b n (exprs_one {ts = ts} {e = e} d) w h l =
    let some : Tail (Small b n) (symbol operator.Comma l ∷ (ts ++ [])) (e ∷ []) = next l (d, omega arith, omega arith) stop in
    subst (λ (z : List Token). Tail (Small b n) (symbol operator.Comma l ∷ z) (e ∷ [])) (append-nil ts) some
to_tail b n (exprs_more {ts = ts} {us = us} {e = e} {es = es} m d x) w h l =
    let wide = length-append ts (symbol operator.Comma m ∷ us) in
    next l (d, omega arith, omega arith) (to_tail b n x (omega arith) (omega arith) m)

pub to_tail_comma : (b n : ℕ) {us : List Token} {es : List Expression} → IsExprs us es → length us ≤ b → most (map expr_depth es) ≤ n → (l k : ℕ) → Tail (Small b n) (symbol operator.Comma l ∷ (us ++ symbol operator.Comma k ∷ [])) es
to_tail_comma b n (exprs_one {ts = ts} {e = e} d) w h l k = next l (d, omega arith, omega arith) (trailing k)
to_tail_comma b n (exprs_more {ts = ts} {us = us} {e = e} {es = es} m d x) w h l k =
    let wide = length-append ts (symbol operator.Comma m ∷ us) in
    let some : Tail (Small b n) (symbol operator.Comma l ∷ (ts ++ (symbol operator.Comma m ∷ (us ++ symbol operator.Comma k ∷ [])))) (e ∷ es) = next l (d, omega arith, omega arith) (to_tail_comma b n x (omega arith) (omega arith) m k) in
    subst (λ (z : List Token). Tail (Small b n) (symbol operator.Comma l ∷ z) (e ∷ es)) (sym (append_assoc ts (symbol operator.Comma m ∷ us) (symbol operator.Comma k ∷ []))) some

-- the first of a list, and what follows it
pub record First (b n : ℕ) (ts : List Token) (es : List Expression) : Type 0 where
  pub front : List Token
  pub first : Expression
  pub follow : List Token
  pub more : List Expression
  pub tokens : ts ≡ front ++ follow
  pub trees : es ≡ first ∷ more
  pub one : Small b n front first
  pub tail : Tail (Small b n) follow more

pub first_of_list : (b n : ℕ) {us : List Token} {es : List Expression} → IsExprs us es → length us ≤ b → most (map expr_depth es) ≤ n → First b n us es
first_of_list b n (exprs_one {ts = ts} {e = e} d) w h = record { front = ts; first = e; follow = []; more = []; tokens = sym (append-nil ts); trees = refl; one = (d, omega arith, omega arith); tail = stop }
first_of_list b n (exprs_more {ts = ts} {us = us} {e = e} {es = es} m d x) w h =
    let wide = length-append ts (symbol operator.Comma m ∷ us) in
    record { front = ts; first = e; follow = symbol operator.Comma m ∷ us; more = es; tokens = refl; trees = refl; one = (d, omega arith, omega arith); tail = to_tail b n x (omega arith) (omega arith) m }

unfoldable pub first_comma : (b n : ℕ) {us : List Token} {es : List Expression} → IsExprs us es → length us ≤ b → most (map expr_depth es) ≤ n → (k : ℕ) → First b n (us ++ symbol operator.Comma k ∷ []) es
first_comma b n (exprs_one {ts = ts} {e = e} d) w h k = record { front = ts; first = e; follow = symbol operator.Comma k ∷ []; more = []; tokens = refl; trees = refl; one = (d, omega arith, omega arith); tail = trailing k }
first_comma b n (exprs_more {ts = ts} {us = us} {e = e} {es = es} m d x) w h k =
    let wide = length-append ts (symbol operator.Comma m ∷ us) in
    record { front = ts; first = e; follow = symbol operator.Comma m ∷ (us ++ symbol operator.Comma k ∷ []); more = es; tokens = append_assoc ts (symbol operator.Comma m ∷ us) (symbol operator.Comma k ∷ []); trees = refl; one = (d, omega arith, omega arith); tail = to_tail_comma b n x (omega arith) (omega arith) m k }

-- what follows the first may follow an expression
pub tail_stops : (b n : ℕ) (rest : List Token) → Stops 1 rest → {us : List Token} {more : List Expression} → Tail (Small b n) us more → Stops 2 (us ++ rest)
tail_stops b n rest s stop = stops_more 1 2 rest s (omega arith)
tail_stops b n rest s (trailing l) = omega arith
tail_stops b n rest s (next l i d) = omega arith

pub tail_comes : (b n : ℕ) (expr : Reader Expression) → Reads IsExpr 2 b n expr → (rest : List Token) → Stops 1 rest → {us : List Token} {more : List Expression} → Tail (Small b n) us more → more_items starts expr (length (us ++ rest)) (us ++ rest) ≡ Some (more, rest)
tail_comes b n expr r rest s {us} {more} d = tail_reads (Small b n) starts (Stops 2) expr (reads_items b n expr r) rest (ends_list rest s) (stops_more 1 2 rest s (omega arith)) d (length (us ++ rest)) (omega (arith, length-append us rest))

-- a list within brackets
pub args_read : (b n : ℕ) (expr : Reader Expression) → Reads IsExpr 2 b n expr → (rest : List Token) → Stops 1 rest → {ts : List Token} {es : List Expression} → First b n ts es → read_args expr (ts ++ rest) ≡ Some (es, rest)
unfolding pick then_read
args_read b n expr r rest s {ts} {es} f =
    ap (λ w. read_args expr (w ++ rest)) f.tokens
    ∙ ap (λ w. read_args expr w) (append_assoc f.front f.follow rest)
    ∙ ap (λ c. pick c (then_read (expr (f.front ++ (f.follow ++ rest))) (λ e left. then_read (more_items starts expr (length left) left) (λ es end. Some (e ∷ es, end)))) (Some ([], f.front ++ (f.follow ++ rest)))) (expr_starts f.front (f.follow ++ rest) f.first f.one.0)
    ∙ ap (λ (g : Answer Expression). then_read g (λ e left. then_read (more_items starts expr (length left) left) (λ es end. Some (e ∷ es, end)))) (r f.front f.first f.one.0 f.one.1 f.one.2 (f.follow ++ rest) (tail_stops b n rest s f.tail))
    ∙ ap (λ (g : Answer (List Expression)). then_read g (λ es end. Some (f.first ∷ es, end))) (tail_comes b n expr r rest s f.tail)
    ∙ ap (λ x. Some (x, rest)) (sym f.trees)

pub args_reads : (b n : ℕ) (expr : Reader Expression) → Reads IsExpr 2 b n expr → (ts : List Token) (es : List Expression) → IsArgs ts es → length ts ≤ b → most (map expr_depth es) ≤ n → (rest : List Token) → Stops 1 rest → read_args expr (ts ++ rest) ≡ Some (es, rest)
unfolding pick
args_reads b n expr r ts0 es0 args_none w h rest s = rw (stops_none rest s) refl
args_reads b n expr r ts0 es0 (args_some d) w h rest s = args_read b n expr r rest s (first_of_list b n d w h)
args_reads b n expr r ts0 es0 (args_comma {ts = ts} l d) w h rest s =
    let wide = length-append ts (symbol operator.Comma l ∷ []) in
    args_read b n expr r rest s (first_comma b n d (omega arith) h l)
