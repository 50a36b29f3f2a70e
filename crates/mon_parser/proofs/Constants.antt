-- Constants are read, whatever follows them that ends a list.
use Rattle.std.proofs.Common.{◌≡◌, ℕ, zero, suc, ◌≤◌, List, [], ◌∷◌, ◌++◌, length, map, refl, sym, ap, ◌∙◌, arith, append_assoc, append-nil, length-append, subst}
use Rattle.std.specs.Prelude.{Some, None, ⊤, true, false}
use Rattle.mon_lexer.specs.declared.token.Token.{Token}
use Rattle.mon_lexer.specs.declared.token.Kind.{Kind}
use Rattle.mon_lexer.specs.declared.token.Kind.TheVariants as kind
use Rattle.mon_lexer.specs.declared.token.Operator.TheVariants as operator
use Rattle.mon_lexer.specs.declared.token.Keyword.TheVariants as word
use Rattle.mon_parser.specs.declared.cursor.Sign.TheVariants as sign
use Rattle.mon_trees.specs.declared.tree.Single.{Single}
use Rattle.mon_trees.specs.declared.tree.Constant.{Constant}
use Rattle.mon_trees.specs.declared.tree.Constant as const
use Rattle.mon_trees.specs.declared.tree.Constant.TheViews as consts
use Rattle.mon_parser.specs.Tokens.{symbol, single_of}
use Rattle.mon_parser.specs.Depth.{const_depth, most}
use Rattle.mon_parser.specs.Reader.{Answer, Reader, then_read, choose, pick, next_at, mark_at, within, is_comma, more_items}
use Rattle.mon_parser.specs.Statements.{starts_constant, starts_constant_kind, read_constants, read_constant}
use Rattle.mon_parser.specs.Grammar.{texts_one, texts_more, single_word, IsConsts, consts_one, consts_tuple, consts_comma, IsConstList, const_list_one, const_list_more, IsConst, const_int, const_negative, const_texts, const_single, const_empty, const_group}
use Rattle.mon_parser.proofs.Left.{Stops}
use Rattle.mon_parser.proofs.Items.{Tail, stop, trailing, next, Ends, ReadsItems, tail_reads}
use Rattle.mon_parser.proofs.Atoms.{texts_end, texts_go_on}
use Rattle.mon_parser.proofs.Tuples.{IsComma, comma_here}
use Rattle.mon_parser.proofs.Names.{no_comma}
use Rattle.mon_parser.proofs.Steps.{within_fits}
use Rattle.mon_parser.proofs.StatementDepths.{depth_constants}

-- a constant within the limits
abbrev Small : ℕ → List Token → Constant → Type 0
Small b ts c = IsConst ts c × (length ts ≤ b) × (const_depth c ≤ 256)

abbrev pub ReadsConst : ℕ → Reader Constant → Type 0
ReadsConst b read = (ts : List Token) (c : Constant) → IsConst ts c → length ts ≤ b → const_depth c ≤ 256 → (rest : List Token) → Stops 9 rest → read (ts ++ rest) ≡ Some (c, rest)

single_starts : (k : Kind) (s : Single) → single_of k ≡ Some s → starts_constant_kind k ≡ true
single_starts (kind.Keyword word.None) s e = refl
single_starts (kind.Keyword word.True) s e = refl
single_starts (kind.Keyword word.False) s e = refl
single_starts _ s e = cc

const_starts : (ts : List Token) (c : Constant) → IsConst ts c → (rest : List Token) → starts_constant (ts ++ rest) ≡ true
unfolding starts_constant
const_starts ts c (const_int l) rest = refl
const_starts ts c (const_negative l m) rest = refl
const_starts ts c (const_texts (texts_one l)) rest = refl
const_starts ts c (const_texts (texts_more l d)) rest = refl
const_starts ts c (const_single (single_word {k = k} l {s = s} e)) rest = single_starts k s e
const_starts ts c (const_empty l m) rest = refl
const_starts ts c (const_group l m d) rest = refl

reads_items : (b : ℕ) (read : Reader Constant) → ReadsConst b read → ReadsItems (Small b) starts_constant (Stops 9) read
reads_items b read r = record {
  reads = λ ts c i rest after. r ts c i.0 i.1 i.2 rest after;
  item_begins = λ ts c i rest. const_starts ts c i.0 rest;
  comma = λ l ts. omega arith;
}

to_tail : (b : ℕ) {us : List Token} {cs : List Constant} → IsConstList us cs → length us ≤ b → most (map const_depth cs) ≤ 256 → (l : ℕ) → Tail (Small b) (symbol operator.Comma l ∷ us) cs
to_tail b (const_list_one {ts = ts} {c = c} d) w h l =
    let some : Tail (Small b) (symbol operator.Comma l ∷ (ts ++ [])) (c ∷ []) = next l (d, omega arith, omega arith) stop in
    subst (λ (z : List Token). Tail (Small b) (symbol operator.Comma l ∷ z) (c ∷ [])) (append-nil ts) some
to_tail b (const_list_more {ts = ts} {us = us} {c = c} {cs = cs} m d x) w h l =
    let wide = length-append ts (symbol operator.Comma m ∷ us) in
    next l (d, omega arith, omega arith) (to_tail b x (omega arith) (omega arith) m)

to_tail_comma : (b : ℕ) {us : List Token} {cs : List Constant} → IsConstList us cs → length us ≤ b → most (map const_depth cs) ≤ 256 → (l k : ℕ) → Tail (Small b) (symbol operator.Comma l ∷ (us ++ symbol operator.Comma k ∷ [])) cs
to_tail_comma b (const_list_one {ts = ts} {c = c} d) w h l k = next l (d, omega arith, omega arith) (trailing k)
to_tail_comma b (const_list_more {ts = ts} {us = us} {c = c} {cs = cs} m d x) w h l k =
    let wide = length-append ts (symbol operator.Comma m ∷ us) in
    let some : Tail (Small b) (symbol operator.Comma l ∷ (ts ++ (symbol operator.Comma m ∷ (us ++ symbol operator.Comma k ∷ [])))) (c ∷ cs) = next l (d, omega arith, omega arith) (to_tail_comma b x (omega arith) (omega arith) m k) in
    subst (λ (z : List Token). Tail (Small b) (symbol operator.Comma l ∷ z) (c ∷ cs)) (sym (append_assoc ts (symbol operator.Comma m ∷ us) (symbol operator.Comma k ∷ []))) some

tail_stops : (b : ℕ) (rest : List Token) → Stops 9 rest → {us : List Token} {more : List Constant} → Tail (Small b) us more → Stops 9 (us ++ rest)
tail_stops b rest s stop = s
tail_stops b rest s (trailing l) = omega arith
tail_stops b rest s (next l i d) = omega arith

-- with a comma behind the first
tuple_from : (b : ℕ) (read : Reader Constant) → ReadsConst b read → (rest : List Token) → Ends starts_constant rest → Stops 9 rest → (front follow : List Token) (c : Constant) (cs : List Constant) → Small b front c → Tail (Small b) follow cs → IsComma follow → const_depth (consts.Tuple (c ∷ cs)) ≤ 256
    → read_constants read (front ++ (follow ++ rest)) ≡ Some (consts.Tuple (c ∷ cs), rest)
unfolding then_read pick
tuple_from b read r rest e s front follow c cs one tail comma h =
    ap (λ (g : Answer Constant). then_read g (λ c left. pick (is_comma left) (then_read (more_items starts_constant read (length left) left) (λ cs end. within const_depth (consts.Tuple (c ∷ cs)) end)) (Some (c, left)))) (r front c one.0 one.1 one.2 (follow ++ rest) (tail_stops b rest s tail))
    ∙ ap (λ q. pick q (then_read (more_items starts_constant read (length (follow ++ rest)) (follow ++ rest)) (λ cs end. within const_depth (consts.Tuple (c ∷ cs)) end)) (Some (c, follow ++ rest))) (comma_here follow rest comma)
    ∙ ap (λ (g : Answer (List Constant)). then_read g (λ cs end. within const_depth (consts.Tuple (c ∷ cs)) end)) (tail_reads (Small b) starts_constant (Stops 9) read (reads_items b read r) rest e s tail (length (follow ++ rest)) (omega (arith, length-append follow rest)))
    ∙ within_fits const_depth (consts.Tuple (c ∷ cs)) rest h

pub consts_read : (b : ℕ) (read : Reader Constant) → ReadsConst b read → (ts : List Token) (c : Constant) → IsConsts ts c → length ts ≤ b → const_depth c ≤ 256 → (rest : List Token) → Ends starts_constant rest → Stops 9 rest → read_constants read (ts ++ rest) ≡ Some (c, rest)
unfolding then_read pick
consts_read b read r ts c (consts_one d) w h rest e s =
    ap (λ (g : Answer Constant). then_read g (λ c left. pick (is_comma left) (then_read (more_items starts_constant read (length left) left) (λ cs end. within const_depth (consts.Tuple (c ∷ cs)) end)) (Some (c, left)))) (r ts c d w h rest s)
    ∙ ap (λ q. pick q (then_read (more_items starts_constant read (length rest) rest) (λ cs end. within const_depth (consts.Tuple (c ∷ cs)) end)) (Some (c, rest))) (no_comma rest e.comma)
consts_read b read r ts0 c0 (consts_tuple {ts = ts} {us = us} {c = c} {cs = cs} l d x) w h rest e s =
    let wide = length-append ts (symbol operator.Comma l ∷ us) in
    let deep = depth_constants (c ∷ cs) in
    ap (λ w. read_constants read w) (append_assoc ts (symbol operator.Comma l ∷ us) rest)
    ∙ tuple_from b read r rest e s ts (symbol operator.Comma l ∷ us) c cs (d, omega arith, omega arith) (to_tail b x (omega arith) (omega arith) l) refl h
consts_read b read r ts0 c0 (consts_comma l (const_list_one {ts = ts} {c = c} d)) w h rest e s =
    let wide = length-append ts (symbol operator.Comma l ∷ []) in
    let deep = depth_constants (c ∷ []) in
    ap (λ w. read_constants read w) (append_assoc ts (symbol operator.Comma l ∷ []) rest)
    ∙ tuple_from b read r rest e s ts (symbol operator.Comma l ∷ []) c [] (d, omega arith, omega arith) (trailing l) refl h
consts_read b read r ts0 c0 (consts_comma l (const_list_more {ts = ts} {us = us} {c = c} {cs = cs} m d x)) w h rest e s =
    let follow : List Token = symbol operator.Comma m ∷ (us ++ symbol operator.Comma l ∷ []) in
    let wide = length-append (ts ++ symbol operator.Comma m ∷ us) (symbol operator.Comma l ∷ []) in
    let wider = length-append ts (symbol operator.Comma m ∷ us) in
    let deep = depth_constants (c ∷ cs) in
    ap (λ w. read_constants read (w ++ rest)) (append_assoc ts (symbol operator.Comma m ∷ us) (symbol operator.Comma l ∷ []))
    ∙ ap (λ w. read_constants read w) (append_assoc ts follow rest)
    ∙ tuple_from b read r rest e s ts follow c cs (d, omega arith, omega arith) (to_tail_comma b x (omega arith) (omega arith) m l) refl h

-- no constant begins with a closing bracket
list_starts : {ts : List Token} {cs : List Constant} → IsConstList ts cs → (rest : List Token) → starts_constant (ts ++ rest) ≡ true
list_starts (const_list_one {ts = ts} {c = c} d) rest = const_starts ts c d rest
list_starts (const_list_more {ts = ts} {us = us} {c = c} l d x) rest = ap starts_constant (append_assoc ts (symbol operator.Comma l ∷ us) rest) ∙ const_starts ts c d (symbol operator.Comma l ∷ (us ++ rest))

consts_start : {ts : List Token} {c : Constant} → IsConsts ts c → (rest : List Token) → starts_constant (ts ++ rest) ≡ true
consts_start {ts} {c} (consts_one d) rest = const_starts ts c d rest
consts_start (consts_tuple {ts = ts} {us = us} {c = c} l d x) rest = ap starts_constant (append_assoc ts (symbol operator.Comma l ∷ us) rest) ∙ const_starts ts c d (symbol operator.Comma l ∷ (us ++ rest))
consts_start (consts_comma {ts = ts} l d) rest = ap starts_constant (append_assoc ts (symbol operator.Comma l ∷ []) rest) ∙ list_starts d (symbol operator.Comma l ∷ rest)

kind_no_close : (k : Kind) → starts_constant_kind k ≡ true → mark_at sign.CloseRound k ≡ None
kind_no_close (kind.Operator operator.CloseRound) e = cc
kind_no_close _ e = refl

start_no_close : (ts : List Token) → starts_constant ts ≡ true → next_at (mark_at sign.CloseRound) ts ≡ None
unfolding starts_constant next_at
start_no_close [] e = refl
start_no_close (t ∷ ts) e = rw (kind_no_close t.kind e) refl

ends_close : (m : ℕ) (rest : List Token) → Ends starts_constant (symbol operator.CloseRound m ∷ rest)
unfolding starts_constant
ends_close m rest = record { comma = refl; none_begins = refl }

empty_none : (c : Constant) → IsConst [] c → ⊥
unfolding starts_constant
empty_none c d = let e : false ≡ true = const_starts [] c d [] in cc

pub const_reads : (b : ℕ) → ReadsConst b (read_constant b)
unfolding read_constant choose next_at then_read
const_reads zero [] c d w h rest s = absurd (empty_none c d)
const_reads zero (t ∷ ts) c d w h rest s = absurd (omega arith)
const_reads (suc b) ts c (const_int l) w h rest s = refl
const_reads (suc b) ts c (const_negative l m) w h rest s = refl
const_reads (suc b) ts c (const_texts (texts_one {s = u} l)) w h rest s = ap (λ (g : Answer (List ℕ)). then_read g (λ u left. Some (const.Text u, left))) (texts_end u rest s)
const_reads (suc b) ts c (const_texts (texts_more {s = u} l d)) w h rest s = ap (λ (g : Answer (List ℕ)). then_read g (λ u left. Some (const.Text u, left))) (texts_go_on d u rest s)
const_reads (suc b) ts c (const_single (single_word {k = k} l e)) w h rest s = rw e refl
const_reads (suc b) ts c (const_empty l m) w h rest s = refl
const_reads (suc b) ts0 c (const_group {ts = ts} l m d) w h rest s =
    let wide = length-append ts (symbol operator.CloseRound m ∷ []) in
    let last : List Token = symbol operator.CloseRound m ∷ rest in
    ap (λ z. choose (next_at (mark_at sign.CloseRound) z) (then_read (read_constants (read_constant b) z) (λ c left. then_read (next_at (mark_at sign.CloseRound) left) (λ is end. Some (c, end)))) (λ is left. Some (const.Empty, left))) (append_assoc ts (symbol operator.CloseRound m ∷ []) rest)
    ∙ ap (λ (g : Answer ⊤). choose g (then_read (read_constants (read_constant b) (ts ++ last)) (λ c left. then_read (next_at (mark_at sign.CloseRound) left) (λ is end. Some (c, end)))) (λ is left. Some (const.Empty, left))) (start_no_close (ts ++ last) (consts_start d last))
    ∙ ap (λ (g : Answer Constant). then_read g (λ c left. then_read (next_at (mark_at sign.CloseRound) left) (λ is end. Some (c, end)))) (consts_read b (read_constant b) (const_reads b) ts c d (omega arith) h last (ends_close m rest) (omega arith))
