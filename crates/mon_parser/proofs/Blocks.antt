-- Statements and blocks are read, whatever follows them that is no clause of theirs.
use Rattle.std.proofs.Common.{◌≡◌, ℕ, zero, suc, ◌<◌, ◌≤◌, List, [], ◌∷◌, ◌++◌, length, map, refl, ap, ◌∙◌, arith, append_assoc, length-append}
use Rattle.std.specs.Prelude.{Option, Some, None, ⊤, false}
use Rattle.mon_lexer.specs.declared.token.Token.{Token}
use Rattle.mon_lexer.specs.declared.token.Kind.{Kind}
use Rattle.mon_lexer.specs.declared.token.Kind.TheVariants as kind
use Rattle.mon_lexer.specs.declared.token.Operator.TheVariants as operator
use Rattle.mon_lexer.specs.declared.token.Keyword.TheVariants as word
use Rattle.mon_parser.specs.declared.cursor.Sign.TheVariants as sign
use Rattle.mon_trees.specs.declared.tree.Single.{Single}
use Rattle.mon_trees.specs.declared.tree.Expression.{Expression}
use Rattle.mon_trees.specs.declared.tree.Simple.{Simple}
use Rattle.mon_trees.specs.declared.tree.Statement.{Statement}
use Rattle.mon_trees.specs.declared.tree.Statement as stmt
use Rattle.mon_trees.specs.declared.tree.Statement.TheViews as compound
use Rattle.mon_trees.specs.declared.tree.Handler.{Handler}
use Rattle.mon_parser.specs.Tokens.{mark, key, symbol, name, single_of, first_line}
use Rattle.mon_parser.specs.Depth.{simple_depth, stmt_depth, handler_depth, most}
use Rattle.mon_parser.specs.Reader.{Reader, then_read, choose, pick, next_at, mark_at}
use Rattle.mon_parser.specs.Statements.{starts_name, read_line, read_statements, read_block, read_else, read_if, read_while, read_for, read_handlers, is_none, read_try, read_statement, block_at}
use Rattle.mon_parser.specs.Grammar.{IsExpr, IsSimple, IsBlock, block_simple, block_stmts, IsStmts, stmts_one, stmts_more, IsStmt, stmt_simple, stmt_if, stmt_while, stmt_for, stmt_try, stmt_try_both, stmt_try_finally, IsElse, else_none, else_block, else_elif, finally_block, IsHandlers, handlers_one, handlers_more, handlers_bare, IsExcept, except_plain, except_as, bare_block}
use Rattle.mon_parser.proofs.Left.{Reads}
use Rattle.mon_parser.proofs.Prefix.{Begins}
use Rattle.mon_parser.proofs.Prefixes.{begins_more}
use Rattle.mon_parser.proofs.Items.{Ends}
use Rattle.mon_parser.proofs.Begins.{NoStart, expr_begins, begins_none}
use Rattle.mon_parser.proofs.Tuples.{tuple_reads}
use Rattle.mon_parser.proofs.Names.{targets_read}
use Rattle.mon_parser.proofs.Steps.{within_fits}
use Rattle.mon_parser.proofs.Knot.{ReadsExpr}
use Rattle.mon_parser.proofs.StatementDepths.{depth_line, depth_branch, depth_while, depth_for, depth_try, depth_bare, depth_handler}
use Rattle.mon_parser.proofs.Firsts.{outer, simple_begins, begins_by, none_by, no_newline, no_if, no_while, no_for, no_try, some_token}
use Rattle.mon_parser.proofs.Simples.{line_reads, simple_some}

-- what begins no statement
abbrev inner : Kind → Option ⊤
inner kind.Newline = Some tt
inner kind.Indent = Some tt
inner kind.Dedent = Some tt
inner (kind.Keyword word.Elif) = Some tt
inner (kind.Keyword word.Else) = Some tt
inner (kind.Keyword word.Except) = Some tt
inner (kind.Keyword word.Finally) = Some tt
inner _ = None

outer_inner : (k : Kind) → outer k ≡ None → inner k ≡ None
outer_inner kind.Newline e = cc
outer_inner kind.Indent e = cc
outer_inner kind.Dedent e = cc
outer_inner (kind.Keyword word.Elif) e = cc
outer_inner (kind.Keyword word.Else) e = cc
outer_inner (kind.Keyword word.Except) e = cc
outer_inner (kind.Keyword word.Finally) e = cc
outer_inner _ e = refl

stmt_begins : {ts : List Token} {s : Statement} → IsStmt ts s → Begins inner ts
stmt_begins (stmt_simple {ts = ts} l d) = begins_more inner ts _ (begins_by outer inner outer_inner ts (simple_begins d))
stmt_begins (stmt_if l m d x y) = refl
stmt_begins (stmt_while l m d x) = refl
stmt_begins (stmt_for l m n d x y) = refl
stmt_begins (stmt_try l m d x) = refl
stmt_begins (stmt_try_both l m d x y) = refl
stmt_begins (stmt_try_finally l m d x) = refl

stmts_begin : {ts : List Token} {ss : List Statement} → IsStmts ts ss → Begins inner ts
stmts_begin (stmts_one d) = stmt_begins d
stmts_begin (stmts_more {ts = ts} d x) = begins_more inner ts _ (stmt_begins d)

-- no clause of a statement comes next
abbrev clause : Kind → Option ⊤
clause (kind.Keyword word.Elif) = Some tt
clause (kind.Keyword word.Else) = Some tt
clause (kind.Keyword word.Except) = Some tt
clause (kind.Keyword word.Finally) = Some tt
clause _ = None

abbrev pub NoClause : List Token → Type 0
NoClause [] = Unit {0}
NoClause (t ∷ ts) = clause t.kind ≡ None

inner_clause : (k : Kind) → inner k ≡ None → clause k ≡ None
inner_clause (kind.Keyword word.Elif) e = cc
inner_clause (kind.Keyword word.Else) e = cc
inner_clause (kind.Keyword word.Except) e = cc
inner_clause (kind.Keyword word.Finally) e = cc
inner_clause _ e = refl

begun_no_clause : (ts rest : List Token) → Begins inner ts → NoClause (ts ++ rest)
begun_no_clause [] rest h = absurd h
begun_no_clause (t ∷ ts) rest h = inner_clause t.kind h

no_dedent : (k : Kind) → inner k ≡ None → mark_at sign.Dedent k ≡ None
no_dedent kind.Dedent e = cc
no_dedent _ e = refl

elif_kind : (k : Kind) → clause k ≡ None → mark_at sign.Elif k ≡ None
elif_kind (kind.Keyword word.Elif) e = cc
elif_kind _ e = refl

else_kind : (k : Kind) → clause k ≡ None → mark_at sign.Else k ≡ None
else_kind (kind.Keyword word.Else) e = cc
else_kind _ e = refl

except_kind : (k : Kind) → clause k ≡ None → mark_at sign.Except k ≡ None
except_kind (kind.Keyword word.Except) e = cc
except_kind _ e = refl

finally_kind : (k : Kind) → clause k ≡ None → mark_at sign.Finally k ≡ None
finally_kind (kind.Keyword word.Finally) e = cc
finally_kind _ e = refl

none_next : (m : Kind → Option ⊤) → ((k : Kind) → clause k ≡ None → m k ≡ None) → (rest : List Token) → NoClause rest → next_at m rest ≡ None
unfolding next_at
none_next m h [] n = refl
none_next m h (t ∷ ts) n = rw (h t.kind n) refl

-- the readers of what stands in statements, each within its limits
abbrev ReadsLine : ℕ → ℕ → Reader Statement → Type 0
ReadsLine b n line = (ts : List Token) (s : Simple) → IsSimple ts s → length ts ≤ b → simple_depth s ≤ n → (m : ℕ) (rest : List Token) → line (ts ++ mark kind.Newline m ∷ rest) ≡ Some (stmt.Simple (first_line ts) s, rest)

abbrev pub ReadsStmt : ℕ → ℕ → Reader Statement → Type 0
ReadsStmt b n statement = (ts : List Token) (s : Statement) → IsStmt ts s → length ts ≤ b → stmt_depth s ≤ n → (rest : List Token) → NoClause rest → statement (ts ++ rest) ≡ Some (s, rest)

abbrev pub ReadsBlock : ℕ → ℕ → Reader (List Statement) → Type 0
ReadsBlock b n block = (ts : List Token) (ss : List Statement) → IsBlock ts ss → length ts ≤ b → most (map stmt_depth ss) ≤ n → (rest : List Token) → block (ts ++ rest) ≡ Some (ss, rest)

abbrev ReadsIf : ℕ → ℕ → (ℕ → Reader Statement) → Type 0
ReadsIf b n branch = (l m : ℕ) (ts us vs : List Token) (test : Expression) (body orelse : List Statement) → IsExpr ts test → IsBlock us body → IsElse vs orelse → length ts ≤ b → length us ≤ b → length vs ≤ b → stmt_depth (compound.If l test body orelse) ≤ n → (rest : List Token) → NoClause rest
    → branch l (ts ++ symbol operator.Colon m ∷ (us ++ (vs ++ rest))) ≡ Some (compound.If l test body orelse, rest)

stmts_read : (b n : ℕ) (statement : Reader Statement) → ReadsStmt b n statement → {ts : List Token} {ss : List Statement} → IsStmts ts ss → length ts ≤ b → most (map stmt_depth ss) ≤ n → (m : ℕ) (rest : List Token) (turns : ℕ) → length ts ≤ turns → read_statements statement turns (ts ++ mark kind.Dedent m ∷ rest) ≡ Some (ss, rest)
unfolding read_statements then_read choose next_at
stmts_read b n statement r {ts} d w h m rest zero c = absurd (omega (arith, some_token inner ts (stmts_begin d)))
stmts_read b n statement r (stmts_one {ts = ts} {s = s} d) w h m rest (suc turns) c = rw (r ts s d w (omega arith) (mark kind.Dedent m ∷ rest) refl) refl
stmts_read b n statement r (stmts_more {ts = ts} {us = us} {s = s} {ss = ss} d x) w h m rest (suc turns) c =
    let wide = length-append ts us in
    let some = some_token inner ts (stmt_begins d) in
    let left : List Token = us ++ mark kind.Dedent m ∷ rest in
    ap (λ z. read_statements statement (suc turns) z) (append_assoc ts us (mark kind.Dedent m ∷ rest))
    ∙ rw (r ts s d (omega arith) (omega arith) left (begun_no_clause us (mark kind.Dedent m ∷ rest) (stmts_begin x)), none_by inner (mark_at sign.Dedent) no_dedent us (mark kind.Dedent m ∷ rest) (stmts_begin x), stmts_read b n statement r x (omega arith) (omega arith) m rest turns (omega arith)) refl

pub block_reads : (b n : ℕ) (line statement : Reader Statement) → ReadsLine b n line → ReadsStmt b n statement → ReadsBlock b n (read_block line statement)
unfolding then_read choose next_at
block_reads b n line statement rl rs ts0 ss0 (block_simple {ts = ts} {s = s} l d) w h rest =
    let wide = length-append ts (mark kind.Newline l ∷ []) in
    let deep = depth_line (first_line ts) s in
    ap (λ z. read_block line statement z) (append_assoc ts (mark kind.Newline l ∷ []) rest)
    ∙ rw (none_by outer (mark_at sign.Newline) no_newline ts (mark kind.Newline l ∷ rest) (simple_begins d), rl ts s d (omega arith) (omega arith) l rest) refl
block_reads b n line statement rl rs ts0 ss (block_stmts {ts = ts} l m k d) w h rest =
    let wide = length-append ts (mark kind.Dedent k ∷ []) in
    ap (λ z. read_statements statement (length z) z) (append_assoc ts (mark kind.Dedent k ∷ []) rest)
    ∙ stmts_read b n statement rs d (omega arith) h k rest (length (ts ++ mark kind.Dedent k ∷ rest)) (omega (arith, length-append ts (mark kind.Dedent k ∷ rest)))

else_reads : (b n : ℕ) (block : Reader (List Statement)) (branch : ℕ → Reader Statement) → ReadsBlock b n block → ReadsIf b n branch → {ts : List Token} {ss : List Statement} → IsElse ts ss → length ts ≤ b → most (map stmt_depth ss) ≤ n → (rest : List Token) → NoClause rest → read_else block branch (ts ++ rest) ≡ Some (ss, rest)
unfolding then_read choose next_at
else_reads b n block branch rb ri else_none w h rest c = rw (none_next (mark_at sign.Elif) elif_kind rest c, none_next (mark_at sign.Else) else_kind rest c) refl
else_reads b n block branch rb ri (else_block {ts = ts} {ss = ss} l m d) w h rest c = rb ts ss d (omega arith) h rest
else_reads b n block branch rb ri (else_elif {ts = ts} {us = us} {vs = vs} {test = test} {body = body} {orelse = orelse} l m d x y) w h rest c =
    let wide = length-append ts (symbol operator.Colon m ∷ (us ++ vs)) in
    let wider = length-append us vs in
    ap (λ z. then_read (branch l z) (λ s left. Some (s ∷ [], left))) (append_assoc ts (symbol operator.Colon m ∷ (us ++ vs)) rest ∙ ap (λ z. ts ++ symbol operator.Colon m ∷ z) (append_assoc us vs rest))
    ∙ rw (ri l m ts us vs test body orelse d x y (omega arith) (omega arith) (omega arith) (omega arith) rest c) refl

if_reads : (b n : ℕ) (expr : Reader Expression) (block : Reader (List Statement)) (branch : ℕ → Reader Statement) → n < 256 → Reads IsExpr 2 b n expr → ReadsBlock b n block → ReadsIf b n branch → ReadsIf b (suc n) (λ l. read_if expr block branch l)
unfolding then_read next_at
if_reads b n expr block branch i r rb ri l m ts us vs test body orelse d x y w v u h rest c =
    let deep = depth_branch l test body orelse in
    rw (r ts test d w (omega arith) (symbol operator.Colon m ∷ (us ++ (vs ++ rest))) (omega arith), rb us body x v (omega arith) (vs ++ rest), else_reads b n block branch rb ri y u (omega arith) rest c) (within_fits stmt_depth (compound.If l test body orelse) rest (omega arith))

-- the clauses of a `try`
colon_single : (k : Kind) (s : Single) → single_of k ≡ Some s → mark_at sign.Colon k ≡ None
colon_single (kind.Operator operator.Colon) s e = cc
colon_single _ s e = refl

colon_free : NoStart (mark_at sign.Colon)
colon_free = record { atom = record { name = λ n. refl; int = λ n. refl; text = λ s. refl; single = colon_single; bracket = refl }; minus = refl; negation = refl }

except_reads : (b n : ℕ) (expr : Reader Expression) (block : Reader (List Statement)) → Reads IsExpr 2 b n expr → ReadsBlock b n block → {ts : List Token} {h : Handler} → IsExcept ts h → length ts ≤ b → handler_depth h ≤ n → (turns : ℕ) (rest : List Token)
    → read_handlers expr block (suc turns) (ts ++ rest) ≡ then_read (read_handlers expr block turns rest) (λ hs z. Some (h ∷ hs, z))
unfolding read_handlers then_read choose next_at
except_reads b n expr block r rb (except_plain {ts = ts} {us = us} {class = class} {body = body} l m d x) w h turns rest =
    let wide = length-append ts (symbol operator.Colon m ∷ us) in
    let deep = depth_handler l class None body in
    ap (λ z. read_handlers expr block (suc turns) (key word.Except l ∷ z)) (append_assoc ts (symbol operator.Colon m ∷ us) rest)
    ∙ rw (begins_none (mark_at sign.Colon) ts (symbol operator.Colon m ∷ (us ++ rest)) (expr_begins (mark_at sign.Colon) colon_free d), r ts class d (omega arith) (omega arith) (symbol operator.Colon m ∷ (us ++ rest)) (omega arith), rb us body x (omega arith) (omega arith) rest) refl
except_reads b n expr block r rb (except_as {ts = ts} {us = us} {class = class} {n = a} {body = body} l m k j d x) w h turns rest =
    let follow : List Token = key word.As m ∷ (name a k ∷ (symbol operator.Colon j ∷ us)) in
    let left : List Token = key word.As m ∷ (name a k ∷ (symbol operator.Colon j ∷ (us ++ rest))) in
    let wide = length-append ts follow in
    let deep = depth_handler l class (Some a) body in
    ap (λ z. read_handlers expr block (suc turns) (key word.Except l ∷ z)) (append_assoc ts follow rest)
    ∙ rw (begins_none (mark_at sign.Colon) ts left (expr_begins (mark_at sign.Colon) colon_free d), r ts class d (omega arith) (omega arith) left (omega arith), rb us body x (omega arith) (omega arith) rest) refl

handlers_end : (expr : Reader Expression) (block : Reader (List Statement)) (turns : ℕ) (rest : List Token) → next_at (mark_at sign.Except) rest ≡ None → read_handlers expr block turns rest ≡ Some ([], rest)
unfolding read_handlers choose
handlers_end expr block zero rest e = refl
handlers_end expr block (suc turns) rest e = rw e refl

except_some : {ts : List Token} {h : Handler} → IsExcept ts h → 0 < length ts
except_some (except_plain l m d x) = omega arith
except_some (except_as l m k j d x) = omega arith

handlers_read : (b n : ℕ) (expr : Reader Expression) (block : Reader (List Statement)) → Reads IsExpr 2 b n expr → ReadsBlock b n block → {ts : List Token} {hs : List Handler} → IsHandlers ts hs → length ts ≤ b → most (map handler_depth hs) ≤ n → (rest : List Token) → next_at (mark_at sign.Except) rest ≡ None → (turns : ℕ) → length ts ≤ turns
    → read_handlers expr block turns (ts ++ rest) ≡ Some (hs, rest)
unfolding read_handlers then_read choose next_at
handlers_read b n expr block r rb (handlers_one {ts = ts} d) w h rest e zero c = absurd (omega (arith, except_some d))
handlers_read b n expr block r rb (handlers_one {ts = ts} {h = a} d) w h rest e (suc turns) c =
    except_reads b n expr block r rb d w (omega arith) turns rest ∙ rw (handlers_end expr block turns rest e) refl
handlers_read b n expr block r rb (handlers_more {ts = ts} {us = us} d x) w h rest e zero c = absurd (omega (arith, except_some d, length-append ts us))
handlers_read b n expr block r rb (handlers_more {ts = ts} {us = us} {h = a} {hs = hs} d x) w h rest e (suc turns) c =
    let wide = length-append ts us in
    let some = except_some d in
    ap (λ z. read_handlers expr block (suc turns) z) (append_assoc ts us rest)
    ∙ except_reads b n expr block r rb d (omega arith) (omega arith) turns (us ++ rest)
    ∙ rw (handlers_read b n expr block r rb x (omega arith) (omega arith) rest e turns (omega arith)) refl
handlers_read b n expr block r rb (handlers_bare (bare_block l m d)) w h rest e zero c = absurd (omega arith)
handlers_read b n expr block r rb (handlers_bare (bare_block {ts = ts} {body = body} l m d)) w h rest e (suc turns) c =
    let deep = depth_bare l body in
    rw (rb ts body d (omega arith) (omega arith) rest) refl

pub handlers_some : {ts : List Token} {hs : List Handler} → IsHandlers ts hs → is_none hs ≡ false
handlers_some (handlers_one d) = refl
handlers_some (handlers_more d x) = refl
handlers_some (handlers_bare d) = refl

in_ends : (l : ℕ) (rest : List Token) → Ends starts_name (key word.In l ∷ rest)
unfolding starts_name
in_ends l rest = record { comma = refl; none_begins = refl }

try_finally : (b n : ℕ) (expr : Reader Expression) (block : Reader (List Statement)) → n < 256 → ReadsBlock b n block → (l m k j : ℕ) (ts us : List Token) (body last : List Statement) (hs : List Handler) (rest left : List Token)
    → read_handlers expr block (length left) left ≡ Some (hs, key word.Finally k ∷ (symbol operator.Colon j ∷ (us ++ rest))) → IsBlock ts body → IsBlock us last → length ts ≤ b → length us ≤ b → stmt_depth (compound.Try l body hs last) ≤ suc n
    → read_try expr block l (symbol operator.Colon m ∷ (ts ++ left)) ≡ Some (compound.Try l body hs last, rest)
unfolding then_read choose next_at
try_finally b n expr block i rb l m k j ts us body last hs rest left e d x w v h =
    let deep = depth_try l body hs last in
    rw (rb ts body d w (omega arith) left, e, rb us last x v (omega arith) rest) (within_fits stmt_depth (compound.Try l body hs last) rest (omega arith))

stmt_reads : (b n : ℕ) (expr : ℕ → Reader Expression) → ReadsExpr b expr → n < 256 → ReadsStmt b n (read_statement expr n None) → ReadsIf b n (λ l. read_statement expr n (Some l)) → ReadsBlock b n (block_at expr n) → ReadsStmt b (suc n) (read_statement expr (suc n) None)
unfolding read_statement then_read choose pick next_at
stmt_reads b n expr r i rs ri rb ts0 s0 (stmt_simple {ts = ts} {s = s} l d) w h rest c =
    let wide = length-append ts (mark kind.Newline l ∷ []) in
    let deep = depth_line (first_line ts) s in
    let left : List Token = mark kind.Newline l ∷ rest in
    let begins = simple_begins d in
    ap (λ z. read_statement expr (suc n) None z) (append_assoc ts (mark kind.Newline l ∷ []) rest)
    ∙ rw (none_by outer (mark_at sign.If) no_if ts left begins, none_by outer (mark_at sign.While) no_while ts left begins, none_by outer (mark_at sign.For) no_for ts left begins, none_by outer (mark_at sign.Try) no_try ts left begins)
    (line_reads b expr r (suc n) (omega arith) ts s d (omega arith) (omega arith) l rest)
stmt_reads b n expr r i rs ri rb ts0 s0 (stmt_if {ts = ts} {us = us} {vs = vs} {test = test} {body = body} {orelse = orelse} l m d x y) w h rest c =
    let wide = length-append ts (symbol operator.Colon m ∷ (us ++ vs)) in
    let wider = length-append us vs in
    let branch : ℕ → Reader Statement = λ l. read_statement expr n (Some l) in
    ap (λ z. read_if (expr n) (block_at expr n) branch l z) (append_assoc ts (symbol operator.Colon m ∷ (us ++ vs)) rest ∙ ap (λ z. ts ++ symbol operator.Colon m ∷ z) (append_assoc us vs rest))
    ∙ if_reads b n (expr n) (block_at expr n) branch i (r n (omega arith)) rb ri l m ts us vs test body orelse d x y (omega arith) (omega arith) (omega arith) h rest c
stmt_reads b n expr r i rs ri rb ts0 s0 (stmt_while {ts = ts} {us = us} {test = test} {body = body} l m d x) w h rest c =
    let wide = length-append ts (symbol operator.Colon m ∷ us) in
    let deep = depth_while l test body in
    ap (λ z. read_while (expr n) (block_at expr n) l z) (append_assoc ts (symbol operator.Colon m ∷ us) rest)
    ∙ rw (r n (omega arith) ts test d (omega arith) (omega arith) (symbol operator.Colon m ∷ (us ++ rest)) (omega arith), rb us body x (omega arith) (omega arith) rest) (within_fits stmt_depth (compound.While l test body) rest (omega arith))
stmt_reads b n expr r i rs ri rb ts0 s0 (stmt_for {ts = ts} {us = us} {vs = vs} {to = to} {over = over} {body = body} l m k d x y) w h rest c =
    let wide = length-append ts (key word.In m ∷ (us ++ symbol operator.Colon k ∷ vs)) in
    let wider = length-append us (symbol operator.Colon k ∷ vs) in
    let deep = depth_for l to over body in
    let left : List Token = us ++ symbol operator.Colon k ∷ (vs ++ rest) in
    ap (λ z. read_for (expr n) (block_at expr n) l z) (append_assoc ts (key word.In m ∷ (us ++ symbol operator.Colon k ∷ vs)) rest ∙ ap (λ z. ts ++ key word.In m ∷ z) (append_assoc us (symbol operator.Colon k ∷ vs) rest))
    ∙ rw (targets_read d (key word.In m ∷ left) (in_ends m left), tuple_reads b n (expr n) (omega arith) (r n (omega arith)) us over x (omega arith) (omega arith) (symbol operator.Colon k ∷ (vs ++ rest)) (omega arith), rb vs body y (omega arith) (omega arith) rest) (within_fits stmt_depth (compound.For l to over body) rest (omega arith))
stmt_reads b n expr r i rs ri rb ts0 s0 (stmt_try {ts = ts} {us = us} {body = body} {handlers = hs} l m d x) w h rest c =
    let wide = length-append ts us in
    let deep = depth_try l body hs [] in
    ap (λ z. read_try (expr n) (block_at expr n) l (symbol operator.Colon m ∷ z)) (append_assoc ts us rest)
    ∙ rw (rb ts body d (omega arith) (omega arith) (us ++ rest), handlers_read b n (expr n) (block_at expr n) (r n (omega arith)) rb x (omega arith) (omega arith) rest (none_next (mark_at sign.Except) except_kind rest c) (length (us ++ rest)) (omega (arith, length-append us rest)), none_next (mark_at sign.Finally) finally_kind rest c, handlers_some x)
    (within_fits stmt_depth (compound.Try l body hs []) rest (omega arith))
stmt_reads b n expr r i rs ri rb ts0 s0 (stmt_try_both {ts = ts} {us = us} {body = body} {last = last} {handlers = hs} l m d x (finally_block {ts = vs} k j y)) w h rest c =
    let follow : List Token = key word.Finally k ∷ (symbol operator.Colon j ∷ vs) in
    let left : List Token = key word.Finally k ∷ (symbol operator.Colon j ∷ (vs ++ rest)) in
    let wide = length-append ts (us ++ follow) in
    let wider = length-append us follow in
    let deep = depth_try l body hs last in
    ap (λ z. read_try (expr n) (block_at expr n) l (symbol operator.Colon m ∷ z)) (append_assoc ts (us ++ follow) rest ∙ ap (λ z. ts ++ z) (append_assoc us follow rest))
    ∙ try_finally b n (expr n) (block_at expr n) i rb l m k j ts vs body last hs rest (us ++ left)
    (handlers_read b n (expr n) (block_at expr n) (r n (omega arith)) rb x (omega arith) (omega arith) left refl (length (us ++ left)) (omega (arith, length-append us left))) d y (omega arith) (omega arith) h
stmt_reads b n expr r i rs ri rb ts0 s0 (stmt_try_finally {ts = ts} {body = body} {last = last} l m d (finally_block {ts = vs} k j y)) w h rest c =
    let follow : List Token = key word.Finally k ∷ (symbol operator.Colon j ∷ vs) in
    let left : List Token = key word.Finally k ∷ (symbol operator.Colon j ∷ (vs ++ rest)) in
    let wide = length-append ts follow in
    ap (λ z. read_try (expr n) (block_at expr n) l (symbol operator.Colon m ∷ z)) (append_assoc ts follow rest)
    ∙ try_finally b n (expr n) (block_at expr n) i rb l m k j ts vs body last [] rest left (handlers_end (expr n) (block_at expr n) (length left) left refl) d y (omega arith) (omega arith) h

stmt_some : (s : Statement) → {ts : List Token} → IsStmt ts s → 0 < stmt_depth s
stmt_some s (stmt_simple {ts = ts} {s = a} l d) = omega (arith, depth_line (first_line ts) a, simple_some a)
stmt_some s (stmt_if {test = test} {body = body} {orelse = orelse} l m d x y) = omega (arith, depth_branch l test body orelse)
stmt_some s (stmt_while {test = test} {body = body} l m d x) = omega (arith, depth_while l test body)
stmt_some s (stmt_for {to = to} {over = over} {body = body} l m n d x y) = omega (arith, depth_for l to over body)
stmt_some s (stmt_try {body = body} {handlers = hs} l m d x) = omega (arith, depth_try l body hs [])
stmt_some s (stmt_try_both {body = body} {last = last} {handlers = hs} l m d x y) = omega (arith, depth_try l body hs last)
stmt_some s (stmt_try_finally {body = body} {last = last} l m d x) = omega (arith, depth_try l body [] last)

-- statements, and what stands behind an `elif`, to any number of nodes
both_read : (b : ℕ) (expr : ℕ → Reader Expression) → ReadsExpr b expr → (n : ℕ) → n ≤ 256 → ReadsStmt b n (read_statement expr n None) × ReadsIf b n (λ l. read_statement expr n (Some l))
unfolding read_statement
both_read b expr r zero i = (λ ts s d w h rest c. absurd (omega (arith, stmt_some s d)), λ l m ts us vs test body orelse d x y w v u h rest c. absurd (omega (arith, depth_branch l test body orelse)))
both_read b expr r (suc n) i =
    let both = both_read b expr r n (omega arith) in
    let block : ReadsBlock b n (block_at expr n) = block_reads b n (read_line expr n) (read_statement expr n None) (line_reads b expr r n (omega arith)) both.0 in
    (stmt_reads b n expr r (omega arith) both.0 both.1 block, if_reads b n (expr n) (block_at expr n) (λ l. read_statement expr n (Some l)) (omega arith) (r n (omega arith)) block both.1)

pub blocks_read : (b : ℕ) (expr : ℕ → Reader Expression) → ReadsExpr b expr → (n : ℕ) → n ≤ 256 → ReadsBlock b n (block_at expr n)
blocks_read b expr r n i = block_reads b n (read_line expr n) (read_statement expr n None) (line_reads b expr r n i) (both_read b expr r n i).0
