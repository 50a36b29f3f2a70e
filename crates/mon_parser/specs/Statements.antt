-- A reader of statements, constants and items, over that of expressions.
use Rattle.std.specs.Prelude.{ℕ, zero, suc, List, [], ◌∷◌, length, Option, Some, None, Bool, true, false, neg_ℤ}
use Rattle.mon_lexer.specs.declared.token.Token.{Token}
use Rattle.mon_lexer.specs.declared.token.Kind.{Kind}
use Rattle.mon_lexer.specs.declared.token.Kind.TheVariants as kind
use Rattle.mon_lexer.specs.declared.token.Operator.TheVariants as operator
use Rattle.mon_lexer.specs.declared.token.Keyword.TheVariants as word
use Rattle.mon_parser.specs.declared.cursor.Sign.TheVariants as sign
use Rattle.mon_trees.specs.declared.tree.Expression.{Expression}
use Rattle.mon_trees.specs.declared.tree.Constant.{Constant}
use Rattle.mon_trees.specs.declared.tree.Constant as const
use Rattle.mon_trees.specs.declared.tree.Constant.TheViews as consts
use Rattle.mon_trees.specs.declared.tree.Targets.{Targets}
use Rattle.mon_trees.specs.declared.tree.Targets.TheVariants as targets
use Rattle.mon_trees.specs.declared.tree.Simple.{Simple}
use Rattle.mon_trees.specs.declared.tree.Simple.TheVariants as simple
use Rattle.mon_trees.specs.declared.tree.Statement.{Statement}
use Rattle.mon_trees.specs.declared.tree.Statement as stmt
use Rattle.mon_trees.specs.declared.tree.Statement.TheViews as compound
use Rattle.mon_trees.specs.declared.tree.Handler.{Handler}
use Rattle.mon_trees.specs.declared.tree.ModuleItem.{ModuleItem}
use Rattle.mon_trees.specs.declared.tree.ModuleItem.TheVariants as item
use Rattle.mon_parser.specs.Tokens.{first_line, single_of, augmented_op}
use Rattle.mon_parser.specs.Depth.{const_depth, stmt_depth, item_depth}
use Rattle.mon_parser.specs.Grammar.{handler}
use Rattle.mon_parser.specs.Reader.{Reader, then_read, choose, pick, next_at, is_comma, within, mark_at, name_at, number_at, text_at, starts, more_items, more_texts, read_tuple, read_rhs, read_expr}

-- whether a name comes next
abbrev pub starts_name_kind : Kind → Bool
starts_name_kind (kind.Name n) = true
starts_name_kind _ = false

unfoldable pub starts_name : List Token → Bool
starts_name [] = false
starts_name (t ∷ ts) = starts_name_kind t.kind

abbrev pub more_names : Reader (List (List ℕ))
more_names ts = more_items starts_name (next_at name_at) (length ts) ts

abbrev pub read_targets : Reader Targets
read_targets ts = then_read (next_at name_at ts) (λ n rest.
    pick (is_comma rest) (then_read (more_names rest) (λ ns left. Some (targets.Tuple (n ∷ ns), left))) (Some (targets.Name n, rest)))

abbrev pub read_parameters : Reader (List (List ℕ))
read_parameters ts = pick (starts_name ts) (then_read (next_at name_at ts) (λ n rest. then_read (more_names rest) (λ ns left. Some (n ∷ ns, left)))) (Some ([], ts))

-- an optional part, which is there if an expression can begin here
abbrev pub maybe : Reader Expression → Reader (Option Expression)
maybe read ts = pick (starts ts) (then_read (read ts) (λ e rest. Some (Some e, rest))) (Some (None, ts))

-- what names are set to, and what is added to a name
abbrev pub read_assignment : Reader Expression → Reader Simple
read_assignment expr ts = then_read (read_targets ts) (λ to rest. then_read (next_at (mark_at sign.Assign) rest) (λ is left. then_read (read_rhs expr left) (λ e end. Some (simple.Assign to e, end))))

abbrev pub read_augmented : Reader Expression → Reader Simple
read_augmented expr ts = then_read (next_at name_at ts) (λ n rest. then_read (next_at augmented_op rest) (λ op left. then_read (read_rhs expr left) (λ e end. Some (simple.Augmented n op e, end))))

-- what begins as a right side: where a sign of assignment follows, it is read again as what is assigned to
abbrev pub read_right : Reader Expression → Reader Simple
read_right expr ts = then_read (read_rhs expr ts) (λ e rest.
    choose (next_at augmented_op rest)
    (choose (next_at (mark_at sign.Assign) rest)
    (Some (simple.Expression e, rest))
    (λ is left. read_assignment expr ts))
    (λ op left. read_augmented expr ts))

abbrev pub read_simple : Reader Expression → Reader Simple
read_simple expr ts =
    choose (next_at (mark_at sign.Pass) ts)
    (choose (next_at (mark_at sign.Break) ts)
    (choose (next_at (mark_at sign.Continue) ts)
    (choose (next_at (mark_at sign.Return) ts)
    (choose (next_at (mark_at sign.Raise) ts)
    (read_right expr ts)
    (λ is rest. then_read (maybe expr rest) (λ value left. Some (simple.Raise value, left))))
    (λ is rest. then_read (maybe (read_tuple expr) rest) (λ value left. Some (simple.Return value, left))))
    (λ is rest. Some (simple.Continue, rest)))
    (λ is rest. Some (simple.Break, rest)))
    (λ is rest. Some (simple.Pass, rest))

-- below, `expr n` reads an expression to n nodes
-- a simple statement and the end of its line
abbrev pub read_line : (ℕ → Reader Expression) → ℕ → Reader Statement
read_line expr zero ts = None
read_line expr (suc n) ts = then_read (read_simple (expr n) ts) (λ s rest. then_read (next_at (mark_at sign.Newline) rest) (λ is left. within stmt_depth (stmt.Simple (first_line ts) s) left))

-- statements up to a Dedent
unfoldable pub read_statements : Reader Statement → ℕ → Reader (List Statement)
read_statements statement zero ts = None
read_statements statement (suc turns) ts = then_read (statement ts) (λ s rest.
    choose (next_at (mark_at sign.Dedent) rest) (then_read (read_statements statement turns rest) (λ ss left. Some (s ∷ ss, left))) (λ is left. Some (s ∷ [], left)))

abbrev pub read_block : Reader Statement → Reader Statement → Reader (List Statement)
read_block line statement ts = choose (next_at (mark_at sign.Newline) ts)
    (then_read (line ts) (λ s rest. Some (s ∷ [], rest)))
    (λ is rest. then_read (next_at (mark_at sign.Indent) rest) (λ is left. read_statements statement (length left) left))

-- a colon and a block
abbrev pub read_body : Reader (List Statement) → Reader (List Statement)
read_body block ts = then_read (next_at (mark_at sign.Colon) ts) (λ is rest. block rest)

-- the rest of an `if`: an `elif`, an `else` or nothing
abbrev pub read_else : Reader (List Statement) → (ℕ → Reader Statement) → Reader (List Statement)
read_else block elif ts =
    choose (next_at (mark_at sign.Elif) ts)
    (choose (next_at (mark_at sign.Else) ts)
    (Some ([], ts))
    (λ is rest. read_body block rest))
    (λ is rest. then_read (elif (first_line ts) rest) (λ s left. Some (s ∷ [], left)))

-- behind an `if` or `elif` of this line
abbrev pub read_if : Reader Expression → Reader (List Statement) → (ℕ → Reader Statement) → ℕ → Reader Statement
read_if expr block elif line ts = then_read (expr ts) (λ test rest. then_read (read_body block rest) (λ body left.
    then_read (read_else block elif left) (λ orelse end. within stmt_depth (compound.If line test body orelse) end)))

abbrev pub read_while : Reader Expression → Reader (List Statement) → ℕ → Reader Statement
read_while expr block line ts = then_read (expr ts) (λ test rest. then_read (read_body block rest) (λ body left. within stmt_depth (compound.While line test body) left))

abbrev pub read_for : Reader Expression → Reader (List Statement) → ℕ → Reader Statement
read_for expr block line ts = then_read (read_targets ts) (λ to rest. then_read (next_at (mark_at sign.In) rest) (λ is left. then_read (read_tuple expr left) (λ over end.
    then_read (read_body block end) (λ body last. within stmt_depth (compound.For line to over body) last))))

-- a name after `as`, if there is one
abbrev pub read_as : Reader (Option (List ℕ))
read_as ts = choose (next_at (mark_at sign.As) ts) (Some (None, ts)) (λ is rest. then_read (next_at name_at rest) (λ n left. Some (Some n, left)))

-- handlers; behind a bare one stands no other
unfoldable pub read_handlers : Reader Expression → Reader (List Statement) → ℕ → Reader (List Handler)
read_handlers expr block zero ts = Some ([], ts)
read_handlers expr block (suc turns) ts = choose (next_at (mark_at sign.Except) ts) (Some ([], ts)) (λ is rest.
    choose (next_at (mark_at sign.Colon) rest)
    (then_read (expr rest) (λ class left. then_read (read_as left) (λ name end. then_read (read_body block end) (λ body last.
    then_read (read_handlers expr block turns last) (λ hs z. Some (handler (first_line ts) (Some class) name body ∷ hs, z))))))
    (λ is left. then_read (block left) (λ body end. Some (handler (first_line ts) None None body ∷ [], end))))

-- the block behind `finally`; with no handler there has to be one
abbrev pub is_none : List Handler → Bool
is_none [] = true
is_none (h ∷ hs) = false

abbrev pub read_last : Reader (List Statement) → Bool → Reader (List Statement)
read_last block needed ts = choose (next_at (mark_at sign.Finally) ts) (pick needed None (Some ([], ts))) (λ is rest. read_body block rest)

abbrev pub read_try : Reader Expression → Reader (List Statement) → ℕ → Reader Statement
read_try expr block line ts = then_read (read_body block ts) (λ body rest. then_read (read_handlers expr block (length rest) rest) (λ handlers left.
    then_read (read_last block (is_none handlers) left) (λ last end. within stmt_depth (compound.Try line body handlers last) end)))

-- a statement, or what stands behind an `elif` of this line
unfoldable pub read_statement : (ℕ → Reader Expression) → ℕ → Option ℕ → Reader Statement
read_statement expr zero elif ts = None
read_statement expr (suc n) (Some line) ts = read_if (expr n) (read_block (read_line expr n) (read_statement expr n None)) (λ l. read_statement expr n (Some l)) line ts
read_statement expr (suc n) None ts =
    choose (next_at (mark_at sign.If) ts)
    (choose (next_at (mark_at sign.While) ts)
    (choose (next_at (mark_at sign.For) ts)
    (choose (next_at (mark_at sign.Try) ts)
    (read_line expr (suc n) ts)
    (λ is rest. read_try (expr n) (read_block (read_line expr n) (read_statement expr n None)) (first_line ts) rest))
    (λ is rest. read_for (expr n) (read_block (read_line expr n) (read_statement expr n None)) (first_line ts) rest))
    (λ is rest. read_while (expr n) (read_block (read_line expr n) (read_statement expr n None)) (first_line ts) rest))
    (λ is rest. read_if (expr n) (read_block (read_line expr n) (read_statement expr n None)) (λ l. read_statement expr n (Some l)) (first_line ts) rest)

-- a block below a node with so many nodes left, and what stands in blocks
abbrev pub block_at : (ℕ → Reader Expression) → ℕ → Reader (List Statement)
block_at expr n = read_block (read_line expr n) (read_statement expr n None)

abbrev pub body_at : (ℕ → Reader Expression) → ℕ → Reader (List Statement)
body_at expr n = read_body (block_at expr n)

abbrev pub else_at : (ℕ → Reader Expression) → ℕ → Reader (List Statement)
else_at expr n = read_else (block_at expr n) (λ l. read_statement expr n (Some l))

-- whether a constant can begin here
abbrev pub starts_constant_kind : Kind → Bool
starts_constant_kind (kind.Number n) = true
starts_constant_kind (kind.Text s) = true
starts_constant_kind (kind.Operator operator.OpenRound) = true
starts_constant_kind (kind.Operator operator.Minus) = true
starts_constant_kind (kind.Keyword word.None) = true
starts_constant_kind (kind.Keyword word.True) = true
starts_constant_kind (kind.Keyword word.False) = true
starts_constant_kind _ = false

unfoldable pub starts_constant : List Token → Bool
starts_constant [] = false
starts_constant (t ∷ ts) = starts_constant_kind t.kind

abbrev pub read_constants : Reader Constant → Reader Constant
read_constants constant ts = then_read (constant ts) (λ c rest.
    pick (is_comma rest) (then_read (more_items starts_constant constant (length rest) rest) (λ cs left. within const_depth (consts.Tuple (c ∷ cs)) left)) (Some (c, rest)))

-- a constant with fewer than so many brackets open at once
unfoldable pub read_constant : ℕ → Reader Constant
read_constant zero ts = None
read_constant (suc brackets) ts =
    choose (next_at single_of ts)
    (choose (next_at number_at ts)
    (choose (next_at text_at ts)
    (choose (next_at (mark_at sign.Minus) ts)
    (then_read (next_at (mark_at sign.OpenRound) ts) (λ is rest. choose (next_at (mark_at sign.CloseRound) rest)
    (then_read (read_constants (read_constant brackets) rest) (λ c left. then_read (next_at (mark_at sign.CloseRound) left) (λ is end. Some (c, end))))
    (λ is left. Some (const.Empty, left))))
    (λ is rest. then_read (next_at number_at rest) (λ z left. Some (const.Integer (neg_ℤ z), left))))
    (λ s rest. then_read (more_texts s rest) (λ u left. Some (const.Text u, left))))
    (λ z rest. Some (const.Integer z, rest)))
    (λ s rest. Some (const.Single s, rest))

abbrev pub read_def : ℕ → ℕ → Reader ModuleItem
read_def brackets line ts = then_read (next_at name_at ts) (λ n rest. then_read (next_at (mark_at sign.OpenRound) rest) (λ is left. then_read (read_parameters left) (λ names end.
    then_read (next_at (mark_at sign.CloseRound) end) (λ is last. then_read (body_at (read_expr brackets) 255 last) (λ body z.
    within item_depth (item.Function (record { line = line; name = n; parameters = names; body = body })) z)))))

abbrev pub read_item : ℕ → Reader ModuleItem
read_item brackets ts =
    choose (next_at (mark_at sign.Def) ts)
    (choose (next_at name_at ts)
    (then_read (next_at text_at ts) (λ s rest. then_read (more_texts s rest) (λ u left. then_read (next_at (mark_at sign.Newline) left) (λ is end. Some (item.Text u, end)))))
    (λ n rest. then_read (next_at (mark_at sign.Assign) rest) (λ is left. then_read (read_constants (read_constant brackets) left) (λ c end.
    then_read (next_at (mark_at sign.Newline) end) (λ is last. within item_depth (item.Constant (first_line ts) n c) last)))))
    (λ is rest. read_def brackets (first_line ts) rest)
