-- A reader of expressions, which looks at one token at a time. It says what the code does; that it reads each derivation, and nothing else, is proved.
use Rattle.std.specs.Prelude.{ℕ, ℤ, pos, zero, suc, List, [], ◌∷◌, ◌++◌, length, Option, Some, None, Bool, true, false, leb, find, ⊤}
use Rattle.std.specs.Str.{bytes_eq}
use Rattle.mon_lexer.specs.declared.token.Token.{Token}
use Rattle.mon_lexer.specs.declared.token.Kind.{Kind}
use Rattle.mon_lexer.specs.declared.token.Kind.TheVariants as kind
use Rattle.mon_lexer.specs.declared.token.Operator.TheVariants as operator
use Rattle.mon_lexer.specs.declared.token.Keyword.TheVariants as word
use Rattle.mon_trees.specs.declared.tree.BinaryOperator.{BinaryOperator}
use Rattle.mon_trees.specs.declared.tree.Expression.{Expression}
use Rattle.mon_trees.specs.declared.tree.Expression as tree
use Rattle.mon_trees.specs.declared.tree.Expression.TheViews as node
use Rattle.mon_trees.specs.declared.tree.Comparison.{Comparison}
use Rattle.mon_trees.specs.declared.tree.Comparison.TheVariants as comparison
use Rattle.mon_parser.specs.declared.levels.Level.{Level}
use Rattle.mon_parser.specs.declared.levels.Level.TheVariants as level
use Rattle.mon_parser.specs.declared.levels.Op.{Op}
use Rattle.mon_parser.specs.declared.levels.Op.TheVariants as op
use Rattle.mon_trees.specs.declared.tree.Method.{Method}
use Rattle.mon_trees.specs.declared.tree.Method.TheVariants.{Send, Throw, Close}
use Rattle.mon_parser.specs.declared.levels.Suffix.{Suffix}
use Rattle.mon_parser.specs.declared.levels.Suffix.TheVariants as suffix
use Rattle.mon_parser.specs.declared.cursor.Sign.{Sign}
use Rattle.mon_parser.specs.declared.cursor.Sign.TheVariants as sign
use Rattle.mon_parser.specs.Tokens.{sum_op, term_op, cmp_op, single_of, method_word}
use Rattle.mon_parser.specs.Depth.{expr_depth}

-- what was read and the tokens that are left, or nothing
abbrev pub Answer : Type 0 → Type 0
Answer A = Option (A × List Token)

abbrev pub Reader : Type 0 → Type 0
Reader A = List Token → Answer A

-- one part after another
unfoldable pub then_read : {A B : Type 0} → Answer A → (A → List Token → Answer B) → Answer B
then_read None go = None
then_read (Some (a, rest)) go = go a rest

-- one of two ways, by what comes next
unfoldable pub choose : {A B : Type 0} → Answer A → Answer B → (A → List Token → Answer B) → Answer B
choose None other go = other
choose (Some (a, rest)) other go = go a rest

-- one of two ways, by a test
unfoldable pub pick : {B : Type 0} → Bool → Answer B → Answer B → Answer B
pick true a b = a
pick false a b = b

abbrev pub by_option : {A B : Type 0} → Option A → B → (A → B) → B
by_option None none some = none
by_option (Some a) none some = some a

-- what a table says of the next token, and the rest
unfoldable pub next_at : {O : Type 0} → (Kind → Option O) → List Token → Answer O
next_at table [] = None
next_at table (t ∷ ts) = by_option (table t.kind) None (λ found. Some (found, ts))

abbrev pub if_fits : {A : Type 0} → Bool → A → Reader A
if_fits true a rest = Some (a, rest)
if_fits false a rest = None

-- a part, unless it is too deep
unfoldable pub within : {A : Type 0} → (A → ℕ) → A → Reader A
within depth a rest = if_fits (leb (depth a) 256) a rest

abbrev pub made : Expression → Reader Expression
made e rest = within expr_depth e rest

-- how far a token binds to what stands before it: an operator by its level, a token that begins an expression at the most
abbrev pub binds : Kind → ℕ
binds (kind.Name n) = 10
binds (kind.Number n) = 10
binds (kind.Text s) = 9
binds (kind.Operator operator.OpenRound) = 8
binds (kind.Operator operator.OpenSquare) = 8
binds (kind.Operator operator.Dot) = 8
binds (kind.Operator operator.Star) = 7
binds (kind.Operator operator.FloorDivide) = 7
binds (kind.Operator operator.Percent) = 7
binds (kind.Operator operator.Plus) = 6
binds (kind.Operator operator.Minus) = 6
binds (kind.Operator operator.Equal) = 5
binds (kind.Operator operator.NotEqual) = 5
binds (kind.Operator operator.Less) = 5
binds (kind.Operator operator.LessEqual) = 5
binds (kind.Operator operator.Greater) = 5
binds (kind.Operator operator.GreaterEqual) = 5
binds (kind.Keyword word.In) = 5
binds (kind.Keyword word.Is) = 5
binds (kind.Keyword word.Not) = 5
binds (kind.Keyword word.And) = 4
binds (kind.Keyword word.Or) = 3
binds (kind.Keyword word.If) = 2
binds (kind.Keyword word.None) = 10
binds (kind.Keyword word.True) = 10
binds (kind.Keyword word.False) = 10
binds (kind.Operator operator.Comma) = 1
binds _ = 0

-- one token of a kind that carries nothing
abbrev pub Mark : Type 0
Mark = Kind → Option ⊤

abbrev pub mark_at : Sign → Mark
mark_at sign.OpenRound (kind.Operator operator.OpenRound) = Some tt
mark_at sign.CloseRound (kind.Operator operator.CloseRound) = Some tt
mark_at sign.CloseSquare (kind.Operator operator.CloseSquare) = Some tt
mark_at sign.Comma (kind.Operator operator.Comma) = Some tt
mark_at sign.Colon (kind.Operator operator.Colon) = Some tt
mark_at sign.Assign (kind.Operator operator.Assign) = Some tt
mark_at sign.Minus (kind.Operator operator.Minus) = Some tt
mark_at sign.Newline kind.Newline = Some tt
mark_at sign.Indent kind.Indent = Some tt
mark_at sign.Dedent kind.Dedent = Some tt
mark_at sign.Not (kind.Keyword word.Not) = Some tt
mark_at sign.In (kind.Keyword word.In) = Some tt
mark_at sign.Is (kind.Keyword word.Is) = Some tt
mark_at sign.If (kind.Keyword word.If) = Some tt
mark_at sign.Else (kind.Keyword word.Else) = Some tt
mark_at sign.Pass (kind.Keyword word.Pass) = Some tt
mark_at sign.Break (kind.Keyword word.Break) = Some tt
mark_at sign.Continue (kind.Keyword word.Continue) = Some tt
mark_at sign.Return (kind.Keyword word.Return) = Some tt
mark_at sign.Raise (kind.Keyword word.Raise) = Some tt
mark_at sign.While (kind.Keyword word.While) = Some tt
mark_at sign.For (kind.Keyword word.For) = Some tt
mark_at sign.Try (kind.Keyword word.Try) = Some tt
mark_at sign.Except (kind.Keyword word.Except) = Some tt
mark_at sign.As (kind.Keyword word.As) = Some tt
mark_at sign.Finally (kind.Keyword word.Finally) = Some tt
mark_at sign.Elif (kind.Keyword word.Elif) = Some tt
mark_at sign.Def (kind.Keyword word.Def) = Some tt
mark_at _ _ = None

-- a level whose operators group to the left: what the level below reads, and then operators with more of it
unfoldable pub read_more : {O : Type 0} → (Kind → Option O) → (O → Expression → Expression → Expression) → Reader Expression → ℕ → Expression → Reader Expression
read_more ops node lower zero t ts = Some (t, ts)
read_more ops node lower (suc turns) t ts = choose (next_at ops ts) (Some (t, ts)) (λ op rest. then_read (lower rest) (λ b left. then_read (made (node op t b) left) (λ u end. read_more ops node lower turns u end)))

abbrev pub read_left : {O : Type 0} → (Kind → Option O) → (O → Expression → Expression → Expression) → Reader Expression → Reader Expression
read_left ops node lower ts = then_read (lower ts) (λ t rest. read_more ops node lower 256 t rest)

-- the operators of each level
abbrev pub binary_op : Option BinaryOperator → Option Op
binary_op None = None
binary_op (Some found) = Some (op.Binary found)

abbrev pub level_op : Level → Kind → Option Op
level_op level.Or (kind.Keyword word.Or) = Some op.Or
level_op level.And (kind.Keyword word.And) = Some op.And
level_op level.Sum k = binary_op (sum_op k)
level_op level.Term k = binary_op (term_op k)
level_op _ _ = None

abbrev pub op_node : Op → Expression → Expression → Expression
op_node op.Or a b = node.Or a b
op_node op.And a b = node.And a b
op_node (op.Binary found) a b = node.Binary found a b

-- whether an expression can begin here
abbrev pub starts_kind : Kind → Bool
starts_kind (kind.Name n) = true
starts_kind (kind.Number n) = true
starts_kind (kind.Text s) = true
starts_kind (kind.Operator operator.OpenRound) = true
starts_kind (kind.Operator operator.Minus) = true
starts_kind (kind.Keyword word.Not) = true
starts_kind (kind.Keyword word.None) = true
starts_kind (kind.Keyword word.True) = true
starts_kind (kind.Keyword word.False) = true
starts_kind _ = false

unfoldable pub starts : List Token → Bool
starts [] = false
starts (t ∷ ts) = starts_kind t.kind

-- the other tokens that carry something
abbrev pub text_at : Kind → Option (List ℕ)
text_at (kind.Text s) = Some s
text_at _ = None

abbrev pub name_at : Kind → Option (List ℕ)
name_at (kind.Name n) = Some n
name_at _ = None

abbrev pub number_at : Kind → Option ℤ
number_at (kind.Number (pos n)) = Some (pos n)
number_at _ = None

unfoldable pub method_of : List ℕ → Option Method
method_of n = find (λ m. bytes_eq (method_word m) n) (Send ∷ Throw ∷ Close ∷ [])

abbrev pub method_at : Kind → Option Method
method_at (kind.Name n) = method_of n
method_at _ = None

-- the texts that go on with this one
unfoldable pub more_texts : List ℕ → Reader (List ℕ)
more_texts s [] = Some (s, [])
more_texts s (t ∷ ts) = by_option (text_at t.kind) (Some (s, t ∷ ts)) (λ u. more_texts (s ++ u) ts)

-- the further items of a list, each after a comma, and maybe a comma at the end
unfoldable pub more_items : {A : Type 0} → (List Token → Bool) → Reader A → ℕ → Reader (List A)
more_items begins item zero ts = Some ([], ts)
more_items begins item (suc turns) ts = choose (next_at (mark_at sign.Comma) ts) (Some ([], ts)) (λ is rest.
    pick (begins rest) (then_read (item rest) (λ a left. then_read (more_items begins item turns left) (λ more end. Some (a ∷ more, end)))) (Some ([], rest)))

abbrev pub is_comma_kind : Kind → Bool
is_comma_kind (kind.Operator operator.Comma) = true
is_comma_kind _ = false

unfoldable pub is_comma : List Token → Bool
is_comma [] = false
is_comma (t ∷ ts) = is_comma_kind t.kind

abbrev pub read_tuple : Reader Expression → Reader Expression
read_tuple expr ts = then_read (expr ts) (λ e rest.
    pick (is_comma rest) (then_read (more_items starts expr (length rest) rest) (λ es end. made (node.Tuple (e ∷ es)) end)) (Some (e, rest)))

abbrev pub read_args : Reader Expression → Reader (List Expression)
read_args expr ts = pick (starts ts) (then_read (expr ts) (λ e rest. then_read (more_items starts expr (length rest) rest) (λ es left. Some (e ∷ es, left)))) (Some ([], ts))

-- the line of a `yield` that comes next, and the rest
abbrev pub is_yield : Kind → Bool
is_yield (kind.Keyword word.Yield) = true
is_yield _ = false

unfoldable pub yield_line : Reader ℕ
yield_line [] = None
yield_line (t ∷ ts) = pick (is_yield t.kind) (Some (t.line, ts)) None

abbrev pub read_rhs : Reader Expression → Reader Expression
read_rhs expr ts = choose (yield_line ts) (read_tuple expr ts) (λ line rest.
    pick (starts rest) (then_read (read_tuple expr rest) (λ e left. made (node.Yield line (Some e)) left)) (Some (node.Yield line None, rest)))

-- after an open bracket
abbrev pub group_from : Reader Expression → Reader Expression
group_from expr ts = choose (next_at (mark_at sign.CloseRound) ts)
    (then_read (read_rhs expr ts) (λ e rest. then_read (next_at (mark_at sign.CloseRound) rest) (λ is left. Some (e, left))))
    (λ is rest. Some (tree.Empty, rest))

abbrev pub read_atom : Reader Expression → Reader Expression
read_atom expr ts =
    choose (next_at single_of ts)
    (choose (next_at number_at ts)
    (choose (next_at name_at ts)
    (choose (next_at text_at ts)
    (then_read (next_at (mark_at sign.OpenRound) ts) (λ is rest. group_from expr rest))
    (λ s rest. then_read (more_texts s rest) (λ u left. Some (tree.Text u, left))))
    (λ n rest. Some (tree.Name n, rest)))
    (λ z rest. Some (tree.Integer z, rest)))
    (λ s rest. Some (tree.Single s, rest))

-- what may stand behind an atom
abbrev pub suffix_at : Kind → Option Suffix
suffix_at (kind.Operator operator.OpenRound) = Some suffix.Call
suffix_at (kind.Operator operator.OpenSquare) = Some suffix.Subscript
suffix_at (kind.Operator operator.Dot) = Some suffix.Ask
suffix_at _ = None

abbrev pub read_suffix : Reader Expression → Suffix → Expression → Reader Expression
read_suffix expr suffix.Call a ts = then_read (read_args expr ts) (λ es rest. then_read (next_at (mark_at sign.CloseRound) rest) (λ is left. made (node.Call a es) left))
read_suffix expr suffix.Subscript a ts = then_read (expr ts) (λ i rest. then_read (next_at (mark_at sign.CloseSquare) rest) (λ is left. made (node.Subscript a i) left))
read_suffix expr suffix.Ask a ts = then_read (next_at method_at ts) (λ m rest. then_read (next_at (mark_at sign.OpenRound) rest) (λ is left.
    then_read (read_args expr left) (λ es end. then_read (next_at (mark_at sign.CloseRound) end) (λ is last. made (node.Method a m es) last))))

unfoldable pub more_suffixes : Reader Expression → ℕ → Expression → Reader Expression
more_suffixes expr zero a ts = Some (a, ts)
more_suffixes expr (suc turns) a ts = choose (next_at suffix_at ts) (Some (a, ts)) (λ x rest. then_read (read_suffix expr x a rest) (λ e left. more_suffixes expr turns e left))

abbrev pub read_postfix : Reader Expression → Reader Expression
read_postfix expr ts = then_read (read_atom expr ts) (λ a rest. more_suffixes expr 256 a rest)

-- below, `expr n` reads what stands in brackets, to n nodes; each level reads to n nodes
-- a level whose operator stands in front, over the level below
unfoldable pub read_prefix : Mark → (Expression → Expression) → (ℕ → Reader Expression) → ℕ → Reader Expression
read_prefix mark node below zero ts = None
read_prefix mark node below (suc n) ts = choose (next_at mark ts) (below (suc n) ts) (λ is rest. then_read (read_prefix mark node below n rest) (λ e left. made (node e) left))

abbrev pub read_unary : (ℕ → Reader Expression) → ℕ → Reader Expression
read_unary expr n = read_prefix (mark_at sign.Minus) node.Negative (λ n. read_postfix (expr n)) n

abbrev pub read_term : (ℕ → Reader Expression) → ℕ → Reader Expression
read_term expr n = read_left (level_op level.Term) op_node (read_unary expr n)

abbrev pub read_sum : (ℕ → Reader Expression) → ℕ → Reader Expression
read_sum expr n = read_left (level_op level.Sum) op_node (read_term expr n)

abbrev pub is_from : Expression → Reader Expression
is_from a ts = choose (next_at (mark_at sign.Not) ts)
    (then_read (next_at single_of ts) (λ s rest. made (node.Is a s) rest))
    (λ is rest. then_read (next_at single_of rest) (λ s left. made (node.IsNot a s) left))

abbrev pub compared : Reader Expression → Expression → Comparison → Reader Expression
compared sum a c ts = then_read (sum ts) (λ b rest. made (node.Compare c a b) rest)

abbrev pub compare_from : Reader Expression → Expression → Reader Expression
compare_from sum a ts =
    choose (next_at (mark_at sign.Is) ts)
    (choose (next_at (mark_at sign.Not) ts)
    (choose (next_at cmp_op ts)
    (Some (a, ts))
    (λ c rest. compared sum a c rest))
    (λ is rest. then_read (next_at (mark_at sign.In) rest) (λ is left. compared sum a comparison.NotIn left)))
    (λ is rest. is_from a rest)

abbrev pub read_compare : (ℕ → Reader Expression) → ℕ → Reader Expression
read_compare expr n ts = then_read (read_sum expr n ts) (λ a rest. compare_from (read_sum expr n) a rest)

abbrev pub read_not : (ℕ → Reader Expression) → ℕ → Reader Expression
read_not expr n = read_prefix (mark_at sign.Not) node.Not (λ n. read_compare expr n) n

abbrev pub read_and : (ℕ → Reader Expression) → ℕ → Reader Expression
read_and expr n = read_left (level_op level.And) op_node (read_not expr n)

abbrev pub read_or : (ℕ → Reader Expression) → ℕ → Reader Expression
read_or expr n = read_left (level_op level.Or) op_node (read_and expr n)

-- the level below a level
abbrev pub read_lower : Level → (ℕ → Reader Expression) → ℕ → Reader Expression
read_lower level.Or expr n = read_and expr n
read_lower level.And expr n = read_not expr n
read_lower level.Sum expr n = read_term expr n
read_lower level.Term expr n = read_unary expr n

abbrev pub read_level : Level → (ℕ → Reader Expression) → ℕ → Reader Expression
read_level level expr n = read_left (level_op level) op_node (read_lower level expr n)

abbrev pub if_from : Reader Expression → Reader Expression → Expression → Reader Expression
if_from or last a ts = choose (next_at (mark_at sign.If) ts) (Some (a, ts)) (λ is rest.
    then_read (or rest) (λ c left. then_read (next_at (mark_at sign.Else) left) (λ is end. then_read (last end) (λ b z. made (node.If a c b) z))))

unfoldable pub read_expr_in : (ℕ → Reader Expression) → ℕ → Reader Expression
read_expr_in expr zero ts = None
read_expr_in expr (suc n) ts = then_read (read_or expr (suc n) ts) (λ a rest. if_from (read_or expr (suc n)) (read_expr_in expr n) a rest)

-- an expression with fewer than so many brackets open at once
unfoldable pub read_expr : ℕ → ℕ → Reader Expression
read_expr zero n ts = None
read_expr (suc brackets) n ts = read_expr_in (read_expr brackets) n ts
