-- With what a simple statement begins, and that targets are tuples of names.
use Rattle.std.proofs.Common.{◌≡◌, ℕ, ◌<◌, ◌≤◌, List, [], ◌∷◌, ◌++◌, length, map, refl, sym, ap, ◌∙◌, arith}
use Rattle.std.specs.Prelude.{Option, Some, None, ⊤}
use Rattle.mon_lexer.specs.declared.token.Token.{Token}
use Rattle.mon_lexer.specs.declared.token.Kind.{Kind}
use Rattle.mon_lexer.specs.declared.token.Kind.TheVariants as kind
use Rattle.mon_lexer.specs.declared.token.Keyword.TheVariants as word
use Rattle.mon_parser.specs.declared.cursor.Sign.TheVariants as sign
use Rattle.mon_trees.specs.declared.tree.Single.{Single}
use Rattle.mon_trees.specs.declared.tree.Expression.{Expression}
use Rattle.mon_trees.specs.declared.tree.Expression as tree
use Rattle.mon_trees.specs.declared.tree.Expression.TheViews as node
use Rattle.mon_trees.specs.declared.tree.Expression.TheOpen.{Expression-F}
use Rattle.mon_trees.specs.declared.tree.Expression.TheFolds.{fold-roll-Expression}
use Rattle.mon_trees.specs.declared.tree.Targets.{Targets}
use Rattle.mon_trees.specs.declared.tree.Simple.{Simple}
use Rattle.mon_parser.specs.Tokens.{name, single_of, first_line}
use Rattle.mon_parser.specs.Depth.{expr_depth, expr_depth_step, targets_depth, most}
use Rattle.mon_parser.specs.Reader.{mark_at, next_at}
use Rattle.mon_parser.specs.Grammar.{IsRhs, IsNames, names_one, names_more, IsTargets, targets_one, targets_tuple, targets_comma, IsTuple, tuple_one, tuple_tuple, tuple_comma, IsExprs, exprs_one, exprs_more, IsExpr, expr_or, or_one, and_one, not_compare, compare_sum, sum_one, term_one, unary_postfix, postfix_atom, atom_name, IsSimple, simple_pass, simple_break, simple_continue, simple_return, simple_return_value, simple_raise, simple_raise_value, simple_augmented, simple_assign, simple_rhs}
use Rattle.mon_parser.proofs.Prefix.{Begins}
use Rattle.mon_parser.proofs.Prefixes.{begins_more}
use Rattle.mon_parser.proofs.Begins.{NoStart, rhs_begins, begins_none}
use Rattle.mon_parser.proofs.Depths.{depth_tuple}

-- what begins no simple statement: the ends of lines and blocks, and the keywords of clauses
abbrev pub outer : Kind → Option ⊤
outer kind.Newline = Some tt
outer kind.Indent = Some tt
outer kind.Dedent = Some tt
outer (kind.Keyword word.If) = Some tt
outer (kind.Keyword word.Elif) = Some tt
outer (kind.Keyword word.Else) = Some tt
outer (kind.Keyword word.While) = Some tt
outer (kind.Keyword word.For) = Some tt
outer (kind.Keyword word.Try) = Some tt
outer (kind.Keyword word.Except) = Some tt
outer (kind.Keyword word.Finally) = Some tt
outer _ = None

outer_single : (k : Kind) (s : Single) → single_of k ≡ Some s → outer k ≡ None
outer_single (kind.Keyword word.None) s e = refl
outer_single (kind.Keyword word.True) s e = refl
outer_single (kind.Keyword word.False) s e = refl
outer_single _ s e = cc

outer_free : NoStart outer
outer_free = record { atom = record { name = λ n. refl; int = λ n. refl; text = λ s. refl; single = outer_single; bracket = refl }; minus = refl; negation = refl }

-- the keywords of simple statements
abbrev pub words : Kind → Option ⊤
words (kind.Keyword word.Pass) = Some tt
words (kind.Keyword word.Break) = Some tt
words (kind.Keyword word.Continue) = Some tt
words (kind.Keyword word.Return) = Some tt
words (kind.Keyword word.Raise) = Some tt
words _ = None

words_single : (k : Kind) (s : Single) → single_of k ≡ Some s → words k ≡ None
words_single (kind.Keyword word.None) s e = refl
words_single (kind.Keyword word.True) s e = refl
words_single (kind.Keyword word.False) s e = refl
words_single _ s e = cc

words_free : NoStart words
words_free = record { atom = record { name = λ n. refl; int = λ n. refl; text = λ s. refl; single = words_single; bracket = refl }; minus = refl; negation = refl }

names_begin : (at : Kind → Option ⊤) → ((n : List ℕ) → at (kind.Name n) ≡ None) → {ts : List Token} {ns : List (List ℕ)} → IsNames ts ns → Begins at ts
names_begin at h (names_one {n = n} l) = h n
names_begin at h (names_more {n = n} l m d) = h n

pub targets_begin : (at : Kind → Option ⊤) → ((n : List ℕ) → at (kind.Name n) ≡ None) → {ts : List Token} {to : Targets} → IsTargets ts to → Begins at ts
targets_begin at h (targets_one {n = n} l) = h n
targets_begin at h (targets_tuple {n = n} l m d) = h n
targets_begin at h (targets_comma {ts = ts} m d) = begins_more at ts _ (names_begin at h d)

pub rhs_words : {ts : List Token} {e : Expression} → IsRhs ts e → Begins words ts
rhs_words d = rhs_begins words words_free refl d

pub simple_begins : {ts : List Token} {s : Simple} → IsSimple ts s → Begins outer ts
simple_begins (simple_pass l) = refl
simple_begins (simple_break l) = refl
simple_begins (simple_continue l) = refl
simple_begins (simple_return l) = refl
simple_begins (simple_return_value l d) = refl
simple_begins (simple_raise l) = refl
simple_begins (simple_raise_value l d) = refl
simple_begins (simple_augmented k l m e d) = refl
simple_begins (simple_assign {ts = ts} l d x) = begins_more outer ts _ (targets_begin outer (λ n. refl) d)
simple_begins (simple_rhs d) = rhs_begins outer outer_free refl d

-- a table that says no more than another
pub begins_by : (at by : Kind → Option ⊤) → ((k : Kind) → at k ≡ None → by k ≡ None) → (ts : List Token) → Begins at ts → Begins by ts
begins_by at by h [] b = b
begins_by at by h (t ∷ ts) b = h t.kind b

pub none_by : (at by : Kind → Option ⊤) → ((k : Kind) → at k ≡ None → by k ≡ None) → (ts rest : List Token) → Begins at ts → next_at by (ts ++ rest) ≡ None
none_by at by h ts rest b = begins_none by ts rest (begins_by at by h ts b)

pub no_pass : (k : Kind) → words k ≡ None → mark_at sign.Pass k ≡ None
no_pass (kind.Keyword word.Pass) e = cc
no_pass _ e = refl

pub no_break : (k : Kind) → words k ≡ None → mark_at sign.Break k ≡ None
no_break (kind.Keyword word.Break) e = cc
no_break _ e = refl

pub no_continue : (k : Kind) → words k ≡ None → mark_at sign.Continue k ≡ None
no_continue (kind.Keyword word.Continue) e = cc
no_continue _ e = refl

pub no_return : (k : Kind) → words k ≡ None → mark_at sign.Return k ≡ None
no_return (kind.Keyword word.Return) e = cc
no_return _ e = refl

pub no_raise : (k : Kind) → words k ≡ None → mark_at sign.Raise k ≡ None
no_raise (kind.Keyword word.Raise) e = cc
no_raise _ e = refl

pub no_newline : (k : Kind) → outer k ≡ None → mark_at sign.Newline k ≡ None
no_newline kind.Newline e = cc
no_newline _ e = refl

pub no_if : (k : Kind) → outer k ≡ None → mark_at sign.If k ≡ None
no_if (kind.Keyword word.If) e = cc
no_if _ e = refl

pub no_while : (k : Kind) → outer k ≡ None → mark_at sign.While k ≡ None
no_while (kind.Keyword word.While) e = cc
no_while _ e = refl

pub no_for : (k : Kind) → outer k ≡ None → mark_at sign.For k ≡ None
no_for (kind.Keyword word.For) e = cc
no_for _ e = refl

pub no_try : (k : Kind) → outer k ≡ None → mark_at sign.Try k ≡ None
no_try (kind.Keyword word.Try) e = cc
no_try _ e = refl

-- the line of the first token
pub first_line_is : (at : Kind → Option ⊤) (ts rest : List Token) → Begins at ts → first_line (ts ++ rest) ≡ first_line ts
first_line_is at [] rest h = absurd h
first_line_is at (t ∷ ts) rest h = refl

pub some_token : (at : Kind → Option ⊤) (ts : List Token) → Begins at ts → 0 < length ts
some_token at [] h = absurd h
some_token at (t ∷ ts) h = omega arith

-- targets, read as an expression
name_expr : (n : List ℕ) (l : ℕ) → IsExpr (name n l ∷ []) (tree.Name n)
name_expr n l = expr_or (or_one (and_one (not_compare (compare_sum (sum_one (term_one (unary_postfix (postfix_atom (atom_name l)))))))))

pub name_tuple : (n : List ℕ) (l : ℕ) → IsTuple (name n l ∷ []) (tree.Name n)
name_tuple n l = tuple_one (name_expr n l)

abbrev named : List (List ℕ) → List Expression
named [] = []
named (n ∷ ns) = tree.Name n ∷ named ns

names_exprs : {ts : List Token} {ns : List (List ℕ)} → IsNames ts ns → IsExprs ts (named ns)
names_exprs (names_one {n = n} l) = exprs_one (name_expr n l)
names_exprs (names_more {n = n} l m d) = exprs_more m (name_expr n l) (names_exprs d)

pub depth_name : (n : List ℕ) → expr_depth (tree.Name n) ≡ 1
depth_name n = ap expr_depth (sym (node.rolls-Name n)) ∙ fold-roll-Expression ℕ expr_depth_step (Expression-F.Name n)

named_depth : (ns : List (List ℕ)) → most (map expr_depth (named ns)) ≤ 1
named_depth [] = omega arith
named_depth (n ∷ ns) = let h = named_depth ns in omega (arith, h, depth_name n)

pub targets_are : {ts : List Token} {to : Targets} → IsTargets ts to → (e : Expression) × IsTuple ts e × (expr_depth e ≤ targets_depth to)
targets_are (targets_one {n = n} l) = (tree.Name n, name_tuple n l, omega (arith, depth_name n))
targets_are (targets_tuple {n = n} {ns = ns} l m d) = (node.Tuple (tree.Name n ∷ named ns), tuple_tuple m (name_expr n l) (names_exprs d), omega (arith, depth_tuple (tree.Name n ∷ named ns), depth_name n, named_depth ns))
targets_are (targets_comma {ns = ns} m d) = (node.Tuple (named ns), tuple_comma m (names_exprs d), omega (arith, depth_tuple (named ns), named_depth ns))
