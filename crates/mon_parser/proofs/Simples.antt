-- Simple statements are read up to the end of their line.
use Rattle.std.proofs.Common.{◌≡◌, ℕ, zero, suc, ◌<◌, ◌≤◌, List, [], ◌∷◌, ◌++◌, length, refl, ap, ◌∙◌, arith, append_assoc, length-append}
use Rattle.std.specs.Prelude.{Some}
use Rattle.mon_lexer.specs.declared.token.Token.{Token}
use Rattle.mon_lexer.specs.declared.token.Kind.{Kind}
use Rattle.mon_lexer.specs.declared.token.Kind.TheVariants as kind
use Rattle.mon_lexer.specs.declared.token.Operator.TheVariants as operator
use Rattle.mon_parser.specs.declared.cursor.Sign.TheVariants as sign
use Rattle.mon_trees.specs.declared.tree.BinaryOperator.{BinaryOperator}
use Rattle.mon_trees.specs.declared.tree.Expression.{Expression}
use Rattle.mon_trees.specs.declared.tree.Targets.{Targets}
use Rattle.mon_trees.specs.declared.tree.Simple.{Simple}
use Rattle.mon_trees.specs.declared.tree.Simple.TheVariants as simple
use Rattle.mon_trees.specs.declared.tree.Statement as stmt
use Rattle.mon_parser.specs.Tokens.{mark, symbol, name, augmented_op, first_line}
use Rattle.mon_parser.specs.Depth.{expr_depth, simple_depth, stmt_depth}
use Rattle.mon_parser.specs.Reader.{Answer, Reader, then_read, choose, pick, next_at, mark_at, binds, starts, within, read_rhs}
use Rattle.mon_parser.specs.Statements.{starts_name, read_assignment, read_augmented, read_right, read_simple, read_line}
use Rattle.mon_parser.specs.Grammar.{IsExpr, IsRhs, rhs_tuple, IsTargets, IsSimple, simple_pass, simple_break, simple_continue, simple_return, simple_return_value, simple_raise, simple_raise_value, simple_augmented, simple_assign, simple_rhs}
use Rattle.mon_parser.proofs.Left.{Reads}
use Rattle.mon_parser.proofs.Prefix.{Begins}
use Rattle.mon_parser.proofs.Prefixes.{depth_some}
use Rattle.mon_parser.proofs.Items.{Ends}
use Rattle.mon_parser.proofs.Begins.{expr_starts, tuple_starts}
use Rattle.mon_parser.proofs.Tuples.{tuple_reads, rhs_reads}
use Rattle.mon_parser.proofs.Names.{targets_read}
use Rattle.mon_parser.proofs.Steps.{within_fits}
use Rattle.mon_parser.proofs.StatementDepths.{depth_line}
use Rattle.mon_parser.proofs.Firsts.{words, outer, simple_begins, rhs_words, targets_begin, none_by, no_pass, no_break, no_continue, no_return, no_raise, first_line_is, depth_name, name_tuple, targets_are}

-- what begins without one of the keywords
right_here : (expr : Reader Expression) (ts rest : List Token) → Begins words ts → read_simple expr (ts ++ rest) ≡ read_right expr (ts ++ rest)
unfolding choose
right_here expr ts rest h = rw (none_by words (mark_at sign.Pass) no_pass ts rest h, none_by words (mark_at sign.Break) no_break ts rest h, none_by words (mark_at sign.Continue) no_continue ts rest h, none_by words (mark_at sign.Return) no_return ts rest h, none_by words (mark_at sign.Raise) no_raise ts rest h) refl

-- a right side is read again where a sign of assignment follows
abbrev again : Reader Expression → List Token → Expression → Reader Simple
again expr ts e rest =
    choose (next_at augmented_op rest)
    (choose (next_at (mark_at sign.Assign) rest)
    (Some (simple.Expression e, rest))
    (λ is left. read_assignment expr ts))
    (λ op left. read_augmented expr ts)

augmented_stops : (k : Kind) (op : BinaryOperator) → augmented_op k ≡ Some op → binds k < 1
augmented_stops (kind.Operator operator.PlusAssign) op e = omega arith
augmented_stops (kind.Operator operator.MinusAssign) op e = omega arith
augmented_stops (kind.Operator operator.StarAssign) op e = omega arith
augmented_stops (kind.Operator operator.FloorDivideAssign) op e = omega arith
augmented_stops (kind.Operator operator.PercentAssign) op e = omega arith
augmented_stops _ op e = cc

assign_ends : (l : ℕ) (rest : List Token) → Ends starts_name (symbol operator.Assign l ∷ rest)
unfolding starts_name
assign_ends l rest = record { comma = refl; none_begins = refl }

assignment_reads : (b n : ℕ) (expr : Reader Expression) → n ≤ 256 → Reads IsExpr 2 b n expr → (ts us : List Token) (to : Targets) (e : Expression) → IsTargets ts to → IsRhs us e → length us ≤ b → expr_depth e ≤ n → (l m : ℕ) (rest : List Token)
    → read_assignment expr (ts ++ symbol operator.Assign l ∷ (us ++ mark kind.Newline m ∷ rest)) ≡ Some (simple.Assign to e, mark kind.Newline m ∷ rest)
unfolding then_read next_at
assignment_reads b n expr i r ts us to e d x w h l m rest =
    ap (λ (g : Answer Targets). then_read g (λ to left. then_read (next_at (mark_at sign.Assign) left) (λ is end. then_read (read_rhs expr end) (λ e z. Some (simple.Assign to e, z))))) (targets_read d (symbol operator.Assign l ∷ (us ++ mark kind.Newline m ∷ rest)) (assign_ends l (us ++ mark kind.Newline m ∷ rest)))
    ∙ ap (λ (g : Answer Expression). then_read g (λ e z. Some (simple.Assign to e, z))) (rhs_reads b n expr i r us e x w h (mark kind.Newline m ∷ rest) (omega arith))

abbrev pub ReadsSimple : ℕ → ℕ → Reader Expression → Type 0
ReadsSimple b n expr = (ts : List Token) (s : Simple) → IsSimple ts s → length ts ≤ b → simple_depth s ≤ suc n → (m : ℕ) (rest : List Token) → read_simple expr (ts ++ mark kind.Newline m ∷ rest) ≡ Some (s, mark kind.Newline m ∷ rest)

pub simple_reads : (b n : ℕ) (expr : Reader Expression) → n ≤ 256 → Reads IsExpr 2 b n expr → ReadsSimple b n expr
unfolding then_read choose pick next_at starts
simple_reads b n expr i r ts s (simple_pass l) w h m rest = refl
simple_reads b n expr i r ts s (simple_break l) w h m rest = refl
simple_reads b n expr i r ts s (simple_continue l) w h m rest = refl
simple_reads b n expr i r ts s (simple_return l) w h m rest = refl
simple_reads b n expr i r ts0 s (simple_return_value {ts = ts} {e = e} l d) w h m rest =
    rw (tuple_starts ts (mark kind.Newline m ∷ rest) e d, tuple_reads b n expr i r ts e d (omega arith) (omega arith) (mark kind.Newline m ∷ rest) (omega arith)) refl
simple_reads b n expr i r ts s (simple_raise l) w h m rest = refl
simple_reads b n expr i r ts0 s (simple_raise_value {ts = ts} {e = e} l d) w h m rest =
    rw (expr_starts ts (mark kind.Newline m ∷ rest) e d, r ts e d (omega arith) (omega arith) (mark kind.Newline m ∷ rest) (omega arith)) refl
simple_reads b n expr i r ts0 s0 (simple_augmented {ts = ts} {n = a} k {op = op} {e = e} l j o d) w h m rest =
    let some = depth_some e in
    let whole : List Token = name a l ∷ (mark k j ∷ (ts ++ mark kind.Newline m ∷ rest)) in
    ap (λ (g : Answer Expression). then_read g (again expr whole)) (rhs_reads b n expr i r (name a l ∷ []) _ (rhs_tuple (name_tuple a l)) (omega arith) (omega (arith, depth_name a, some)) (mark k j ∷ (ts ++ mark kind.Newline m ∷ rest)) (augmented_stops k op o))
    ∙ rw (o, rhs_reads b n expr i r ts e d (omega arith) (omega arith) (mark kind.Newline m ∷ rest) (omega arith)) refl
simple_reads b n expr i r ts0 s0 (simple_assign {ts = ts} {us = us} {to = to} {e = e} l d x) w h m rest =
    let wide = length-append ts (symbol operator.Assign l ∷ us) in
    let left : List Token = symbol operator.Assign l ∷ (us ++ mark kind.Newline m ∷ rest) in
    let t = targets_are d in
    ap (λ z. read_simple expr z) (append_assoc ts (symbol operator.Assign l ∷ us) (mark kind.Newline m ∷ rest))
    ∙ right_here expr ts left (targets_begin words (λ n. refl) d)
    ∙ ap (λ (g : Answer Expression). then_read g (again expr (ts ++ left))) (rhs_reads b n expr i r ts t.0 (rhs_tuple t.1) (omega arith) (omega (arith, t.2)) left (omega arith))
    ∙ assignment_reads b n expr i r ts us to e d x (omega arith) (omega arith) l m rest
simple_reads b n expr i r ts s0 (simple_rhs {e = e} d) w h m rest =
    let left : List Token = mark kind.Newline m ∷ rest in
    right_here expr ts left (rhs_words d)
    ∙ ap (λ (g : Answer Expression). then_read g (again expr (ts ++ left))) (rhs_reads b n expr i r ts e d w (omega arith) left (omega arith))

pub simple_some : (s : Simple) → 0 < simple_depth s
simple_some simple.Pass = omega arith
simple_some simple.Break = omega arith
simple_some simple.Continue = omega arith
simple_some (simple.Return value) = omega arith
simple_some (simple.Raise value) = omega arith
simple_some (simple.Augmented n op e) = omega arith
simple_some (simple.Assign to e) = omega arith
simple_some (simple.Expression e) = omega arith

-- and with the end of its line it is a statement
pub line_reads : (b : ℕ) (expr : ℕ → Reader Expression) → ((n : ℕ) → n ≤ 256 → Reads IsExpr 2 b n (expr n)) → (n : ℕ) → n ≤ 256 → (ts : List Token) (s : Simple) → IsSimple ts s → length ts ≤ b → simple_depth s ≤ n → (m : ℕ) (rest : List Token)
    → read_line expr n (ts ++ mark kind.Newline m ∷ rest) ≡ Some (stmt.Simple (first_line ts) s, rest)
unfolding then_read next_at
line_reads b expr r zero i ts s d w h m rest = absurd (omega (arith, simple_some s))
line_reads b expr r (suc n) i ts s d w h m rest =
    let left : List Token = mark kind.Newline m ∷ rest in
    ap (λ (g : Answer Simple). then_read g (λ s end. then_read (next_at (mark_at sign.Newline) end) (λ is z. within stmt_depth (stmt.Simple (first_line (ts ++ left)) s) z))) (simple_reads b n (expr n) (omega arith) (r n (omega arith)) ts s d w h m rest)
    ∙ ap (λ l. within stmt_depth (stmt.Simple l s) rest) (first_line_is outer ts left (simple_begins d))
    ∙ within_fits stmt_depth (stmt.Simple (first_line ts) s) rest (omega (arith, depth_line (first_line ts) s))
