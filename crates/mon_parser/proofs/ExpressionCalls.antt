-- The readers of expressions, one step each, in the parts that the code reads.
use Rattle.std.proofs.Common.{◌≡◌, ℕ, ◌+◌, ◌-◌, ◌<◌, ◌≤◌, List, [], ◌∷◌, ◌++◌, length, sym, ap, ◌∙◌, arith, refl}
use Rattle.std.specs.Prelude.{Option, Some, None, ⊤, ℤ, true, false}
use Rattle.mon_lexer.specs.declared.token.Token.{Token}
use Rattle.mon_parser.specs.declared.cursor.Sign.TheVariants as sign
use Rattle.mon_parser.specs.declared.levels.Level.{Level}
use Rattle.mon_parser.specs.declared.levels.Level.TheVariants as level
use Rattle.mon_parser.specs.declared.levels.Op.{Op}
use Rattle.mon_parser.specs.declared.levels.Suffix.{Suffix}
use Rattle.mon_parser.specs.declared.levels.Suffix.TheVariants as suffix
use Rattle.mon_trees.specs.declared.tree.Method.{Method}
use Rattle.mon_trees.specs.declared.tree.Single.{Single}
use Rattle.mon_trees.specs.declared.tree.Comparison.{Comparison}
use Rattle.mon_trees.specs.declared.tree.Comparison.TheVariants as comparison
use Rattle.mon_trees.specs.declared.tree.Expression.{Expression}
use Rattle.mon_trees.specs.declared.tree.Expression as tree
use Rattle.mon_trees.specs.declared.tree.Expression.TheViews as node
use Rattle.mon_parser.specs.Tokens.{single_of, cmp_op}
use Rattle.mon_parser.specs.Depth.{expr_depth}
use Rattle.mon_parser.specs.Reader.{Answer, Reader, then_read, choose, pick, next_at, mark_at, within, level_op, op_node, suffix_at, method_at, text_at, name_at, number_at, yield_line, starts, is_comma, read_expr, more_items, more_texts}
use Rattle.mon_parser.specs.Code.{with_front}
use Rattle.mon_parser.specs.Readings.{at_level, below_level, level_from, at_negation, at_unary, at_comparison, behind_comparison, at_postfix, suffixes_from, at_suffix, at_arguments, further_from, at_expressions, at_right_side, at_atom, at_group, leaf_at, identity_at, comparison_at, asked_at, call_ends, subscript_ends, ask_ends}
use Rattle.mon_parser.proofs.Steps.{within_fits, within_none, expr_step, more_step, more_last, suffixes_turn, suffixes_last, prefix_step, prefix_zero, items_last, items_none, items_ended, items_missing, items_more, from_start}
use Rattle.mon_parser.proofs.Calls.{found, missed, taken, passed, picked, Kept}

pub expression_is : (b n : ℕ) (ts : List Token) → 0 < b → 0 < n → read_expr b n ts ≡ then_read (at_level level.Or (b - 1) n ts) (λ a rest. choose (next_at (mark_at sign.If) rest) (Some (a, rest)) (λ is left.
    then_read (at_level level.Or (b - 1) n left) (λ c more. then_read (next_at (mark_at sign.Else) more) (λ is end. then_read (read_expr b (n - 1) end) (λ o z. within expr_depth (node.If a c o) z)))))
unfolding at_level
expression_is b n ts h k = expr_step b n ts h k

pub level_is : (level : Level) (b n : ℕ) (ts : List Token) → at_level level b n ts ≡ then_read (below_level level b n ts) (λ t rest. level_from level b n 0 t rest)
unfolding at_level below_level level_from
level_is level b n ts = refl

pub level_goes : (level : Level) (b n turn : ℕ) (t : Expression) (ts : List Token) → turn < 256 → level_from level b n turn t ts ≡ choose (next_at (level_op level) ts) (Some (t, ts)) (λ op rest. then_read (below_level level b n rest) (λ u left.
    then_read (within expr_depth (op_node op t u) left) (λ v end. level_from level b n (turn + 1) v end)))
unfolding below_level level_from
level_goes level b n turn t ts h = more_step (level_op level) op_node (below_level level b n) turn t ts h

pub level_ends : (level : Level) (b n turn : ℕ) (t : Expression) (ts : List Token) → 256 ≤ turn → level_from level b n turn t ts ≡ Some (t, ts)
unfolding below_level level_from
level_ends level b n turn t ts h = more_last (level_op level) op_node (below_level level b n) turn t ts h

-- the level below
pub below_or : (b n : ℕ) (ts : List Token) → below_level level.Or b n ts ≡ at_level level.And b n ts
unfolding below_level at_level
below_or b n ts = refl

pub below_sum : (b n : ℕ) (ts : List Token) → below_level level.Sum b n ts ≡ at_level level.Term b n ts
unfolding below_level at_level
below_sum b n ts = refl

pub below_and : (b n : ℕ) (ts : List Token) → below_level level.And b n ts ≡ at_negation b n ts
unfolding below_level at_negation
below_and b n ts = refl

pub below_term : (b n : ℕ) (ts : List Token) → below_level level.Term b n ts ≡ at_unary b n ts
unfolding below_level at_unary
below_term b n ts = refl

pub negation_none : (b n : ℕ) (ts : List Token) → n ≡ 0 → at_negation b n ts ≡ None
unfolding at_negation
negation_none b n ts e = prefix_zero _ _ _ n ts e

pub unary_none : (b n : ℕ) (ts : List Token) → n ≡ 0 → at_unary b n ts ≡ None
unfolding at_unary
unary_none b n ts e = prefix_zero _ _ _ n ts e

pub negation_is : (b n : ℕ) (ts : List Token) → 0 < n → at_negation b n ts ≡ choose (next_at (mark_at sign.Not) ts) (at_comparison b n ts) (λ is rest. then_read (at_negation b (n - 1) rest) (λ e left. within expr_depth (node.Not e) left))
unfolding at_negation at_comparison
negation_is b n ts h = prefix_step _ _ _ n ts h

pub unary_is : (b n : ℕ) (ts : List Token) → 0 < n → at_unary b n ts ≡ choose (next_at (mark_at sign.Minus) ts) (at_postfix b n ts) (λ is rest. then_read (at_unary b (n - 1) rest) (λ e left. within expr_depth (node.Negative e) left))
unfolding at_unary at_postfix
unary_is b n ts h = prefix_step _ _ _ n ts h

-- behind an operator of comparison, if there was one
abbrev pub maybe_compared : ℕ → ℕ → Expression → Option Comparison → Reader Expression
maybe_compared b n a None rest = Some (a, rest)
maybe_compared b n a (Some c) rest = behind_comparison b n a c rest

by_operator : (a : Expression) (rest : List Token) (is_not : Answer ⊤) (one : Answer Comparison) (b n : ℕ)
    → choose is_not (choose one (Some (a, rest)) (λ c left. behind_comparison b n a c left)) (λ is left. then_read (next_at (mark_at sign.In) left) (λ is end. behind_comparison b n a comparison.NotIn end))
    ≡ then_read (choose is_not (choose one (Some (None, rest)) (λ c left. Some (Some c, left))) (λ is left. then_read (next_at (mark_at sign.In) left) (λ is end. Some (Some comparison.NotIn, end)))) (λ o left. maybe_compared b n a o left)
unfolding choose then_read
by_operator a rest None None b n = refl
by_operator a rest None (Some (c, left)) b n = refl
by_operator a rest (Some (is, left)) one b n = by_in (next_at (mark_at sign.In) left)
  where
    by_in : (read : Answer ⊤) → then_read read (λ is end. behind_comparison b n a comparison.NotIn end) ≡ then_read {B = Expression} (then_read read (λ is end. Some (Some comparison.NotIn, end))) (λ o left. maybe_compared b n a o left)
    by_in None = refl
    by_in (Some (is, end)) = refl

pub comparison_is : (b n : ℕ) (ts : List Token) → at_comparison b n ts ≡ then_read (at_level level.Sum b n ts) (λ a rest. choose (next_at (mark_at sign.Is) rest) (then_read (comparison_at rest) (λ o left. maybe_compared b n a o left)) (λ is left. identity_at a left))
unfolding at_comparison at_level behind_comparison identity_at then_read comparison_at
comparison_is b n ts = opened ∙ by_first (at_level level.Sum b n ts)
  where
    opened : at_comparison b n ts ≡ then_read (at_level level.Sum b n ts) (λ a rest. choose (next_at (mark_at sign.Is) rest)
        (choose (next_at (mark_at sign.Not) rest) (choose (next_at cmp_op rest) (Some (a, rest)) (λ c left. behind_comparison b n a c left)) (λ is left. then_read (next_at (mark_at sign.In) left) (λ is end. behind_comparison b n a comparison.NotIn end)))
        (λ is left. identity_at a left))
    opened = refl

    by_first : (read : Answer Expression) → then_read read (λ a rest. choose (next_at (mark_at sign.Is) rest)
        (choose (next_at (mark_at sign.Not) rest) (choose (next_at cmp_op rest) (Some (a, rest)) (λ c left. behind_comparison b n a c left)) (λ is left. then_read (next_at (mark_at sign.In) left) (λ is end. behind_comparison b n a comparison.NotIn end)))
        (λ is left. identity_at a left)) ≡ then_read read (λ a rest. choose (next_at (mark_at sign.Is) rest) (then_read (comparison_at rest) (λ o left. maybe_compared b n a o left)) (λ is left. identity_at a left))
    by_first None = refl
    by_first (Some (a, rest)) = ap (λ w. choose (next_at (mark_at sign.Is) rest) w (λ is left. identity_at a left)) (by_operator a rest (next_at (mark_at sign.Not) rest) (next_at cmp_op rest) b n)

pub compared_is : (b n : ℕ) (a : Expression) (c : Comparison) (ts : List Token) → behind_comparison b n a c ts ≡ then_read (at_level level.Sum b n ts) (λ u rest. within expr_depth (node.Compare c a u) rest)
unfolding behind_comparison at_level
compared_is b n a c ts = refl

pub postfix_is : (b n : ℕ) (ts : List Token) → at_postfix b n ts ≡ then_read (at_atom b n ts) (λ a rest. suffixes_from b n 0 a rest)
unfolding at_postfix at_atom suffixes_from
postfix_is b n ts = refl

pub suffixes_go : (b n turn : ℕ) (a : Expression) (ts : List Token) → turn < 256 → suffixes_from b n turn a ts ≡ choose (next_at suffix_at ts) (Some (a, ts)) (λ x rest. then_read (at_suffix b n x a rest) (λ e left. suffixes_from b n (turn + 1) e left))
unfolding suffixes_from at_suffix
suffixes_go b n turn a ts h = suffixes_turn (read_expr b n) turn a ts h

pub suffixes_end : (b n turn : ℕ) (a : Expression) (ts : List Token) → 256 ≤ turn → suffixes_from b n turn a ts ≡ Some (a, ts)
unfolding suffixes_from
suffixes_end b n turn a ts h = suffixes_last (read_expr b n) turn a ts h

pub call_is : (b n : ℕ) (a : Expression) (ts : List Token) → at_suffix b n suffix.Call a ts ≡ then_read (at_arguments b n ts) (λ es rest. call_ends a es rest)
unfolding at_suffix at_arguments call_ends
call_is b n a ts = refl

pub subscript_is : (b n : ℕ) (a : Expression) (ts : List Token) → at_suffix b n suffix.Subscript a ts ≡ then_read (read_expr b n ts) (λ i rest. subscript_ends a i rest)
unfolding at_suffix subscript_ends
subscript_is b n a ts = refl

pub ask_is : (b n : ℕ) (a : Expression) (ts : List Token) → at_suffix b n suffix.Ask a ts ≡ then_read (asked_at ts) (λ m left. then_read (at_arguments b n left) (λ es end. ask_ends a m es end))
unfolding asked_at at_suffix at_arguments ask_ends then_read
ask_is b n a ts = opened ∙ by_method (next_at method_at ts)
  where
    opened : at_suffix b n suffix.Ask a ts ≡ then_read (next_at method_at ts) (λ m rest. then_read (next_at (mark_at sign.OpenRound) rest) (λ is left. then_read (at_arguments b n left) (λ es end. ask_ends a m es end)))
    opened = refl

    by_open : (m : Method) (read : Answer ⊤) → then_read read (λ is left. then_read (at_arguments b n left) (λ es end. ask_ends a m es end)) ≡ then_read (then_read read (λ is left. Some (m, left))) (λ m left. then_read (at_arguments b n left) (λ es end. ask_ends a m es end))
    by_open m None = refl
    by_open m (Some (is, left)) = refl

    by_method : (read : Answer Method) → then_read read (λ m rest. then_read (next_at (mark_at sign.OpenRound) rest) (λ is left. then_read (at_arguments b n left) (λ es end. ask_ends a m es end)))
        ≡ then_read (then_read read (λ m rest. then_read (next_at (mark_at sign.OpenRound) rest) (λ is left. Some (m, left)))) (λ m left. then_read (at_arguments b n left) (λ es end. ask_ends a m es end))
    by_method None = refl
    by_method (Some (m, rest)) = by_open m (next_at (mark_at sign.OpenRound) rest)

pub arguments_are : (b n : ℕ) (ts : List Token) → at_arguments b n ts ≡ pick (starts ts) (then_read (read_expr b n ts) (λ e rest. further_from b n (e ∷ []) (length rest) rest)) (Some ([], ts))
unfolding at_arguments further_from
arguments_are b n ts = ap (λ w. pick (starts ts) w (Some ([], ts))) (by_first (read_expr b n ts))
  where
    by_first : (read : Answer Expression) → then_read read (λ e rest. then_read (more_items starts (read_expr b n) (length rest) rest) (λ es left. Some (e ∷ es, left))) ≡ then_read read (λ e rest. with_front (e ∷ []) (more_items starts (read_expr b n) (length rest) rest))
    by_first read = simp from_start

pub further_ends : (b n : ℕ) (front : List Expression) (turns turn : ℕ) (ts : List Token) → turns ≤ turn → further_from b n front (turns - turn) ts ≡ Some (front, ts)
unfolding further_from
further_ends b n front turns turn ts h = items_last starts (read_expr b n) front turns turn ts h

pub further_alone : (b n : ℕ) (front : List Expression) (turns turn : ℕ) (ts : List Token) → turn < turns → next_at (mark_at sign.Comma) ts ≡ None → further_from b n front (turns - turn) ts ≡ Some (front, ts)
unfolding further_from
further_alone b n front turns turn ts h e = items_none starts (read_expr b n) front turns turn ts h e

pub further_comma : (b n : ℕ) (front : List Expression) (turns turn : ℕ) (is : ⊤) (ts rest : List Token) → turn < turns → next_at (mark_at sign.Comma) ts ≡ Some (is, rest) → starts rest ≡ false → further_from b n front (turns - turn) ts ≡ Some (front, rest)
unfolding further_from
further_comma b n front turns turn is ts rest h e s = items_ended starts (read_expr b n) front turns turn is ts rest h e s

pub further_missing : (b n : ℕ) (front : List Expression) (turns turn : ℕ) (is : ⊤) (ts rest : List Token) → turn < turns → next_at (mark_at sign.Comma) ts ≡ Some (is, rest) → starts rest ≡ true → read_expr b n rest ≡ None → further_from b n front (turns - turn) ts ≡ None
unfolding further_from
further_missing b n front turns turn is ts rest h e s i = items_missing starts (read_expr b n) front turns turn is ts rest h e s i

pub further_more : (b n : ℕ) (front all : List Expression) (turns turn : ℕ) (is : ⊤) (ts rest left : List Token) (a : Expression) → turn < turns → next_at (mark_at sign.Comma) ts ≡ Some (is, rest) → starts rest ≡ true → read_expr b n rest ≡ Some (a, left) → all ≡ front ++ a ∷ []
    → further_from b n front (turns - turn) ts ≡ further_from b n all (turns - (turn + 1)) left
unfolding further_from
further_more b n front all turns turn is ts rest left a h e s i p = items_more starts (read_expr b n) front turns turn is ts rest left a h e s i ∙ ap (λ w. with_front w (more_items starts (read_expr b n) (turns - (turn + 1)) left)) (sym p)

pub expressions_are : (b n : ℕ) (ts : List Token) → at_expressions b n ts ≡ then_read (read_expr b n ts) (λ e rest. pick (is_comma rest) (then_read (further_from b n (e ∷ []) (length rest) rest) (λ all end. within expr_depth (node.Tuple all) end)) (Some (e, rest)))
unfolding at_expressions further_from then_read
expressions_are b n ts = by_first (read_expr b n ts)
  where
    by_more : (e : Expression) (read : Answer (List Expression)) → then_read read (λ es end. within expr_depth (node.Tuple (e ∷ es)) end) ≡ then_read (with_front (e ∷ []) read) (λ all end. within expr_depth (node.Tuple all) end)
    by_more e None = refl
    by_more e (Some (es, end)) = refl

    by_first : (read : Answer Expression) → then_read read (λ e rest. pick (is_comma rest) (then_read (more_items starts (read_expr b n) (length rest) rest) (λ es end. within expr_depth (node.Tuple (e ∷ es)) end)) (Some (e, rest)))
        ≡ then_read read (λ e rest. pick (is_comma rest) (then_read (with_front (e ∷ []) (more_items starts (read_expr b n) (length rest) rest)) (λ all end. within expr_depth (node.Tuple all) end)) (Some (e, rest)))
    by_first None = refl
    by_first (Some (e, rest)) = ap (λ w. pick (is_comma rest) w (Some (e, rest))) (by_more e (more_items starts (read_expr b n) (length rest) rest))

pub right_side_is : (b n : ℕ) (ts : List Token) → at_right_side b n ts ≡ choose (yield_line ts) (at_expressions b n ts) (λ line rest.
    pick (starts rest) (then_read (at_expressions b n rest) (λ e left. within expr_depth (node.Yield line (Some e)) left)) (Some (node.Yield line None, rest)))
unfolding at_right_side at_expressions
right_side_is b n ts = refl

-- texts go on to an end
by_text : (s : List ℕ) (ts : List Token) → (u : List ℕ) × (rest : List Token) × (more_texts s ts ≡ Some (u, rest))
unfolding more_texts
by_text s [] = (s, [], refl)
by_text s (t ∷ ts) = by_kind (text_at t.kind) refl (λ u. by_text (s ++ u) ts)
  where
    by_kind : (o : Option (List ℕ)) → text_at t.kind ≡ o → ((u : List ℕ) → (v : List ℕ) × (rest : List Token) × (more_texts (s ++ u) ts ≡ Some (v, rest))) → (u : List ℕ) × (rest : List Token) × (more_texts s (t ∷ ts) ≡ Some (u, rest))
    by_kind None e more = (s, t ∷ ts, rw e refl)
    by_kind (Some u) e more = let x = more u in (x.0, x.1, rw e x.2)

by_leaf : (group : Answer Expression) (one : Answer Single) (number : Answer ℤ) (word : Answer (List ℕ)) (read : Answer (List ℕ))
    → choose one (choose number (choose word (choose read group (λ s rest. then_read (more_texts s rest) (λ u left. Some (tree.Text u, left)))) (λ n rest. Some (tree.Name n, rest))) (λ z rest. Some (tree.Integer z, rest))) (λ s rest. Some (tree.Single s, rest))
    ≡ choose (choose one (choose number (choose word (choose read None (λ s rest. then_read (more_texts s rest) (λ u left. Some (tree.Text u, left)))) (λ n rest. Some (tree.Name n, rest))) (λ z rest. Some (tree.Integer z, rest))) (λ s rest. Some (tree.Single s, rest))) group (λ t rest. Some (t, rest))
unfolding choose then_read
by_leaf group (Some (s, rest)) number word read = refl
by_leaf group None (Some (z, rest)) word read = refl
by_leaf group None None (Some (n, rest)) read = refl
by_leaf group None None None None = refl
by_leaf group None None None (Some (s, rest)) = let x = by_text s rest in rw x.2 refl

pub atom_is : (b n : ℕ) (ts : List Token) → at_atom b n ts ≡ choose (leaf_at ts) (then_read (next_at (mark_at sign.OpenRound) ts) (λ is rest. at_group b n rest)) (λ t rest. Some (t, rest))
unfolding at_atom at_group leaf_at
atom_is b n ts = by_leaf _ (next_at single_of ts) (next_at number_at ts) (next_at name_at ts) (next_at text_at ts)

pub group_is : (b n : ℕ) (ts : List Token) → at_group b n ts ≡ choose (next_at (mark_at sign.CloseRound) ts) (then_read (at_right_side b n ts) (λ e rest. then_read (next_at (mark_at sign.CloseRound) rest) (λ is left. Some (e, left)))) (λ is rest. Some (tree.Empty, rest))
unfolding at_group at_right_side
group_is b n ts = refl

-- in the forms in which the code comes to them
pub behind_if : (b n : ℕ) (ts : List Token) (a : Expression) (is : ⊤) (rest left : List Token) → 0 < b → 0 < n → at_level level.Or (b - 1) n ts ≡ Some (a, rest) → next_at (mark_at sign.If) rest ≡ Some (is, left)
    → read_expr b n ts ≡ then_read (at_level level.Or (b - 1) n left) (λ c more. then_read (next_at (mark_at sign.Else) more) (λ is end. then_read (read_expr b (n - 1) end) (λ o z. within expr_depth (node.If a c o) z)))
behind_if b n ts a is rest left h k e f = expression_is b n ts h k ∙ found _ e ∙ taken _ _ f

pub no_if : (b n : ℕ) (ts : List Token) (a : Expression) (rest same : List Token) → 0 < b → 0 < n → at_level level.Or (b - 1) n ts ≡ Some (a, rest) → Kept (mark_at sign.If) rest same → read_expr b n ts ≡ Some (a, same)
no_if b n ts a rest same h k e f = expression_is b n ts h k ∙ found _ e ∙ passed _ _ f.0 ∙ ap (λ w. Some (a, w)) (sym f.1)

pub level_ended : (level : Level) (b n turn : ℕ) (t : Expression) (ts same : List Token) → turn < 256 → Kept (level_op level) ts same → level_from level b n turn t ts ≡ Some (t, same)
level_ended level b n turn t ts same h f = level_goes level b n turn t ts h ∙ passed _ _ f.0 ∙ ap (λ w. Some (t, w)) (sym f.1)

pub level_missing : (level : Level) (b n turn : ℕ) (t : Expression) (op : Op) (ts rest : List Token) → turn < 256 → next_at (level_op level) ts ≡ Some (op, rest) → below_level level b n rest ≡ None → level_from level b n turn t ts ≡ None
level_missing level b n turn t op ts rest h f e = level_goes level b n turn t ts h ∙ taken _ _ f ∙ missed _ e

pub level_deep : (level : Level) (b n turn : ℕ) (t u : Expression) (op : Op) (ts rest left : List Token) → turn < 256 → next_at (level_op level) ts ≡ Some (op, rest) → below_level level b n rest ≡ Some (u, left) → 256 < expr_depth (op_node op t u) → level_from level b n turn t ts ≡ None
level_deep level b n turn t u op ts rest left h f e d = level_goes level b n turn t ts h ∙ taken _ _ f ∙ found _ e ∙ missed _ (within_none expr_depth (op_node op t u) left d)

pub level_turned : (level : Level) (b n turn : ℕ) (t u got : Expression) (op : Op) (ts rest left : List Token) → turn < 256 → next_at (level_op level) ts ≡ Some (op, rest) → below_level level b n rest ≡ Some (u, left) → (expr_depth (op_node op t u) ≤ 256) × (got ≡ op_node op t u)
    → level_from level b n turn t ts ≡ level_from level b n (turn + 1) got left
level_turned level b n turn t u got op ts rest left h f e m = level_goes level b n turn t ts h ∙ taken _ _ f ∙ found _ e ∙ found _ (within_fits expr_depth (op_node op t u) left m.0) ∙ ap (λ x. level_from level b n (turn + 1) x left) (sym m.1)

pub comparison_goes : (b n : ℕ) (ts : List Token) (a : Expression) (rest same : List Token) → at_level level.Sum b n ts ≡ Some (a, rest) → Kept (mark_at sign.Is) rest same → at_comparison b n ts ≡ then_read (comparison_at same) (λ o left. maybe_compared b n a o left)
comparison_goes b n ts a rest same e k = comparison_is b n ts ∙ found _ e ∙ passed _ _ k.0 ∙ ap (λ w. then_read (comparison_at w) (λ o left. maybe_compared b n a o left)) (sym k.1)

pub suffixes_ended : (b n turn : ℕ) (a : Expression) (ts same : List Token) → turn < 256 → Kept suffix_at ts same → suffixes_from b n turn a ts ≡ Some (a, same)
suffixes_ended b n turn a ts same h k = suffixes_go b n turn a ts h ∙ passed _ _ k.0 ∙ ap (λ w. Some (a, w)) (sym k.1)

pub suffixes_missing : (b n turn : ℕ) (a : Expression) (x : Suffix) (ts rest : List Token) → turn < 256 → next_at suffix_at ts ≡ Some (x, rest) → at_suffix b n x a rest ≡ None → suffixes_from b n turn a ts ≡ None
suffixes_missing b n turn a x ts rest h f e = suffixes_go b n turn a ts h ∙ taken _ _ f ∙ missed _ e

pub suffixes_turned : (b n turn : ℕ) (a got : Expression) (x : Suffix) (ts rest left : List Token) → turn < 256 → next_at suffix_at ts ≡ Some (x, rest) → at_suffix b n x a rest ≡ Some (got, left) → suffixes_from b n turn a ts ≡ suffixes_from b n (turn + 1) got left
suffixes_turned b n turn a got x ts rest left h f e = suffixes_go b n turn a ts h ∙ taken _ _ f ∙ found _ e

pub further_start : (b n : ℕ) (front : List Expression) (turns : ℕ) (ts : List Token) → further_from b n front turns ts ≡ further_from b n front (turns - 0) ts
further_start b n front turns ts = ap (λ k. further_from b n front k ts) (omega arith)

pub arguments_go : (b n : ℕ) (ts rest : List Token) (a : Expression) (parts : List Expression) (turns : ℕ) → starts ts ≡ true → read_expr b n ts ≡ Some (a, rest) → parts ≡ a ∷ [] → turns ≡ length rest → at_arguments b n ts ≡ further_from b n parts turns rest
arguments_go b n ts rest a parts turns s e p t = arguments_are b n ts ∙ picked _ _ s ∙ found _ e ∙ ap (λ w. further_from b n (a ∷ []) w rest) (sym t) ∙ ap (λ w. further_from b n w turns rest) (sym p)

pub expressions_go : (b n : ℕ) (ts rest : List Token) (a : Expression) (parts : List Expression) (turns : ℕ) → read_expr b n ts ≡ Some (a, rest) → is_comma rest ≡ true → parts ≡ a ∷ [] → turns ≡ length rest
    → at_expressions b n ts ≡ then_read (further_from b n parts turns rest) (λ all end. within expr_depth (node.Tuple all) end)
expressions_go b n ts rest a parts turns e c p t = expressions_are b n ts ∙ found _ e ∙ picked _ _ c
    ∙ ap (λ w. then_read (further_from b n (a ∷ []) w rest) (λ all end. within expr_depth (node.Tuple all) end)) (sym t) ∙ ap (λ w. then_read (further_from b n w turns rest) (λ all end. within expr_depth (node.Tuple all) end)) (sym p)

pub atom_group : (b n : ℕ) (ts same : List Token) → (leaf_at ts ≡ None) × (same ≡ ts) → at_atom b n ts ≡ then_read (next_at (mark_at sign.OpenRound) same) (λ is rest. at_group b n rest)
atom_group b n ts same k = atom_is b n ts ∙ passed _ _ k.0 ∙ ap (λ w. then_read (next_at (mark_at sign.OpenRound) w) (λ is rest. at_group b n rest)) (sym k.1)

pub atom_leaf : (b n : ℕ) (ts rest : List Token) (t : Expression) → leaf_at ts ≡ Some (t, rest) → at_atom b n ts ≡ Some (t, rest)
atom_leaf b n ts rest t e = atom_is b n ts ∙ taken _ _ e

pub group_goes : (b n : ℕ) (ts same : List Token) → Kept (mark_at sign.CloseRound) ts same → at_group b n ts ≡ then_read (at_right_side b n same) (λ e rest. then_read (next_at (mark_at sign.CloseRound) rest) (λ is left. Some (e, left)))
group_goes b n ts same k = group_is b n ts ∙ passed _ _ k.0 ∙ ap (λ w. then_read (at_right_side b n w) (λ e rest. then_read (next_at (mark_at sign.CloseRound) rest) (λ is left. Some (e, left)))) (sym k.1)

pub right_side_goes : (b n : ℕ) (ts same : List Token) → (yield_line ts ≡ None) × (same ≡ ts) → at_right_side b n ts ≡ at_expressions b n same
right_side_goes b n ts same k = right_side_is b n ts ∙ passed _ _ k.0 ∙ ap (λ w. at_expressions b n w) (sym k.1)
