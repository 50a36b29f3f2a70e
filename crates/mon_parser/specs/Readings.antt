-- The readers of expressions by what the code's functions read, with so many brackets and nodes left. They are closed, so that a proof about a call does not look into it.
use Rattle.std.specs.Prelude.{ℕ, ◌-◌, List, Option, Some, None}
use Rattle.mon_parser.specs.declared.cursor.Sign.TheVariants as sign
use Rattle.mon_trees.specs.declared.tree.Expression.{Expression}
use Rattle.mon_trees.specs.declared.tree.Expression as tree
use Rattle.mon_trees.specs.declared.tree.Expression.TheViews as node
use Rattle.mon_trees.specs.declared.tree.Method.{Method}
use Rattle.mon_trees.specs.declared.tree.Comparison.TheVariants as comparison
use Rattle.mon_trees.specs.declared.tree.Comparison.{Comparison}
use Rattle.mon_parser.specs.declared.levels.Level.{Level}
use Rattle.mon_parser.specs.declared.levels.Suffix.{Suffix}
use Rattle.mon_parser.specs.Code.{with_front}
use Rattle.mon_parser.specs.Tokens.{single_of, cmp_op}
use Rattle.mon_parser.specs.Reader.{Reader, then_read, choose, next_at, mark_at, number_at, name_at, text_at, method_at, more_texts, is_from, made, read_level, read_lower, read_not, read_unary, group_from, read_expr, read_more, level_op, op_node, read_compare, read_sum, compared, read_postfix, more_suffixes, read_suffix, read_args, more_items, starts, read_tuple, read_rhs, read_atom}

unfoldable pub at_level : Level → ℕ → ℕ → Reader Expression
at_level level b n = read_level level (read_expr b) n

unfoldable pub below_level : Level → ℕ → ℕ → Reader Expression
below_level level b n = read_lower level (read_expr b) n

-- a level where so many turns of its loop are over
unfoldable pub level_from : Level → ℕ → ℕ → ℕ → Expression → Reader Expression
level_from level b n turn tree = read_more (level_op level) op_node (read_lower level (read_expr b) n) (256 - turn) tree

unfoldable pub at_negation : ℕ → ℕ → Reader Expression
at_negation b n = read_not (read_expr b) n

unfoldable pub at_unary : ℕ → ℕ → Reader Expression
at_unary b n = read_unary (read_expr b) n

unfoldable pub at_comparison : ℕ → ℕ → Reader Expression
at_comparison b n = read_compare (read_expr b) n

unfoldable pub behind_comparison : ℕ → ℕ → Expression → Comparison → Reader Expression
behind_comparison b n first op = compared (read_sum (read_expr b) n) first op

unfoldable pub at_postfix : ℕ → ℕ → Reader Expression
at_postfix b n = read_postfix (read_expr b n)

unfoldable pub suffixes_from : ℕ → ℕ → ℕ → Expression → Reader Expression
suffixes_from b n turn tree = more_suffixes (read_expr b n) (256 - turn) tree

unfoldable pub at_suffix : ℕ → ℕ → Suffix → Expression → Reader Expression
at_suffix b n found tree = read_suffix (read_expr b n) found tree

unfoldable pub at_arguments : ℕ → ℕ → Reader (List Expression)
at_arguments b n = read_args (read_expr b n)

-- what was read, and further expressions
unfoldable pub further_from : ℕ → ℕ → List Expression → ℕ → Reader (List Expression)
further_from b n front turns ts = with_front front (more_items starts (read_expr b n) turns ts)

unfoldable pub at_expressions : ℕ → ℕ → Reader Expression
at_expressions b n = read_tuple (read_expr b n)

unfoldable pub at_right_side : ℕ → ℕ → Reader Expression
at_right_side b n = read_rhs (read_expr b n)

unfoldable pub at_atom : ℕ → ℕ → Reader Expression
at_atom b n = read_atom (read_expr b n)

unfoldable pub at_group : ℕ → ℕ → Reader Expression
at_group b n = group_from (read_expr b n)

-- what holds no further expression: an atom without brackets, what stands behind `is`, an operator of comparison, and the ends of suffixes
unfoldable pub leaf_at : Reader Expression
leaf_at ts =
    choose (next_at single_of ts)
    (choose (next_at number_at ts)
    (choose (next_at name_at ts)
    (choose (next_at text_at ts)
    None
    (λ s rest. then_read (more_texts s rest) (λ u left. Some (tree.Text u, left))))
    (λ n rest. Some (tree.Name n, rest)))
    (λ z rest. Some (tree.Integer z, rest)))
    (λ s rest. Some (tree.Single s, rest))

unfoldable pub identity_at : Expression → Reader Expression
identity_at a ts = is_from a ts

unfoldable pub comparison_at : Reader (Option Comparison)
comparison_at ts = choose (next_at (mark_at sign.Not) ts)
    (choose (next_at cmp_op ts) (Some (None, ts)) (λ c rest. Some (Some c, rest)))
    (λ is rest. then_read (next_at (mark_at sign.In) rest) (λ is left. Some (Some comparison.NotIn, left)))

unfoldable pub asked_at : Reader Method
asked_at ts = then_read (next_at method_at ts) (λ m rest. then_read (next_at (mark_at sign.OpenRound) rest) (λ is left. Some (m, left)))

unfoldable pub call_ends : Expression → List Expression → Reader Expression
call_ends a es ts = then_read (next_at (mark_at sign.CloseRound) ts) (λ is rest. made (node.Call a es) rest)

unfoldable pub subscript_ends : Expression → Expression → Reader Expression
subscript_ends a i ts = then_read (next_at (mark_at sign.CloseSquare) ts) (λ is rest. made (node.Subscript a i) rest)

unfoldable pub ask_ends : Expression → Method → List Expression → Reader Expression
ask_ends a m es ts = then_read (next_at (mark_at sign.CloseRound) ts) (λ is rest. made (node.Method a m es) rest)
