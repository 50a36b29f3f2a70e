use Rattle.std.proofs.Common.{◌≡◌, ◌++◌, ◌∷◌, [], Some, sym, ap, ◌∙◌, arith, false, true}
use Rattle.mon_trees.specs.declared.tree.Expression.TheViews as node
use Rattle.mon_parser.specs.Depth.{expr_depth}
use Rattle.mon_parser.specs.Reader.{starts, is_comma}
use Rattle.mon_parser.specs.Readings.{at_comparison, at_postfix, at_suffix, below_level}
use Rattle.mon_parser.proofs.Giving.{refuses, runs_out, gives_made}
use Rattle.mon_parser.proofs.Calls.{found, missed, taken, passed, picked, unpicked, gives_by, memory_only, leaf_some, leaf_no}
use Rattle.mon_parser.proofs.Depths.{depth_yield_none}
use Rattle.mon_parser.proofs.Steps.{expr_none, expr_zero}
use Rattle.mon_parser.proofs.ExpressionCalls.{expression_is, behind_if, no_if, level_is, level_ended, level_missing, level_deep, level_turned, level_ends, below_or, below_and, below_sum, below_term, negation_none, negation_is, unary_none, unary_is, comparison_is, comparison_goes, maybe_compared, compared_is, postfix_is, suffixes_ended, suffixes_missing, suffixes_turned, suffixes_end, call_is, subscript_is, ask_is, arguments_are, arguments_go, further_start, further_alone, further_comma, further_missing, further_more, further_ends, expressions_are, expressions_go, right_side_is, right_side_goes, atom_leaf, atom_group, group_is, group_goes}
use Rattle.mon_parser.proofs.expression.+expression.Goals as goal

pub expression-returns-then-brackets-eq0 : goal.expression-returns-then-brackets-eq0
expression-returns-then-brackets-eq0 t c = λ e. expr_none _ _ _ c.if-brackets-eq0.true

pub expression-returns-then-nodes-eq0 : goal.expression-returns-then-nodes-eq0
expression-returns-then-nodes-eq0 t c = λ e. expr_zero _ _ _ c.if-nodes-eq0.true

pub expression-returns-in_err-value : goal.expression-returns-in_err-value
expression-returns-in_err-value t c = refuses _ _ c.in_err-value.field-0.0 _ c.from_residual.ensures.1 (λ e. expression_is c.args.brackets c.args.nodes c.args.cursor.now (omega arith) (omega arith) ∙ missed _ (c.in_err-value.ensures e))

pub expression-returns-then-not-take : goal.expression-returns-then-not-take
expression-returns-then-not-take t c = no_if c.args.brackets c.args.nodes c.args.cursor.now _ _ _ (omega arith) (omega arith) c.in_ok-value.ensures c.if-not-take.ensures.other

pub expression-returns-in_err-test : goal.expression-returns-in_err-test
expression-returns-in_err-test t c = refuses _ _ c.in_err-test.field-0.0 _ c.from_residual-in_err-test.ensures.1 (λ e. behind_if c.args.brackets c.args.nodes c.args.cursor.now _ _ _ _ (omega arith) (omega arith) c.in_ok-value.ensures c.if-not-take.ensures.taken ∙ missed _ (c.in_err-test.ensures e))

pub expression-returns-in_err-expect : goal.expression-returns-in_err-expect
expression-returns-in_err-expect t c = refuses _ _ c.in_err-expect.field-0.0 _ c.from_residual-in_err-expect.ensures.1 (λ e. behind_if c.args.brackets c.args.nodes c.args.cursor.now _ _ _ _ (omega arith) (omega arith) c.in_ok-value.ensures c.if-not-take.ensures.taken ∙ found _ c.in_ok-test.ensures ∙ missed _ (c.in_err-expect.ensures e))

pub expression-returns-in_err-other : goal.expression-returns-in_err-other
expression-returns-in_err-other t c = refuses _ _ c.in_err-other.field-0.0 _ c.from_residual-in_err-other.ensures.1 (λ e. behind_if c.args.brackets c.args.nodes c.args.cursor.now _ _ _ _ (omega arith) (omega arith) c.in_ok-value.ensures c.if-not-take.ensures.taken ∙ found _ c.in_ok-test.ensures ∙ found _ c.in_ok-expect.ensures ∙ missed _ (c.in_err-other.ensures e))

pub expression-returns : goal.expression-returns
expression-returns t c = gives_made expr_depth (node.If _ _ _) _ _ _ (behind_if c.args.brackets c.args.nodes c.args.cursor.now _ _ _ _ (omega arith) (omega arith) c.in_ok-value.ensures c.if-not-take.ensures.taken ∙ found _ c.in_ok-test.ensures ∙ found _ c.in_ok-expect.ensures ∙ found _ c.in_ok-other.ensures) c.conditional.ensures

pub left-returns-in_err-tree : goal.left-returns-in_err-tree
left-returns-in_err-tree t c = refuses _ _ c.in_err-tree.field-0.0 _ c.from_residual.ensures.1 (λ e. level_is _ _ _ _ ∙ missed _ (c.in_err-tree.ensures e))

pub left-loop-turn-init : goal.left-loop-turn-init
left-loop-turn-init t c = level_is _ _ _ _ ∙ found _ c.in_ok-tree.ensures

pub left-returns-in-None : goal.left-returns-in-None
left-returns-in-None t c = c.loop-turn.invariant ∙ level_ended _ _ _ _ _ _ _ c.loop-turn-test.true c.in-None.ensures

pub left-returns-in_err-right-in-Some : goal.left-returns-in_err-right-in-Some
left-returns-in_err-right-in-Some t c = refuses _ _ c.in_err-right-in-Some.field-0.0 _ c.from_residual-in_err-right-in-Some.ensures.1 (λ e. c.loop-turn.invariant ∙ level_missing _ _ _ _ _ _ _ _ c.loop-turn-test.true c.in-Some.ensures (c.in_err-right-in-Some.ensures e))

pub left-returns-in_err-tree-in-Some : goal.left-returns-in_err-tree-in-Some
left-returns-in_err-tree-in-Some t c = refuses _ _ c.in_err-tree-in-Some.field-0.0 _ c.from_residual-in_err-tree-in-Some.ensures.1 (λ e. c.loop-turn.invariant ∙ level_deep _ _ _ _ _ _ _ _ _ _ c.loop-turn-test.true c.in-Some.ensures c.in_ok-right-in-Some.ensures (c.in_err-tree-in-Some.ensures e))

pub left-loop-turn-preserved : goal.left-loop-turn-preserved
left-loop-turn-preserved t c = c.loop-turn.invariant ∙ level_turned _ _ _ _ _ _ _ _ _ _ _ c.loop-turn-test.true c.in-Some.ensures c.in_ok-right-in-Some.ensures c.in_ok-tree-in-Some.ensures

pub left-returns : goal.left-returns
left-returns t c = c.loop-turn.invariant ∙ level_ends _ _ _ _ _ _ (omega (arith, c.loop-turn-test.false))

pub lower-returns-in-Or : goal.lower-returns-in-Or
lower-returns-in-Or t c = gives_by _ _ _ _ (ap (λ l. below_level l c.args.brackets c.args.nodes c.args.cursor.now) c.in-Or.is ∙ below_or _ _ _) c.left.ensures

pub lower-returns-in-And : goal.lower-returns-in-And
lower-returns-in-And t c = gives_by _ _ _ _ (ap (λ l. below_level l c.args.brackets c.args.nodes c.args.cursor.now) c.in-And.is ∙ below_and _ _ _) c.negation.ensures

pub lower-returns-in-Sum : goal.lower-returns-in-Sum
lower-returns-in-Sum t c = gives_by _ _ _ _ (ap (λ l. below_level l c.args.brackets c.args.nodes c.args.cursor.now) c.in-Sum.is ∙ below_sum _ _ _) c.left-in-Sum.ensures

pub lower-returns-in-Term : goal.lower-returns-in-Term
lower-returns-in-Term t c = gives_by _ _ _ _ (ap (λ l. below_level l c.args.brackets c.args.nodes c.args.cursor.now) c.in-Term.is ∙ below_term _ _ _) c.unary.ensures

pub negation-returns-then-nodes-eq0 : goal.negation-returns-then-nodes-eq0
negation-returns-then-nodes-eq0 t c = λ e. negation_none _ _ _ c.if-nodes-eq0.true

pub negation-returns-then-not-take : goal.negation-returns-then-not-take
negation-returns-then-not-take t c = gives_by _ _ _ _ (negation_is c.args.brackets c.args.nodes c.args.cursor.now (omega arith) ∙ passed _ _ c.if-not-take.ensures.other.0 ∙ ap (λ w. at_comparison c.args.brackets c.args.nodes w) (sym c.if-not-take.ensures.other.1)) c.comparison.ensures

pub negation-returns-in_err-operand : goal.negation-returns-in_err-operand
negation-returns-in_err-operand t c = refuses _ _ c.in_err-operand.field-0.0 _ c.from_residual.ensures.1 (λ e. negation_is c.args.brackets c.args.nodes c.args.cursor.now (omega arith) ∙ taken _ _ c.if-not-take.ensures.taken ∙ missed _ (c.in_err-operand.ensures e))

pub negation-returns : goal.negation-returns
negation-returns t c = gives_made expr_depth (node.Not _) _ _ _ (negation_is c.args.brackets c.args.nodes c.args.cursor.now (omega arith) ∙ taken _ _ c.if-not-take.ensures.taken ∙ found _ c.in_ok-operand.ensures) c.not.ensures

pub unary-returns-then-nodes-eq0 : goal.unary-returns-then-nodes-eq0
unary-returns-then-nodes-eq0 t c = λ e. unary_none _ _ _ c.if-nodes-eq0.true

pub unary-returns-then-not-take : goal.unary-returns-then-not-take
unary-returns-then-not-take t c = gives_by _ _ _ _ (unary_is c.args.brackets c.args.nodes c.args.cursor.now (omega arith) ∙ passed _ _ c.if-not-take.ensures.other.0 ∙ ap (λ w. at_postfix c.args.brackets c.args.nodes w) (sym c.if-not-take.ensures.other.1)) c.postfix.ensures

pub unary-returns-in_err-operand : goal.unary-returns-in_err-operand
unary-returns-in_err-operand t c = refuses _ _ c.in_err-operand.field-0.0 _ c.from_residual.ensures.1 (λ e. unary_is c.args.brackets c.args.nodes c.args.cursor.now (omega arith) ∙ taken _ _ c.if-not-take.ensures.taken ∙ missed _ (c.in_err-operand.ensures e))

pub unary-returns : goal.unary-returns
unary-returns t c = gives_made expr_depth (node.Negative _) _ _ _ (unary_is c.args.brackets c.args.nodes c.args.cursor.now (omega arith) ∙ taken _ _ c.if-not-take.ensures.taken ∙ found _ c.in_ok-operand.ensures) c.negative.ensures

pub comparison-returns-in_err-first : goal.comparison-returns-in_err-first
comparison-returns-in_err-first t c = refuses _ _ c.in_err-first.field-0.0 _ c.from_residual.ensures.1 (λ e. comparison_is _ _ _ ∙ missed _ (c.in_err-first.ensures e))

pub comparison-returns-then-take : goal.comparison-returns-then-take
comparison-returns-then-take t c = gives_by _ _ _ _ (comparison_is _ _ _ ∙ found _ c.in_ok-first.ensures ∙ taken _ _ c.if-take.ensures.taken) c.identity.ensures

pub comparison-returns-in_err-found : goal.comparison-returns-in_err-found
comparison-returns-in_err-found t c = refuses _ _ c.in_err-found.field-0.0 _ c.from_residual-in_err-found.ensures.1 (λ e. comparison_goes _ _ _ _ _ _ c.in_ok-first.ensures c.if-take.ensures.other ∙ missed _ (c.in_err-found.ensures e))

pub comparison-returns-in-None : goal.comparison-returns-in-None
comparison-returns-in-None t c = comparison_goes _ _ _ _ _ _ c.in_ok-first.ensures c.if-take.ensures.other ∙ found _ c.in_ok-found.ensures ∙ ap (λ o. maybe_compared c.args.brackets c.args.nodes c.in_ok-first.first o c.comparison_operator.new.cursor) c.in-None.is

pub comparison-returns-in-Some : goal.comparison-returns-in-Some
comparison-returns-in-Some t c = gives_by _ _ _ _ (comparison_goes _ _ _ _ _ _ c.in_ok-first.ensures c.if-take.ensures.other ∙ found _ c.in_ok-found.ensures ∙ ap (λ o. maybe_compared c.args.brackets c.args.nodes c.in_ok-first.first o c.comparison_operator.new.cursor) c.in-Some.is) c.compared.ensures

pub compared-returns-in_err-last : goal.compared-returns-in_err-last
compared-returns-in_err-last t c = refuses _ _ c.in_err-last.field-0.0 _ c.from_residual.ensures.1 (λ e. compared_is _ _ _ _ _ ∙ missed _ (c.in_err-last.ensures e))

pub compared-returns : goal.compared-returns
compared-returns t c = gives_made expr_depth (node.Compare _ _ _) _ _ _ (compared_is _ _ _ _ _ ∙ found _ c.in_ok-last.ensures) c.compare.ensures

pub postfix-returns-in_err-tree : goal.postfix-returns-in_err-tree
postfix-returns-in_err-tree t c = refuses _ _ c.in_err-tree.field-0.0 _ c.from_residual.ensures.1 (λ e. postfix_is _ _ _ ∙ missed _ (c.in_err-tree.ensures e))

pub postfix-loop-turn-init : goal.postfix-loop-turn-init
postfix-loop-turn-init t c = postfix_is _ _ _ ∙ found _ c.in_ok-tree.ensures

pub postfix-returns-in-None : goal.postfix-returns-in-None
postfix-returns-in-None t c = c.loop-turn.invariant ∙ suffixes_ended _ _ _ _ _ _ c.loop-turn-test.true c.in-None.ensures

pub postfix-returns-in_err-tree-in-Some : goal.postfix-returns-in_err-tree-in-Some
postfix-returns-in_err-tree-in-Some t c = refuses _ _ c.in_err-tree-in-Some.field-0.0 _ c.from_residual-in_err-tree-in-Some.ensures.1 (λ e. c.loop-turn.invariant ∙ suffixes_missing _ _ _ _ _ _ _ c.loop-turn-test.true c.in-Some.ensures (c.in_err-tree-in-Some.ensures e))

pub postfix-loop-turn-preserved : goal.postfix-loop-turn-preserved
postfix-loop-turn-preserved t c = c.loop-turn.invariant ∙ suffixes_turned _ _ _ _ _ _ _ _ _ c.loop-turn-test.true c.in-Some.ensures c.in_ok-tree-in-Some.ensures

pub postfix-returns : goal.postfix-returns
postfix-returns t c = c.loop-turn.invariant ∙ suffixes_end _ _ _ _ _ (omega (arith, c.loop-turn-test.false))

pub suffix-returns-in_err-parts-in-Call : goal.suffix-returns-in_err-parts-in-Call
suffix-returns-in_err-parts-in-Call t c = refuses _ _ c.in_err-parts-in-Call.field-0.0 _ c.from_residual.ensures.1 (λ e. ap (λ x. at_suffix c.args.brackets c.args.nodes x c.args.tree c.args.cursor.now) c.in-Call.is ∙ call_is _ _ _ _ ∙ missed _ (c.in_err-parts-in-Call.ensures e))

pub suffix-returns-in_ok-parts-in-Call : goal.suffix-returns-in_ok-parts-in-Call
suffix-returns-in_ok-parts-in-Call t c = gives_by _ _ _ _ (ap (λ x. at_suffix c.args.brackets c.args.nodes x c.args.tree c.args.cursor.now) c.in-Call.is ∙ call_is _ _ _ _ ∙ found _ c.in_ok-parts-in-Call.ensures) c.end_call.ensures

pub suffix-returns-in_err-index-in-Subscript : goal.suffix-returns-in_err-index-in-Subscript
suffix-returns-in_err-index-in-Subscript t c = refuses _ _ c.in_err-index-in-Subscript.field-0.0 _ c.from_residual-in_err-index-in-Subscript.ensures.1 (λ e. ap (λ x. at_suffix c.args.brackets c.args.nodes x c.args.tree c.args.cursor.now) c.in-Subscript.is ∙ subscript_is _ _ _ _ ∙ missed _ (c.in_err-index-in-Subscript.ensures e))

pub suffix-returns-in_ok-index-in-Subscript : goal.suffix-returns-in_ok-index-in-Subscript
suffix-returns-in_ok-index-in-Subscript t c = gives_by _ _ _ _ (ap (λ x. at_suffix c.args.brackets c.args.nodes x c.args.tree c.args.cursor.now) c.in-Subscript.is ∙ subscript_is _ _ _ _ ∙ found _ c.in_ok-index-in-Subscript.ensures) c.end_subscript.ensures

pub suffix-returns-in_err-method-in-Ask : goal.suffix-returns-in_err-method-in-Ask
suffix-returns-in_err-method-in-Ask t c = refuses _ _ c.in_err-method-in-Ask.field-0.0 _ c.from_residual-in_err-method-in-Ask.ensures.1 (λ e. ap (λ x. at_suffix c.args.brackets c.args.nodes x c.args.tree c.args.cursor.now) c.in-Ask.is ∙ ask_is _ _ _ _ ∙ missed _ (c.in_err-method-in-Ask.ensures e))

pub suffix-returns-in_err-parts-in-Ask : goal.suffix-returns-in_err-parts-in-Ask
suffix-returns-in_err-parts-in-Ask t c = refuses _ _ c.in_err-parts-in-Ask.field-0.0 _ c.from_residual-in_err-parts-in-Ask.ensures.1 (λ e. ap (λ x. at_suffix c.args.brackets c.args.nodes x c.args.tree c.args.cursor.now) c.in-Ask.is ∙ ask_is _ _ _ _ ∙ found _ c.in_ok-method-in-Ask.ensures ∙ missed _ (c.in_err-parts-in-Ask.ensures e))

pub suffix-returns-in_ok-parts-in-Ask : goal.suffix-returns-in_ok-parts-in-Ask
suffix-returns-in_ok-parts-in-Ask t c = gives_by _ _ _ _ (ap (λ x. at_suffix c.args.brackets c.args.nodes x c.args.tree c.args.cursor.now) c.in-Ask.is ∙ ask_is _ _ _ _ ∙ found _ c.in_ok-method-in-Ask.ensures ∙ found _ c.in_ok-parts-in-Ask.ensures) c.end_ask.ensures

pub arguments-returns-then-not-starts : goal.arguments-returns-then-not-starts
arguments-returns-then-not-starts t c =
    let none : starts c.args.cursor.now ≡ false = cc in
    arguments_are _ _ _ ∙ unpicked _ _ none ∙ ap (λ p. Some (p, c.args.cursor.now)) (sym c.new-parts.ensures)

pub arguments-returns-in_err-first : goal.arguments-returns-in_err-first
arguments-returns-in_err-first t c = refuses _ _ c.in_err-first.field-0.0 _ c.from_residual.ensures.1 (λ e. arguments_are _ _ _ ∙ picked _ _ (cc) ∙ missed _ (c.in_err-first.ensures e))

pub arguments-returns-in_err-push : goal.arguments-returns-in_err-push
arguments-returns-in_err-push t c = runs_out _ _ _ c.from_residual-in_err-push.ensures.1

pub arguments-returns : goal.arguments-returns
arguments-returns t c =
    let some : starts c.args.cursor.now ≡ true = cc in
    gives_by _ _ _ _ (arguments_go _ _ _ _ _ _ _ some c.in_ok-first.ensures (c.in_ok-push.ensures ∙ ap (λ p. p ++ c.in_ok-first.first ∷ []) c.new-parts.ensures) c.len-turns.ensures) c.further.ensures

pub further-loop-turn-init : goal.further-loop-turn-init
further-loop-turn-init t c = further_start _ _ _ _ _

pub further-returns-then-not-take : goal.further-returns-then-not-take
further-returns-then-not-take t c = c.loop-turn.invariant ∙ further_alone _ _ _ _ _ _ c.loop-turn-test.true c.if-not-take.ensures.other.0 ∙ ap (λ w. Some (c.loop-turn.parts, w)) (sym c.if-not-take.ensures.other.1)

pub further-returns-then-not-starts : goal.further-returns-then-not-starts
further-returns-then-not-starts t c = c.loop-turn.invariant ∙ further_comma _ _ _ _ _ _ _ _ c.loop-turn-test.true c.if-not-take.ensures.taken (cc)

pub further-returns-in_err-part : goal.further-returns-in_err-part
further-returns-in_err-part t c = refuses _ _ c.in_err-part.field-0.0 _ c.from_residual.ensures.1 (λ e. c.loop-turn.invariant ∙ further_missing _ _ _ _ _ _ _ _ c.loop-turn-test.true c.if-not-take.ensures.taken (cc) (c.in_err-part.ensures e))

pub further-returns-in_err-push : goal.further-returns-in_err-push
further-returns-in_err-push t c = runs_out _ _ _ c.from_residual-in_err-push.ensures.1

pub further-loop-turn-preserved : goal.further-loop-turn-preserved
further-loop-turn-preserved t c = c.loop-turn.invariant ∙ further_more _ _ _ _ _ _ _ _ _ _ _ c.loop-turn-test.true c.if-not-take.ensures.taken (cc) c.in_ok-part.ensures c.in_ok-push.ensures

pub further-returns : goal.further-returns
further-returns t c = c.loop-turn.invariant ∙ further_ends _ _ _ _ _ _ (omega (arith, c.loop-turn-test.false))

pub expressions-returns-in_err-first : goal.expressions-returns-in_err-first
expressions-returns-in_err-first t c = refuses _ _ c.in_err-first.field-0.0 _ c.from_residual.ensures.1 (λ e. expressions_are _ _ _ ∙ missed _ (c.in_err-first.ensures e))

pub expressions-returns-then-not-is_comma : goal.expressions-returns-then-not-is_comma
expressions-returns-then-not-is_comma t c =
    let none : is_comma c.expression.new.cursor ≡ false = cc in
    expressions_are _ _ _ ∙ found _ c.in_ok-first.ensures ∙ unpicked _ _ none

pub expressions-returns-in_err-push : goal.expressions-returns-in_err-push
expressions-returns-in_err-push t c = runs_out _ _ _ c.from_residual-in_err-push.ensures.1

pub expressions-returns-in_err-parts : goal.expressions-returns-in_err-parts
expressions-returns-in_err-parts t c =
    let some : is_comma c.expression.new.cursor ≡ true = cc in
    refuses _ _ c.in_err-parts.field-0.0 _ c.from_residual-in_err-parts.ensures.1 (λ e. expressions_go _ _ _ _ _ _ _ c.in_ok-first.ensures some (c.in_ok-push.ensures ∙ ap (λ p. p ++ c.in_ok-first.first ∷ []) c.new-parts.ensures) c.len-turns.ensures ∙ missed _ (c.in_err-parts.ensures e))

pub expressions-returns : goal.expressions-returns
expressions-returns t c =
    let some : is_comma c.expression.new.cursor ≡ true = cc in
    gives_made expr_depth (node.Tuple _) _ _ _ (expressions_go _ _ _ _ _ _ _ c.in_ok-first.ensures some (c.in_ok-push.ensures ∙ ap (λ p. p ++ c.in_ok-first.first ∷ []) c.new-parts.ensures) c.len-turns.ensures ∙ found _ c.in_ok-parts.ensures) c.tuple.ensures

pub right_side-returns-in-None : goal.right_side-returns-in-None
right_side-returns-in-None t c = gives_by _ _ _ _ (right_side_goes _ _ _ _ c.in-None.ensures) c.expressions.ensures

pub right_side-leaf-requires : goal.right_side-leaf-requires
right_side-leaf-requires t c = depth_yield_none _

pub right_side-returns-then-not-starts : goal.right_side-returns-then-not-starts
right_side-returns-then-not-starts t c =
    let none : starts c.take_yield.new.self ≡ false = cc in
    right_side_is _ _ _ ∙ taken _ _ c.in-Some.ensures ∙ unpicked _ _ none ∙ ap (λ x. Some (x, c.take_yield.new.self)) (sym c.leaf.ensures)

pub right_side-returns-in_err-value-in-Some : goal.right_side-returns-in_err-value-in-Some
right_side-returns-in_err-value-in-Some t c =
    let some : starts c.take_yield.new.self ≡ true = cc in
    refuses _ _ c.in_err-value-in-Some.field-0.0 _ c.from_residual.ensures.1 (λ e. right_side_is _ _ _ ∙ taken _ _ c.in-Some.ensures ∙ picked _ _ some ∙ missed _ (c.in_err-value-in-Some.ensures e))

pub right_side-returns-in_ok-value-in-Some : goal.right_side-returns-in_ok-value-in-Some
right_side-returns-in_ok-value-in-Some t c =
    let some : starts c.take_yield.new.self ≡ true = cc in
    gives_made expr_depth (node.Yield _ (Some _)) _ _ _ (right_side_is _ _ _ ∙ taken _ _ c.in-Some.ensures ∙ picked _ _ some ∙ found _ c.in_ok-value-in-Some.ensures) c.yielded.ensures

pub atom-returns-in_err-found : goal.atom-returns-in_err-found
atom-returns-in_err-found t c = runs_out _ _ _ (memory_only _ _ c.from_residual.ensures.1 c.in_err-found.ensures)

pub atom-returns-in-Some : goal.atom-returns-in-Some
atom-returns-in-Some t c = atom_leaf _ _ _ _ _ (leaf_some _ _ _ _ c.in-Some.is c.in_ok-found.ensures)

pub atom-returns-in_err-expect : goal.atom-returns-in_err-expect
atom-returns-in_err-expect t c = refuses _ _ c.in_err-expect.field-0.0 _ c.from_residual-in_err-expect.ensures.1 (λ e. atom_group _ _ _ _ (leaf_no _ _ _ c.in_default.is c.in_ok-found.ensures) ∙ missed _ (c.in_err-expect.ensures e))

pub atom-returns : goal.atom-returns
atom-returns t c = gives_by _ _ _ _ (atom_group _ _ _ _ (leaf_no _ _ _ c.in_default.is c.in_ok-found.ensures) ∙ found _ c.in_ok-expect.ensures) c.group.ensures

pub group-returns-then-take : goal.group-returns-then-take
group-returns-then-take t c = group_is _ _ _ ∙ taken _ _ c.if-take.ensures.taken ∙ ap (λ x. Some (x, c.take.new.self)) (sym c.leaf.ensures)

pub group-returns-in_err-tree : goal.group-returns-in_err-tree
group-returns-in_err-tree t c = refuses _ _ c.in_err-tree.field-0.0 _ c.from_residual.ensures.1 (λ e. group_goes _ _ _ _ c.if-take.ensures.other ∙ missed _ (c.in_err-tree.ensures e))

pub group-returns-in_err-expect : goal.group-returns-in_err-expect
group-returns-in_err-expect t c = refuses _ _ c.in_err-expect.field-0.0 _ c.from_residual-in_err-expect.ensures.1 (λ e. group_goes _ _ _ _ c.if-take.ensures.other ∙ found _ c.in_ok-tree.ensures ∙ missed _ (c.in_err-expect.ensures e))

pub group-returns : goal.group-returns
group-returns t c = group_goes _ _ _ _ c.if-take.ensures.other ∙ found _ c.in_ok-tree.ensures ∙ found _ c.in_ok-expect.ensures
