use Rattle.std.proofs.Common.{◌≡◌, ◌++◌, ◌∷◌, [], sym, ap, ◌∙◌, rules, arith, FitsSigned, w64, false, true}
use Rattle.std.proofs.lemmas.Int.{to_z-of_z}
use Rattle.mon_parser.specs.Reader.{is_comma}
use Rattle.mon_trees.specs.declared.tree.Constant as const
use Rattle.mon_trees.specs.declared.tree.Constant.TheViews as consts
use Rattle.mon_parser.specs.Depth.{const_depth}
use Rattle.mon_parser.specs.ItemReadings.{further_from}
use Rattle.mon_parser.proofs.Giving.{refuses, runs_out, gives_made, goes_on, stops_there}
use Rattle.mon_parser.proofs.ConstantSteps.{depth_integer, depth_text, depth_single, depth_empty, constant_zero, at_number, at_text, at_minus, at_bracket, at_group, no_bracket, reads_single, reads_number, reads_text, reads_negative, no_number, reads_empty, at_inner, no_inner, not_closed, reads_group, not_negative, negated_fits, negated, no_first, reads_one, at_further, none_turned, further_last, further_none, further_ended, further_missing, further_more}
use Rattle.mon_parser.proofs.constant.+constant.Goals as goal

pub constant-returns-then-brackets-eq0 : goal.constant-returns-then-brackets-eq0
constant-returns-then-brackets-eq0 t c = λ e. constant_zero _ _ c.if-brackets-eq0.true

pub constant-leaf-requires : goal.constant-leaf-requires
constant-leaf-requires t c = depth_single _

pub constant-returns-in-Some : goal.constant-returns-in-Some
constant-returns-in-Some t c = reads_single _ _ _ _ _ c.if-brackets-eq0.false c.in-Some.ensures c.leaf.ensures

pub constant-leaf-requires-in-Some-take_number : goal.constant-leaf-requires-in-Some-take_number
constant-leaf-requires-in-Some-take_number t c = depth_integer _

pub constant-returns-in-Some-take_number : goal.constant-returns-in-Some-take_number
constant-returns-in-Some-take_number t c =
    let fits : FitsSigned w64 c.in-Some-take_number.value = search rules in
    reads_number _ _ _ _ _ _ (at_number _ _ _ c.if-brackets-eq0.false c.in_default.ensures) c.in-Some-take_number.ensures (c.leaf-in-Some-take_number.ensures ∙ ap (λ z. const.Integer z) (to_z-of_z w64 c.in-Some-take_number.value fits))

pub constant-returns-in_err-texts : goal.constant-returns-in_err-texts
constant-returns-in_err-texts t c = runs_out _ _ _ c.from_residual.ensures.1

pub constant-leaf-requires-in-Some-take_text : goal.constant-leaf-requires-in-Some-take_text
constant-leaf-requires-in-Some-take_text t c = depth_text _

pub constant-returns-in-Some-take_text : goal.constant-returns-in-Some-take_text
constant-returns-in-Some-take_text t c =
    reads_text _ _ _ _ _ _ _ _ (at_text _ _ _ _ (at_number _ _ _ c.if-brackets-eq0.false c.in_default.ensures) c.in_default-take_number.ensures) c.in-Some-take_text.ensures c.in_ok-texts.ensures c.leaf-in-Some-take_text.ensures

pub constant-returns-in_err-value : goal.constant-returns-in_err-value
constant-returns-in_err-value t c =
    refuses _ _ c.in_err-value.field-0.0 _ c.from_residual-in_err-value.ensures.1
    (λ e. no_number _ _ _ _ _ (at_minus _ _ _ _ (at_text _ _ _ _ (at_number _ _ _ c.if-brackets-eq0.false c.in_default.ensures) c.in_default-take_number.ensures) c.in_default-take_text.ensures) c.if-take.ensures.taken (c.in_err-value.ensures e))

pub constant-overflow_sub-value : goal.constant-overflow_sub-value
constant-overflow_sub-value t c =
    let fits : FitsSigned w64 c.in_ok-value.value = search rules in
    negated_fits c.in_ok-value.value fits (not_negative _ _ _ c.in_ok-value.ensures)

pub constant-leaf-requires-then-take : goal.constant-leaf-requires-then-take
constant-leaf-requires-then-take t c = depth_integer _

pub constant-returns-then-take : goal.constant-returns-then-take
constant-returns-then-take t c =
    let fits : FitsSigned w64 c.in_ok-value.value = search rules in
    reads_negative _ _ _ _ _ _ _ _ (at_minus _ _ _ _ (at_text _ _ _ _ (at_number _ _ _ c.if-brackets-eq0.false c.in_default.ensures) c.in_default-take_number.ensures) c.in_default-take_text.ensures) c.if-take.ensures.taken c.in_ok-value.ensures
    (c.leaf-then-take.ensures ∙ ap (λ z. const.Integer z) (negated c.in_ok-value.value fits (not_negative _ _ _ c.in_ok-value.ensures)))

pub constant-returns-in_err-expect : goal.constant-returns-in_err-expect
constant-returns-in_err-expect t c =
    refuses _ _ c.in_err-expect.field-0.0 _ c.from_residual-in_err-expect.ensures.1
    (λ e. no_bracket _ _ _ (at_bracket _ _ _ _ (at_minus _ _ _ _ (at_text _ _ _ _ (at_number _ _ _ c.if-brackets-eq0.false c.in_default.ensures) c.in_default-take_number.ensures) c.in_default-take_text.ensures) c.if-take.ensures.other) (c.in_err-expect.ensures e))

pub constant-leaf-requires-then-take-2 : goal.constant-leaf-requires-then-take-2
constant-leaf-requires-then-take-2 t c = depth_empty

pub constant-returns-then-take-2 : goal.constant-returns-then-take-2
constant-returns-then-take-2 t c =
    reads_empty _ _ _ _ _ _ (at_group _ _ _ _ _ (at_bracket _ _ _ _ (at_minus _ _ _ _ (at_text _ _ _ _ (at_number _ _ _ c.if-brackets-eq0.false c.in_default.ensures) c.in_default-take_number.ensures) c.in_default-take_text.ensures) c.if-take.ensures.other) c.in_ok-expect.ensures)
    c.if-take-2.ensures.taken c.leaf-then-take-2.ensures

pub constant-returns-in_err-tree : goal.constant-returns-in_err-tree
constant-returns-in_err-tree t c =
    refuses _ _ c.in_err-tree.field-0.0 _ c.from_residual-in_err-tree.ensures.1
    (λ e. no_inner _ _ _ (at_inner _ _ _ _ (at_group _ _ _ _ _ (at_bracket _ _ _ _ (at_minus _ _ _ _ (at_text _ _ _ _ (at_number _ _ _ c.if-brackets-eq0.false c.in_default.ensures) c.in_default-take_number.ensures) c.in_default-take_text.ensures) c.if-take.ensures.other) c.in_ok-expect.ensures) c.if-take-2.ensures.other) (c.in_err-tree.ensures e))

pub constant-returns-in_err-expect-2 : goal.constant-returns-in_err-expect-2
constant-returns-in_err-expect-2 t c =
    refuses _ _ c.in_err-expect-2.field-0.0 _ c.from_residual-in_err-expect-2.ensures.1
    (λ e. not_closed _ _ _ _ _ (at_inner _ _ _ _ (at_group _ _ _ _ _ (at_bracket _ _ _ _ (at_minus _ _ _ _ (at_text _ _ _ _ (at_number _ _ _ c.if-brackets-eq0.false c.in_default.ensures) c.in_default-take_number.ensures) c.in_default-take_text.ensures) c.if-take.ensures.other) c.in_ok-expect.ensures) c.if-take-2.ensures.other) c.in_ok-tree.ensures (c.in_err-expect-2.ensures e))

pub constant-returns : goal.constant-returns
constant-returns t c =
    reads_group _ _ _ _ _ _ _ (at_inner _ _ _ _ (at_group _ _ _ _ _ (at_bracket _ _ _ _ (at_minus _ _ _ _ (at_text _ _ _ _ (at_number _ _ _ c.if-brackets-eq0.false c.in_default.ensures) c.in_default-take_number.ensures) c.in_default-take_text.ensures) c.if-take.ensures.other) c.in_ok-expect.ensures) c.if-take-2.ensures.other)
    c.in_ok-tree.ensures c.in_ok-expect-2.ensures

pub constants-returns-in_err-first : goal.constants-returns-in_err-first
constants-returns-in_err-first t c = refuses _ _ c.in_err-first.field-0.0 _ c.from_residual.ensures.1 (λ e. no_first _ _ (c.in_err-first.ensures e))

pub constants-returns-then-not-is_comma : goal.constants-returns-then-not-is_comma
constants-returns-then-not-is_comma t c =
    let none : is_comma c.constant.new.cursor ≡ false = cc in
    reads_one _ _ _ _ c.in_ok-first.ensures none

pub constants-returns-in_err-push : goal.constants-returns-in_err-push
constants-returns-in_err-push t c = runs_out _ _ _ c.from_residual-in_err-push.ensures.1

pub constants-returns-in_err-further_constants : goal.constants-returns-in_err-further_constants
constants-returns-in_err-further_constants t c =
    let some : is_comma c.constant.new.cursor ≡ true = cc in
    refuses _ _ c.in_err-further_constants.field-0.0 _ c.from_residual-in_err-further_constants.ensures.1
    (λ e. stops_there _ _ _ (at_further _ _ _ _ _ c.in_ok-first.ensures some (c.in_ok-push.ensures ∙ ap (λ p. p ++ c.in_ok-first.first ∷ []) c.new-parts.ensures)) (c.in_err-further_constants.ensures e))

pub constants-returns : goal.constants-returns
constants-returns t c =
    let some : is_comma c.constant.new.cursor ≡ true = cc in
    gives_made const_depth (consts.Tuple _) _ _ _
    (goes_on _ _ _ _ _ (at_further _ _ _ _ _ c.in_ok-first.ensures some (c.in_ok-push.ensures ∙ ap (λ p. p ++ c.in_ok-first.first ∷ []) c.new-parts.ensures)) c.in_ok-further_constants.ensures) c.tuple.ensures

pub further_constants-loop-turn-init : goal.further_constants-loop-turn-init
further_constants-loop-turn-init t c = none_turned _ _ _ _

pub further_constants-returns-in_err-part : goal.further_constants-returns-in_err-part
further_constants-returns-in_err-part t c =
    refuses _ _ c.in_err-part.field-0.0 _ c.from_residual.ensures.1
    (λ e. ap (λ n. further_from c.args.brackets c.args.parts n c.args.cursor.now) (sym c.len-turns.ensures) ∙ c.loop-turn.invariant ∙ further_missing _ _ _ _ _ _ _ c.loop-turn-test.true c.if-not-take.ensures.taken (cc) (c.in_err-part.ensures e))

pub further_constants-returns-in_err-push : goal.further_constants-returns-in_err-push
further_constants-returns-in_err-push t c = runs_out _ _ _ c.from_residual-in_err-push.ensures.1

pub further_constants-loop-turn-preserved : goal.further_constants-loop-turn-preserved
further_constants-loop-turn-preserved t c = c.loop-turn.invariant ∙ further_more _ _ _ _ _ _ _ _ _ _ c.loop-turn-test.true c.if-not-take.ensures.taken (cc) c.in_ok-part.ensures c.in_ok-push.ensures

pub further_constants-returns : goal.further_constants-returns
further_constants-returns t c = ap (λ n. further_from c.args.brackets c.args.parts n c.args.cursor.now) (sym c.len-turns.ensures) ∙ c.loop-turn.invariant ∙ further_last _ _ _ _ _ (omega (arith, c.loop-turn-test.false))

pub further_constants-returns-then-not-take : goal.further_constants-returns-then-not-take
further_constants-returns-then-not-take t c = ap (λ n. further_from c.args.brackets c.args.parts n c.args.cursor.now) (sym c.len-turns.ensures) ∙ c.loop-turn.invariant ∙ further_none _ _ _ _ _ _ c.loop-turn-test.true c.if-not-take.ensures.other

pub further_constants-returns-then-not-starts_constant : goal.further_constants-returns-then-not-starts_constant
further_constants-returns-then-not-starts_constant t c = ap (λ n. further_from c.args.brackets c.args.parts n c.args.cursor.now) (sym c.len-turns.ensures) ∙ c.loop-turn.invariant ∙ further_ended _ _ _ _ _ _ _ c.loop-turn-test.true c.if-not-take.ensures.taken (cc)
