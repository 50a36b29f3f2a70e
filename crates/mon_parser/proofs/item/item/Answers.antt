use Rattle.std.proofs.Common.{◌∙◌, arith}
use Rattle.mon_parser.proofs.Giving.{refuses, runs_out}
use Rattle.mon_parser.proofs.ItemSteps.{is_def, is_named, is_text, no_assign, no_value, no_end, reads_constant, too_deep, no_text, no_line, reads_text}
use Rattle.mon_parser.proofs.item.item.Goals as goal

pub returns-then-take : goal.returns-then-take
returns-then-take c = is_def _ _ _ _ _ _ _ c.if-take.ensures.taken c.line-line.ensures c.function.ensures

pub returns-in_err-name : goal.returns-in_err-name
returns-in_err-name c = runs_out _ _ _ c.from_residual.ensures.1

pub returns-in_err-expect : goal.returns-in_err-expect
returns-in_err-expect c = refuses _ _ c.in_err-expect.field-0.0 _ c.from_residual-in_err-expect.ensures.1 (λ e. no_assign _ _ _ _ _ (is_named _ _ _ _ _ c.if-take.ensures.other c.in-Some.ensures) (c.in_err-expect.ensures e))

pub returns-in_err-value : goal.returns-in_err-value
returns-in_err-value c = refuses _ _ c.in_err-value.field-0.0 _ c.from_residual-in_err-value.ensures.1 (λ e. no_value _ _ _ _ _ _ _ (is_named _ _ _ _ _ c.if-take.ensures.other c.in-Some.ensures) c.in_ok-expect.ensures (c.in_err-value.ensures e))

pub returns-in_err-expect-2 : goal.returns-in_err-expect-2
returns-in_err-expect-2 c = refuses _ _ c.in_err-expect-2.field-0.0 _ c.from_residual-in_err-expect-2.ensures.1 (λ e. no_end _ _ _ _ _ _ _ _ _ (is_named _ _ _ _ _ c.if-take.ensures.other c.in-Some.ensures) c.in_ok-expect.ensures c.in_ok-value.ensures (c.in_err-expect-2.ensures e))

pub returns-then-depth-lt-MOST_NODES : goal.returns-then-depth-lt-MOST_NODES
returns-then-depth-lt-MOST_NODES c =
    reads_constant _ _ _ _ _ _ _ _ _ _ _ _ _ _ (is_named _ _ _ _ _ c.if-take.ensures.other c.in-Some.ensures) c.in_ok-expect.ensures c.in_ok-value.ensures c.in_ok-expect-2.ensures (omega (arith, c.depth.ensures, c.if-depth-lt-MOST_NODES.true))
    c.line-line.ensures (c.in_ok-name.ensures ∙ c.as_slice.ensures) c.into_tree.ensures

pub returns-in-Some : goal.returns-in-Some
returns-in-Some c = λ e. too_deep _ _ _ _ _ _ _ _ _ _ _ (is_named _ _ _ _ _ c.if-take.ensures.other c.in-Some.ensures) c.in_ok-expect.ensures c.in_ok-value.ensures c.in_ok-expect-2.ensures (omega (arith, c.depth.ensures, c.if-depth-lt-MOST_NODES.false))

pub returns-in-None : goal.returns-in-None
returns-in-None c = λ e. no_text _ _ (is_text _ _ _ _ c.if-take.ensures.other c.in_default.ensures) c.in-None.ensures.0

pub returns-in_err-text-in-Some-take_text : goal.returns-in_err-text-in-Some-take_text
returns-in_err-text-in-Some-take_text c = runs_out _ _ _ c.from_residual-in_err-text-in-Some-take_text.ensures.1

pub returns-in_err-expect-3 : goal.returns-in_err-expect-3
returns-in_err-expect-3 c = refuses _ _ c.in_err-expect-3.field-0.0 _ c.from_residual-in_err-expect-3.ensures.1 (λ e. no_line _ _ _ _ _ _ (is_text _ _ _ _ c.if-take.ensures.other c.in_default.ensures) c.in-Some-take_text.ensures c.in_ok-text-in-Some-take_text.ensures (c.in_err-expect-3.ensures e))

pub returns : goal.returns
returns c = reads_text _ _ _ _ _ _ _ _ (is_text _ _ _ _ c.if-take.ensures.other c.in_default.ensures) c.in-Some-take_text.ensures c.in_ok-text-in-Some-take_text.ensures c.in_ok-expect-3.ensures
