use Rattle.std.proofs.Common.{◌∙◌, ℕ, List, map, ap, sym, arith}
use Rattle.std.specs.Prelude.{sum}
use Rattle.mon_values.specs.Weights.{weight, left_of}
use Rattle.mon_trees.specs.declared.tree.Constant.{Constant}
use Rattle.mon_compile.specs.Modules.{constant_value}
use Rattle.mon_compile.proofs.Constants.{constant_nodes, light, spent, spent_one, spent_none, text_weight, tuple_weight}
use Rattle.mon_compile.proofs.Parts.{part_within}
use Rattle.mon_compile.proofs.large.+spend.Goals as goal

pub spend_all-spend-requires : goal.spend_all-spend-requires
spend_all-spend-requires t c = (omega (arith, part_within constant_nodes _ _ _ c.loop-constant-test.true c.constant-item.is, c.decreases), tt)

abbrev weights : List Constant → ℕ
weights parts = sum (map weight (map constant_value parts))

pub spend-returns-in-Integer : goal.spend-returns-in-Integer
spend-returns-in-Integer t c =
    spent c.checked_sub-in-Integer.result c.args.budget 1 c.checked_sub-in-Integer.ensures ∙ ap (λ w. left_of c.args.budget w) (sym (light c.args.constant.now c.in-Integer.is))

pub spend-returns-in-Text : goal.spend-returns-in-Text
spend-returns-in-Text t c =
    spent c.checked_sub.result c.args.budget c.max.result c.checked_sub.ensures
    ∙ ap (λ w. left_of c.args.budget w) (omega (arith, c.max.ensures, c.len.ensures, ap (λ (x : Constant). weight (constant_value x)) c.in-Text.is ∙ text_weight c.in-Text.text))

pub spend-returns-in_ok-checked_sub-in-Tuple : goal.spend-returns-in_ok-checked_sub-in-Tuple
spend-returns-in_ok-checked_sub-in-Tuple t c =
    let budget = c.args.budget in
    let parts = c.in-Tuple.parts in
    c.spend_all.ensures
    ∙ ap (λ l. left_of c.in_ok-checked_sub-in-Tuple.field-0 (weights l)) c.as_slice.ensures
    ∙ spent_one budget c.in_ok-checked_sub-in-Tuple.field-0 (weights parts) c.in_ok-checked_sub-in-Tuple.ensures.0 c.in_ok-checked_sub-in-Tuple.ensures.1
    ∙ ap (λ w. left_of budget w) (sym (ap (λ (x : Constant). weight (constant_value x)) c.in-Tuple.is ∙ tuple_weight parts))

pub spend-returns-in_err-checked_sub-in-Tuple : goal.spend-returns-in_err-checked_sub-in-Tuple
spend-returns-in_err-checked_sub-in-Tuple t c =
    let budget = c.args.budget in
    let parts = c.in-Tuple.parts in
    c.from_residual.ensures
    ∙ spent_none budget (weights parts) c.in_err-checked_sub-in-Tuple.ensures
    ∙ ap (λ w. left_of budget w) (sym (ap (λ (x : Constant). weight (constant_value x)) c.in-Tuple.is ∙ tuple_weight parts))
