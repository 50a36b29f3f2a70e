use Rattle.std.proofs.Common.{◌≡◌, ◌∙◌, ap, arith, w64, ℕ}
use Rattle.std.specs.Prelude.{FitsSigned}
use Rattle.std.proofs.lemmas.Int.{to_z-of_z}
use Rattle.mon_values.specs.declared.value.Value.{Tuple}
use Rattle.mon_values.specs.Ranges.{range_length}
use Rattle.mon_frames.specs.Items.{range_items}
use Rattle.mon_builtins.proofs.Sequences as sequences
use Rattle.mon_builtins.proofs.sequence.tuple_of_range.Goals as goal

pub returns-then-count : goal.returns-then-count
returns-then-count c =
    let a : FitsSigned w64 c.args.start = c.ranges.start in
    let b : FitsSigned w64 c.args.stop = c.ranges.stop in
    let s : FitsSigned w64 c.args.step = c.ranges.step in
    let n : ℕ = range_length c.args.start c.args.stop c.args.step in
    let counted : c.range_len-count.result ≡ n = simp to_z-of_z at c.range_len-count.ensures in
    sequences.refused (sequences.range_heavy c.args.start c.args.step n (omega (arith, counted, c.if-count.true)))

pub returns : goal.returns
returns c =
    let a : FitsSigned w64 c.args.start = c.ranges.start in
    let b : FitsSigned w64 c.args.stop = c.ranges.stop in
    let s : FitsSigned w64 c.args.step = c.ranges.step in
    let n : ℕ = range_length c.args.start c.args.stop c.args.step in
    let counted : c.range_len-count.result ≡ n = simp to_z-of_z at c.range_len-count.ensures in
    let items : c.in_ok-items_of_range.field-0 ≡ range_items c.args.start c.args.step 0 c.range_len-count.result = simp to_z-of_z at c.in_ok-items_of_range.ensures in
    sequences.given (sequences.range_made c.args.start c.args.step n (omega (arith, counted, c.if-count.false))) (ap Tuple (items ∙ ap (λ k. range_items c.args.start c.args.step 0 k) counted))
