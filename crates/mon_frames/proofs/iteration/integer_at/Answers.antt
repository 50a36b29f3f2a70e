use Rattle.std.proofs.Common.{◌≡◌, ◌<◌, sym, subst, ap, ◌∙◌, w64, ℕ, ℤ, rules}
use Rattle.std.specs.Prelude.{Some, FitsSigned}
use Rattle.std.proofs.lemmas.Int.{to_z-of_z}
use Rattle.mon_values.specs.declared.value.Value.{Int}
use Rattle.mon_values.specs.Ranges.{range_length, range_item}
use Rattle.mon_frames.proofs.Ranges.{item_within, length_range}
use Rattle.mon_frames.proofs.iteration.integer_at.Goals as goal

pub range_item-requires : goal.range_item-requires
range_item-requires c =
    let a : FitsSigned w64 c.args.start = c.ranges.start in
    let b : FitsSigned w64 c.args.stop = c.ranges.stop in
    let s : FitsSigned w64 c.args.step = c.ranges.step in
    let count : ℕ = range_length c.args.start c.args.stop c.args.step in
    let within : c.args.place < count = subst (λ n. c.args.place < n) (length_range c.args.start c.args.step 0 count) c.requires in
    simp to_z-of_z within

pub returns : goal.returns
returns c =
    let a : FitsSigned w64 c.args.start = c.ranges.start in
    let b : FitsSigned w64 c.args.stop = c.ranges.stop in
    let s : FitsSigned w64 c.args.step = c.ranges.step in
    let r : FitsSigned w64 c.range_item.result = search rules in
    let count : ℕ = range_length c.args.start c.args.stop c.args.step in
    let item : c.range_item.result ≡ range_item c.args.start c.args.step c.args.place = simp to_z-of_z at c.range_item.ensures in
    let within : c.args.place < count = subst (λ n. c.args.place < n) (length_range c.args.start c.args.step 0 count) c.requires in
    ap (λ (z : ℤ). Some (Int z)) (to_z-of_z w64 c.range_item.result r ∙ item) ∙ sym (item_within c.args.start c.args.step count c.args.place within)
