use Rattle.std.proofs.Common.{w64}
use Rattle.std.proofs.lemmas.Int.{to_z-of_z}
use Rattle.std.specs.Prelude.{FitsSigned}
use Rattle.mon_values.proofs.Verdicts.{same_ranges_from}
use Rattle.mon_values.proofs.compare.same_ranges.Goals as goal

pub returns : goal.returns
returns c =
    let a : FitsSigned w64 c.args.start = c.ranges.start in
    let b : FitsSigned w64 c.args.stop = c.ranges.stop in
    let s : FitsSigned w64 c.args.step = c.ranges.step in
    let d : FitsSigned w64 c.args.other_start = c.ranges.other_start in
    let e : FitsSigned w64 c.args.other_stop = c.ranges.other_stop in
    let t : FitsSigned w64 c.args.other_step = c.ranges.other_step in
    same_ranges_from c.args.start c.args.stop c.args.step c.args.other_start c.args.other_stop c.args.other_step _ _ _ _ _ c.same_items.ensures
    (simp to_z-of_z at c.range_len-count.ensures) (simp to_z-of_z at c.range_len-other_count.ensures) (simp to_z-of_z at c.same_integer.ensures) (simp to_z-of_z at c.same_integer-2.ensures)
