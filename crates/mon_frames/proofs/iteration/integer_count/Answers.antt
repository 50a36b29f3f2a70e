use Rattle.std.proofs.Common.{◌≡◌, ◌∙◌, sym, w64, ℕ}
use Rattle.std.specs.Prelude.{FitsSigned}
use Rattle.std.proofs.lemmas.Int.{to_z-of_z}
use Rattle.mon_values.specs.Ranges.{range_length}
use Rattle.mon_frames.proofs.Ranges.{length_range}
use Rattle.mon_frames.proofs.iteration.integer_count.Goals as goal

pub returns : goal.returns
returns c =
    let a : FitsSigned w64 c.args.start = c.ranges.start in
    let b : FitsSigned w64 c.args.stop = c.ranges.stop in
    let s : FitsSigned w64 c.args.step = c.ranges.step in
    let count : ℕ = range_length c.args.start c.args.stop c.args.step in
    let counted : c.range_len.result ≡ count = simp to_z-of_z at c.range_len.ensures in
    counted ∙ sym (length_range c.args.start c.args.step 0 count)
