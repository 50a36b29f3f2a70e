use Rattle.std.proofs.Common.{codes, w64, ◌++◌}
use Rattle.std.specs.Prelude.{FitsSigned}
use Rattle.std.specs.Fmt.{signed_decimal}
use Rattle.std.proofs.lemmas.Int.{to_z-of_z}
use Rattle.mon_values.specs.Printing.{step_repr}
use Rattle.mon_values.proofs.Writing.{both, both_or}
use Rattle.mon_values.proofs.print.write_range.Goals as goal

pub returns : goal.returns
returns c =
    let start : FitsSigned w64 c.args.start = c.ranges.start in
    let stop : FitsSigned w64 c.args.stop = c.ranges.stop in
    let step : FitsSigned w64 c.args.step = c.ranges.step in
    let first = both _ _ _ (codes "range(") (signed_decimal c.args.start) c.in_ok-append_ascii.ensures (simp to_z-of_z at c.in_ok-write_signed.ensures) in
    let comma = both _ _ _ _ (codes ", ") first c.in_ok-append_ascii-2.ensures in
    let second = both _ _ _ _ (signed_decimal c.args.stop) comma (simp to_z-of_z at c.in_ok-write_signed-2.ensures) in
    let third = both _ _ _ _ (step_repr c.args.step) second (simp to_z-of_z at c.in_ok-write_step.ensures) in
    both_or c.append_ascii-3.result _ _ _ _ (codes ")") third c.append_ascii-3.ensures
