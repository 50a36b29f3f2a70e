use Rattle.std.proofs.Common.{arith, w64, rules}
use Rattle.std.specs.Prelude.{FitsSigned}
use Rattle.mon_values.proofs.Places.{item_is}
use Rattle.mon_values.proofs.range.range_item.Goals as goal

pub returns : goal.returns
returns c =
    let fits : FitsSigned w64 c.cast_signed.result = search rules in
    item_is c.args.start c.args.stop c.args.step c.cast_signed.result c.args.place c.ranges.start c.ranges.stop c.ranges.step fits (omega arith) c.requires c.cast_signed.ensures
