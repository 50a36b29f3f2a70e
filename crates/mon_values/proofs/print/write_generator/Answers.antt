use Rattle.std.proofs.Common.{codes, ◌++◌}
use Rattle.std.specs.Fmt.{decimal}
use Rattle.mon_values.proofs.Writing.{both, both_or}
use Rattle.mon_values.proofs.print.write_generator.Goals as goal

pub returns : goal.returns
returns c =
    let named = both _ _ _ (codes "<generator ") (decimal c.args.number) c.in_ok-append_ascii.ensures c.in_ok-write_unsigned.ensures in
    both_or c.append_ascii-2.result _ _ _ (codes "<generator " ++ decimal c.args.number) (codes ">") named c.append_ascii-2.ensures
