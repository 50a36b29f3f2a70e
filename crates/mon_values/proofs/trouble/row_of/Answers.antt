use Rattle.std.proofs.Common.{arith, sym}
use Rattle.mon_values.proofs.Tables.{no_row}
use Rattle.mon_values.proofs.trouble.row_of.Goals as goal

pub returns-in-26-to-255 : goal.returns-in-26-to-255
returns-in-26-to-255 c = sym (no_row c.args.trouble (omega arith))
