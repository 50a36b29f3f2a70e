use Rattle.mon_values.proofs.Tables.{cut}
use Rattle.mon_values.proofs.trouble.cut_name.Goals as goal

pub returns : goal.returns
returns c = cut c.min.result 40 c.args.name.now c.min.ensures
