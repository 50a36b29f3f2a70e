use Rattle.mon_events.proofs.Constants.{local_yes, local_no}
use Rattle.mon_events.proofs.set.normal_local.Goals as goal

pub returns-then-normal : goal.returns-then-normal
returns-then-normal c = local_yes c.args.set c.normal-normal.result.0 c.normal-normal.ensures c.if-normal.true

pub returns-else-normal : goal.returns-else-normal
returns-else-normal c = local_no c.args.set c.normal-normal.result.0 c.normal-normal.ensures c.if-normal.false
