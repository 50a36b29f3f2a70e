use Rattle.mon_events.proofs.Constants.{global_yes, global_no}
use Rattle.mon_events.proofs.set.normal_global.Goals as goal

pub returns-then-normal : goal.returns-then-normal
returns-then-normal c = global_yes c.args.set c.normal-normal.result.0 c.normal-normal.ensures c.if-normal.true

pub returns-else-normal : goal.returns-else-normal
returns-else-normal c = global_no c.args.set c.normal-normal.result.0 c.normal-normal.ensures c.if-normal.false
