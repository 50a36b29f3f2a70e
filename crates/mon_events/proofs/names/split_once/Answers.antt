use Rattle.mon_events.proofs.Splits.{around}
use Rattle.mon_events.proofs.names.split_once.Goals as goal

pub returns : goal.returns
returns c = around c.args.at c.args.text.now c.split_once.result c.split_once.ensures.cases c.requires
