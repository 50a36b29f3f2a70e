use Rattle.std.proofs.Common.{◌∙◌}
use Rattle.mon_events.specs.Sets.{is_global_set}
use Rattle.mon_control.proofs.Taken.{is_taken}
use Rattle.mon_control.proofs.sets.is_global.Goals as goal

pub returns : goal.returns
returns c = c.is_ok.ensures.value ∙ is_taken (is_global_set c.args.set.0) c.args.set c.normal_global.result c.normal_global.ensures
