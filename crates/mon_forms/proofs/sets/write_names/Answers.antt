use Rattle.std.proofs.Common.{◌∙◌}
use Rattle.mon_events.specs.Events.{all_events}
use Rattle.mon_forms.proofs.Joins.{one_member}
use Rattle.mon_forms.proofs.Written.{same_default}
use Rattle.mon_forms.proofs.sets.write_names.Goals as goal

pub loop-event-preserved : goal.loop-event-preserved
loop-event-preserved c = one_member c.args.set.0 all_events _ _ _ _ _ _ c.loop-event-test.true (same_default all_events _ _ _ c.loop-event-test.true) c.in_ok-is_first.ensures.next c.in_ok-is_first.ensures.text ∙ c.loop-event.invariant
