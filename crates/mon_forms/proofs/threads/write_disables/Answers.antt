use Rattle.std.proofs.Common.{◌∙◌}
use Rattle.mon_forms.specs.Reports.{disable_line}
use Rattle.mon_forms.proofs.Written.{one_more_of, same_default}
use Rattle.mon_forms.proofs.threads.write_disables.Goals as goal

pub loop-disabled-preserved : goal.loop-disabled-preserved
loop-disabled-preserved c = λ p names. one_more_of (disable_line p) c.args.disables.now _ _ _ _ c.loop-disabled-test.true (same_default c.args.disables.now _ _ _ c.loop-disabled-test.true) (c.in_ok-write_disable.ensures p names) ∙ c.loop-disabled.invariant p names
