use Rattle.std.proofs.Common.{◌∙◌}
use Rattle.mon_forms.specs.Rows.{report_rows}
use Rattle.mon_forms.proofs.Written.{one_more_of, same_default}
use Rattle.mon_forms.proofs.rows.write_reports.Goals as goal

pub loop-line-preserved : goal.loop-line-preserved
loop-line-preserved c = λ p names. one_more_of (report_rows p c.args.threads.now) c.args.asked.now _ _ _ _ c.loop-line-test.true (same_default c.args.asked.now _ _ _ c.loop-line-test.true) (c.in_ok-write_report.ensures p names) ∙ c.loop-line.invariant p names
