use Rattle.std.proofs.Common.{◌∙◌}
use Rattle.mon_forms.specs.Rows.{row_line}
use Rattle.mon_forms.proofs.Written.{one_more_of}
use Rattle.mon_forms.proofs.rows.write_rows.Goals as goal

pub loop-row-preserved : goal.loop-row-preserved
loop-row-preserved c = λ p names. one_more_of (row_line p c.args.line) c.args.rows.now _ _ _ _ c.loop-row-test.true c.row-item.is (c.in_ok-write_row.ensures p names) ∙ c.loop-row.invariant p names
