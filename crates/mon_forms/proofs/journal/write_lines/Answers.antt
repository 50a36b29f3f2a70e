use Rattle.std.proofs.Common.{◌∙◌}
use Rattle.mon_forms.specs.Reports.{journal_line}
use Rattle.mon_forms.proofs.Written.{one_more_of}
use Rattle.mon_forms.proofs.journal.write_lines.Goals as goal

pub loop-line-preserved : goal.loop-line-preserved
loop-line-preserved c = λ p names. one_more_of (journal_line p) c.args.lines.now _ _ _ _ c.loop-line-test.true c.line-item.is (c.in_ok-write_journal_line.ensures p names) ∙ c.loop-line.invariant p names
