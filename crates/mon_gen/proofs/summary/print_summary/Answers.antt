use Rattle.std.proofs.Common.{◌∙◌}
use Rattle.mon_forms.proofs.Written.{one_more}
use Rattle.mon_gen.specs.Summaries.{summary_line}
use Rattle.mon_gen.proofs.summary.print_summary.Goals as goal

pub loop-number-preserved : goal.loop-number-preserved
loop-number-preserved c = one_more (summary_line c.args.program.now) c.args.threads.now _ _ _ _ c.loop-number-test.true c.index-threads-number.is c.in_ok-write_thread.ensures ∙ c.loop-number.invariant
