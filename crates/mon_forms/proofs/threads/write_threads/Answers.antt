use Rattle.std.proofs.Common.{◌∙◌}
use Rattle.mon_forms.specs.Reports.{thread_text}
use Rattle.mon_forms.proofs.Written.{one_more}
use Rattle.mon_forms.proofs.threads.write_threads.Goals as goal

pub loop-number-preserved : goal.loop-number-preserved
loop-number-preserved c = one_more (thread_text c.args.program.now c.args.starts.now) c.args.threads.now _ _ _ _ c.loop-number-test.true c.index-threads-number.is c.in_ok-write_thread.ensures ∙ c.loop-number.invariant
