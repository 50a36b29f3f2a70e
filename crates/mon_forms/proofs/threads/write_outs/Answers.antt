use Rattle.std.proofs.Common.{◌∙◌}
use Rattle.mon_forms.specs.Reports.{out_line}
use Rattle.mon_forms.proofs.Written.{one_more_of}
use Rattle.mon_forms.proofs.threads.write_outs.Goals as goal

pub loop-text-preserved : goal.loop-text-preserved
loop-text-preserved c = one_more_of (out_line c.args.program.now) c.args.printed.now _ _ _ _ c.loop-text-test.true c.text-item.is c.in_ok-write_out.ensures ∙ c.loop-text.invariant
