use Rattle.std.proofs.Common.{length, ap, arith}
use Rattle.mon_forms.proofs.Reading.{not_longer, read_faulty, read_more}
use Rattle.mon_forms.proofs.read.read_plan.Goals as goal

pub returns-in-Err-clause-plan : goal.returns-in-Err-clause-plan
returns-in-Err-clause-plan c =
    rw c.at_line.ensures
    (read_faulty c.args.program.now c.args.text.now c.loop-line.rest.now c.in-Some.line.now c.in-Some.more.now c.loop-line.number c.loop-line.draft c.take_line.new.self c.in-Err.fault (not_longer (length c.args.text.now) (omega arith)) c.loop-line.invariant.0 c.in-Some.ensures.0 c.in-Err.ensures.line)

pub loop-line-preserved : goal.loop-line-preserved
loop-line-preserved c = (
  read_more c.args.program.now c.args.text.now c.loop-line.rest.now c.in-Some.line.now c.in-Some.more.now c.loop-line.number c.in_default-take_line.field-0 c.loop-line.draft c.take_line.new.self c.loop-line.invariant.0 c.in-Some.ensures.0 c.in_default-take_line.ensures.line,
  omega (arith, ap length c.in-Some.ensures.0),
  omega (arith, c.in-Some.ensures.1),
  c.in_default-take_line.ensures.fits,
)
