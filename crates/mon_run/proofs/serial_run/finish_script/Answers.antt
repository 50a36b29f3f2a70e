use Rattle.std.proofs.Common.{◌≡◌, suc, ◌+◌, arith}
use Rattle.mon_run.proofs.Ordering.{next_again}
use Rattle.mon_run.proofs.serial_run.finish_script.Goals as goal

pub loop-call-preserved : goal.loop-call-preserved
loop-call-preserved c = let e : c.loop-call._call + 1 ≡ suc c.loop-call._call = omega arith in record {
  holds = c.in_ok-ask_next.ensures.holds;
  world = next_again c.args.program.now c.args.plan.now c.args.number c.loop-call._call (c.loop-call._call + 1) _ _ _ e c.loop-call.invariant.world c.in_ok-ask_next.ensures.world;
  few = c.in_ok-ask_next.ensures.few;
}
