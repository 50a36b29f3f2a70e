use Rattle.std.proofs.Common.{◌≡◌, suc, ◌+◌, sym, arith}
use Rattle.mon_run.proofs.Ordering.{next_script}
use Rattle.mon_run.proofs.serial_run.finish_scripts.Goals as goal

pub loop-number-preserved : goal.loop-number-preserved
loop-number-preserved c = let e : c.loop-number.number + 1 ≡ suc c.loop-number.number = omega arith in record {
  holds = c.in_ok-finish_script.ensures.holds;
  world = next_script c.args.program.now c.args.plan.now c.loop-number.number (c.loop-number.number + 1) c.len.result c.in-Some.script.now _ _ _ e c.len.ensures (sym c.in-Some.ensures.value) c.loop-number.invariant.world c.in_ok-finish_script.ensures.world;
  few = c.in_ok-finish_script.ensures.few;
}
