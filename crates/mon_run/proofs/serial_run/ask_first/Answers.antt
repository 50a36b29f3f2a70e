use Rattle.std.proofs.Common.{rules, ◌≡◌, ◌∙◌, suc, ◌+◌, slice_get, ap, sym, arith}
use Rattle.mon_run.proofs.Ordering.{next_first}
use Rattle.mon_run.proofs.Turning.{read_at}
use Rattle.mon_run.proofs.serial_run.ask_first.Goals as goal

pub loop-call-preserved : goal.loop-call-preserved
loop-call-preserved c = let e : c.loop-call.call-index + 1 ≡ suc c.loop-call.call-index = omega arith in record {
  holds = c.in_ok-ask.ensures.holds;
  world = next_first c.args.plan.now.before c.loop-call.call-index (c.loop-call.call-index + 1) c.call-item.result _ _ _ e
      (ap (λ xs. slice_get xs c.loop-call.call-index) (sym c.as_slice-call-items.ensures) ∙ read_at c.as_slice-call-items.result.now c.loop-call.call-index c.call-item.result c.loop-call-test.true c.call-item.is)
      c.loop-call.invariant.world c.in_ok-ask.ensures.world;
  few = (search rules);
}
