use Rattle.std.proofs.Common.{rules, ◌≡◌, ◌∙◌, suc, ◌+◌, slice_get, ap, sym, arith}
use Rattle.mon_run.proofs.Ordering.{next_move}
use Rattle.mon_run.proofs.Turning.{read_at}
use Rattle.mon_run.proofs.serial_run.follow_schedule.Goals as goal

pub loop-one-preserved : goal.loop-one-preserved
loop-one-preserved c = let e : c.loop-one.one-index + 1 ≡ suc c.loop-one.one-index = omega arith in record {
  holds = c.in_ok-make_move.ensures.holds;
  world = next_move c.args.program.now c.args.plan.now c.args.schedule.now c.loop-one.one-index (c.loop-one.one-index + 1) _ _ _ _ e
      (ap (λ xs. slice_get xs c.loop-one.one-index) (sym c.as_slice-one-items.ensures) ∙ read_at c.as_slice-one-items.result.now c.loop-one.one-index _ c.loop-one-test.true (search rules))
      c.loop-one.invariant.world c.in_ok-make_move.ensures.world;
  few = c.in_ok-make_move.ensures.few;
}
