use Rattle.std.proofs.Common.{rules, ◌≡◌, suc, ◌+◌, arith}
use Rattle.mon_run.proofs.Ordering.{next_thread}
use Rattle.mon_run.proofs.Moving.{done_more, done_all}
use Rattle.mon_run.proofs.serial_run.finish_threads.Goals as goal

pub loop-number-preserved : goal.loop-number-preserved
loop-number-preserved c = let e : c.loop-number.number + 1 ≡ suc c.loop-number.number = omega arith in record {
  holds = c.in_ok-take_turn.ensures.holds;
  world = next_thread c.args.program.now c.args.plan.now c.loop-number.number (c.loop-number.number + 1) _ _ _ e (search rules) c.loop-number.invariant.world c.in_ok-take_turn.ensures.world;
  done = done_more c.args.plan.now.steps c.loop-number.number (c.loop-number.number + 1) _ _ e c.loop-number.invariant.done (c.in_ok-take_turn.ensures.done (search rules)) c.in_ok-take_turn.ensures.others;
}

pub returns-clause-done : goal.returns-clause-done
returns-clause-done c = done_all c.args.plan.now.steps c.loop-number.number _ (search rules) c.loop-number.invariant.done
