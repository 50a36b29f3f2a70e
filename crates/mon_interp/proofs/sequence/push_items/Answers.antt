use Rattle.std.proofs.Common.{◌∙◌, sym, arith, ◌<◌}
use Rattle.mon_frames.specs.Items.{items_of, or_none}
use Rattle.mon_interp.proofs.Unpacking.{pushed_more}
use Rattle.mon_interp.proofs.sequence.push_items.Goals as goal

pub loop-left-preserved : goal.loop-left-preserved
loop-left-preserved c =
    let some : 0 < c.loop-left.left = omega (arith, c.loop-left-test.true) in
    record {
      within = omega (arith, c.loop-left.invariant.within);
      pushed = pushed_more (or_none (items_of c.args.whole.now)) c.args.stack.now c.loop-left.stack c.push.new.self c.loop-left.left c.in-Some.item some (sym c.in_ok-item.ensures ∙ c.in-Some.is) c.loop-left.invariant.pushed c.in_ok-push.ensures.ok;
    }
