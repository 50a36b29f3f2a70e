use Rattle.mon_interp.proofs.Results.{if_ok-then}
use Rattle.mon_interp.proofs.Iterated.{next_pushes}
use Rattle.mon_interp.proofs.iterate.push_next.Goals as goal

pub returns : goal.returns
returns c = if_ok-then c.push_top.result (λ ending made f top. next_pushes c.args.frames.now c.next_item.new.self c.push_top.new.frames c.args.iterator c.in_ok-item.item c.or_done.result f ending c.in_ok-item.ensures.0 c.in_ok-item.ensures.1 c.or_done.ensures made top) c.push_top.ensures
