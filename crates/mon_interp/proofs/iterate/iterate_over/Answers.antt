use Rattle.mon_interp.proofs.Results.{if_ok-then}
use Rattle.mon_interp.proofs.Iterated.{iterated_pushes}
use Rattle.mon_interp.proofs.iterate.iterate_over.Goals as goal

pub returns-in-Ok : goal.returns-in-Ok
returns-in-Ok c = if_ok-then c.push_top.result (λ ending made f top. iterated_pushes c.args.frames.now c.iterate.new.self c.push_top.new.frames c.args.over c.in-Ok.value f ending c.in-Ok.ensures made top) c.push_top.ensures
