use Rattle.mon_interp.proofs.Settling.{raised_at}
use Rattle.mon_interp.proofs.settle.raise_in_top.Goals as goal

pub returns-clause-events : goal.returns-clause-events
returns-clause-events c = λ word f top.
    raised_at c.args.program.now c.args.frames.now.calls c.args.exc f c.top.result.now c.place_of-place.result word c.args.global c.args.events.now.items c.push_exception.new.events.items
    top c.top.ensures c.place_of-place.ensures (c.in_ok-push_exception.ensures word)
