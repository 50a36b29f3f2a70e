use Rattle.mon_interp.proofs.Listing.{thrown_in}
use Rattle.mon_interp.proofs.Results.{on_ok-then}
use Rattle.mon_interp.proofs.events.push_throw.Goals as goal

pub returns : goal.returns
returns c =
    on_ok-then c.push_exception-2.result
    (λ h word. thrown_in c.args.program.now c.args.exc.now c.args.frames.now.calls c.top.result.now c.place_of-place.result word c.args.global c.args.events.now.items c.push_exception.new.events.items c.push_exception-2.new.events.items
    c.top.ensures c.place_of-place.ensures (c.in_ok-push_exception.ensures word) (h word)) c.push_exception-2.ensures
