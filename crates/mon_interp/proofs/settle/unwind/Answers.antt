use Rattle.std.proofs.Common.{refl}
use Rattle.mon_interp.proofs.Settling.{caught_adds}
use Rattle.mon_interp.proofs.settle.unwind.Goals as goal

pub returns-in_ok-catch-in-Some-clause-events : goal.returns-in_ok-catch-in-Some-clause-events
returns-in_ok-catch-in-Some-clause-events c = λ word. caught_adds c.args.program.now c.args.frames.now c.args.frames.now.calls c.args.exc c.top-top.result.now c.in-Some.handler
    (record { code = c.top-top.result.now.code; index = c.in-Some.handler.to; location = 0 }) word c.args.global c.args.events.now.items c.push_exception.new.events.items
    c.top-top.ensures c.in-Some.ensures (record { code = refl; index = refl }) (c.in_ok-push_exception-in-Some.ensures word)
