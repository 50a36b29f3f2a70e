use Rattle.std.proofs.Common.{rules}
use Rattle.mon_frames.specs.Views.{without_top}
use Rattle.mon_interp.proofs.Results.{on_ok-then}
use Rattle.mon_interp.proofs.Settling.{left_raised}
use Rattle.mon_interp.proofs.settle.leave_raised.Goals as goal

pub returns-clause-events : goal.returns-clause-events
returns-clause-events c =
    on_ok-then c.go_out.result
    (λ out word f origin top is. left_raised c.args.program.now c.args.frames.now (without_top c.args.frames.now) c.args.exc f c.pop-left.result origin c.origin-origin.result c.place_of-place.result word c.args.global c.args.events.now.items c.push_exception.new.events.items c.go_out.new.events.items
    (search rules) top (search rules) is c.place_of-place.ensures (search rules) (c.in_ok-push_exception.ensures word) (search rules)) c.go_out.ensures.events
