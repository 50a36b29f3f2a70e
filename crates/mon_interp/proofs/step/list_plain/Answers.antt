use Rattle.mon_machine.specs.Events.{line_events, raise_events}
use Rattle.mon_interp.specs.Places.{standing}
use Rattle.mon_interp.proofs.Asking.{adds_more}
use Rattle.mon_interp.proofs.Results.{on_ok-then}
use Rattle.mon_interp.proofs.step.list_plain.Goals as goal

pub returns : goal.returns
returns c = on_ok-then c.push_raise.result (λ raised. adds_more c.args.word c.args.global c.args.events.now.items c.push_line.new.events.items c.push_raise.new.events.items
    (line_events (standing c.args.place) c.args.place.location c.args.line c.args.last) (raise_events c.args.program.now (standing c.args.place) c.args.frames.now.calls c.args.ending.now) (c.in_ok-push_line.ensures c.args.global) (raised c.args.word)) c.push_raise.ensures
