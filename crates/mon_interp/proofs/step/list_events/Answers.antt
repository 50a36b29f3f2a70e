use Rattle.std.proofs.Common.{subst}
use Rattle.std.specs.Prelude.{Option, option_map}
use Rattle.mon_events.specs.declared.event.Event.{Event}
use Rattle.mon_machine.specs.Events.{slot_events, in_main}
use Rattle.mon_interp.specs.Asking.{Adds}
use Rattle.mon_interp.specs.Moving.{frames_move}
use Rattle.mon_interp.specs.Places.{standing}
use Rattle.mon_interp.specs.Shows.{going}
use Rattle.mon_interp.proofs.Results.{on_ok-then}
use Rattle.mon_interp.proofs.Listing.{listed}
use Rattle.mon_interp.proofs.step.list_events.Goals as goal

pub returns : goal.returns
returns c = on_ok-then c.push_raise.result (λ raised f is answered.
    let b = c.args.before.now in
    let place = standing b.place in
    listed c.args.program.now c.args.op c.args.location.argument c.args.word c.args.global c.args.location.line f b (frames_move c.args.frames.now c.args.done.now) c.in_ok-to.to
    c.args.events.now.items c.push_line.new.events.items c.push_instruction.new.events.items c.push_main.new.events.items c.push_ancillary.new.events.items c.push_raise.new.events.items
    is answered c.in_ok-to.ensures (c.in_ok-push_line.ensures c.args.global) (c.in_ok-push_instruction.ensures c.args.global)
    (λ s known. subst (λ (e : Option Event). Adds c.args.word c.args.global c.push_instruction.new.events.items c.push_main.new.events.items (slot_events (in_main e (option_map (going c.in_ok-to.to) s)) b.place.location place)) c.main_event-event.ensures
    (c.in_ok-push_main.ensures c.args.global s known))
    (c.in_ok-push_ancillary.ensures c.args.global) (raised c.args.word)) c.push_raise.ensures
