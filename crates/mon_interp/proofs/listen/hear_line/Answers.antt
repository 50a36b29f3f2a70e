use Rattle.std.proofs.Common.{[]}
use Rattle.mon_interp.specs.Places.{standing}
use Rattle.mon_machine.specs.Events.{line_events}
use Rattle.mon_interp.proofs.Asking.{listed_part}
use Rattle.mon_interp.proofs.Results.{on_ok-then}
use Rattle.mon_interp.proofs.Hearing.{heard_line, heard_none, line_at_location, line_known, loads_line, loads_unheard}
use Rattle.mon_words.specs.History.{after}
use Rattle.mon_words.proofs.Growing.{grows_refl}
use Rattle.mon_interp.proofs.listen.hear_line.Goals as goal

pub returns-then-not-is_line_asked-clause-heard : goal.returns-then-not-is_line_asked-clause-heard
returns-then-not-is_line_asked-clause-heard g c =
    let a = g.H.Handle.told c.args.handle.now in
    let b = g.H.Handle.told c.retire_due.new.handle in
    heard_line c.args.step c.args.word c.args.place.location (standing c.args.place) c.args.line c.args.last [] a b c.args.records.now c.args.records.now c.args.disables.now c.args.disables.now
    c.requires.loaded (c.is_line_asked.ensures c.if-not-is_line_asked.true 0 c.args.place.location (standing c.args.place)) (heard_none c.args.step a b c.args.records.now c.args.disables.now c.retire_due.ensures.grows)

pub returns-then-not-is_line_asked-clause-loads : goal.returns-then-not-is_line_asked-clause-loads
returns-then-not-is_line_asked-clause-loads g c =
    loads_line c.args.word c.args.place.location (standing c.args.place) c.args.line c.args.last [] (g.H.Handle.told c.args.handle.now).tally.loads (g.H.Handle.told c.retire_due.new.handle).tally.loads
    (c.is_line_asked.ensures c.if-not-is_line_asked.true 0 c.args.place.location (standing c.args.place)) (loads_unheard c.args.word (g.H.Handle.told c.args.handle.now).tally.loads (g.H.Handle.told c.retire_due.new.handle).tally.loads c.retire_due.ensures.loaded)

pub hear_asked-requires-clause-here : goal.hear_asked-requires-clause-here
hear_asked-requires-clause-here g c =
    line_at_location c.args.word 0 c.args.place.location (standing c.args.place) c.args.line c.args.last c.as_slice.result.now
    (listed_part c.args.word 0 c.clear.new.self.items c.push_line.new.events.items c.as_slice.result.now (line_events (standing c.args.place) c.args.place.location c.args.line c.args.last) c.clear.ensures.items c.as_slice.ensures.value (c.in_ok-push_line.ensures 0))

pub returns-clause-heard : goal.returns-clause-heard
returns-clause-heard g c =
    let a = g.H.Handle.told c.args.handle.now in
    let part = listed_part c.args.word 0 c.clear.new.self.items c.push_line.new.events.items c.as_slice.result.now (line_events (standing c.args.place) c.args.place.location c.args.line c.args.last) c.clear.ensures.items c.as_slice.ensures.value (c.in_ok-push_line.ensures 0) in
    on_ok-then c.hear_asked.result (λ heard. heard_line c.args.step c.args.word c.args.place.location (standing c.args.place) c.args.line c.args.last c.as_slice.result.now a (g.H.Handle.told c.hear_asked.new.handle) c.args.records.now c.hear_asked.new.records c.args.disables.now c.hear_asked.new.disables
    c.requires.loaded part
    (heard a (record { grows = grows_refl a; word_is = c.requires.loaded; global_is = line_known c.args.word 0 c.args.place.location (standing c.args.place) c.args.line c.args.last c.as_slice.result.now (after a.first a.seen).global part }))) c.hear_asked.ensures.heard

pub returns-clause-loads : goal.returns-clause-loads
returns-clause-loads g c =
    let part = listed_part c.args.word 0 c.clear.new.self.items c.push_line.new.events.items c.as_slice.result.now (line_events (standing c.args.place) c.args.place.location c.args.line c.args.last) c.clear.ensures.items c.as_slice.ensures.value (c.in_ok-push_line.ensures 0) in
    on_ok-then c.hear_asked.result (λ r. loads_line c.args.word c.args.place.location (standing c.args.place) c.args.line c.args.last c.as_slice.result.now (g.H.Handle.told c.args.handle.now).tally.loads (g.H.Handle.told c.hear_asked.new.handle).tally.loads part c.hear_asked.ensures.loaded) c.hear_asked.ensures.retired
