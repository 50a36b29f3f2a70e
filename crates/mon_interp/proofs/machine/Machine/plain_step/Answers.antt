use Rattle.std.proofs.Common.{◌≡◌, ◌+◌, ◌++◌, ◌∷◌, cond, List, [], refl, sym, ap, ◌∙◌, subst, append_assoc, append-nil, Option, ℕ}
use Rattle.std.proofs.lemmas.Option.{same_Some}
use Rattle.mon_words.specs.History.{after}
use Rattle.mon_words.specs.declared.tally.Load.{Load}
use Rattle.mon_words.proofs.Growing.{grows_trans}
use Rattle.mon_frames.specs.declared.frame.Frame.{Frame}
use Rattle.mon_frames.specs.declared.call.Call.{Call}
use Rattle.mon_recorders.specs.declared.happening.Happening.{Happening}
use Rattle.mon_hear.specs.Words.{IsAskedPart, callback_loads}
use Rattle.mon_hear.proofs.Parting.{part_none}
use Rattle.mon_hear.proofs.Steps.{retiring_from}
use Rattle.mon_machine.specs.declared.mode.Mode.{Mode}
use Rattle.mon_machine.specs.declared.mode.Ending.{Ending}
use Rattle.mon_machine.specs.State.{State, Move, moved}
use Rattle.mon_machine.specs.Events.{line_events, raise_events, instruction_events}
use Rattle.mon_interp.specs.Places.{standing}
use Rattle.mon_machine.specs.Advances.{Progress}
use Rattle.mon_interp.specs.Machines.{progress_of}
use Rattle.mon_interp.specs.Moving.{frames_move, raises}
use Rattle.mon_interp.proofs.Asking.{listed_part}
use Rattle.mon_interp.proofs.Instructing.{noted_stands, noted_effect}
use Rattle.mon_interp.proofs.Hearing.{heard_asked, heard_by, plain_part, plain_listed, plain_at_location, known_part}
use Rattle.mon_interp.proofs.machine.Machine.plain_step.Goals as goal

pub perform-requires : goal.perform-requires
perform-requires g c = noted_stands c.args.self.now.frames c.instruct_in_place.new.frames c.args.location.line (c.instruct_in_place.ensures.no c.if-instruct_in_place.false) c.requires.stands

pub returns-then-instruct_in_place-clause-step : goal.returns-then-instruct_in_place-clause-step
returns-then-instruct_in_place-clause-step g c = λ f top at number.
    let a = g.H.Handle.told c.args.handle.now in
    let b = g.H.Handle.told c.hear_line.new.handle in
    let w = c.instruct_in_place.new.frames in
    let m : Move = moved w Ending.Continues in
    let n : ℕ = c.args.location.argument in
    let line : Option ℕ = c.args.location.line in
    let last : Option ℕ = c.top.result.now.line in
    let is : last ≡ f.line = ap (λ (x : Frame). x.line) (same_Some c.top.result.now f (sym c.top.ensures ∙ top)) in
    let location : ℕ = c.args.place.location in
    let xs : List Happening = line_events (standing c.args.place) location line last in
    let new : Progress = record {
      state = record { frames = w; mode = c.args.self.now.mode };
      printed = c.args.self.now.printed;
      records = c.hear_line.new.records;
      disables = c.hear_line.new.disables;
      steps = c.args.self.now.steps + 1;
    } in
    heard_asked c.args.program.now c.args.code.now c.args.op c.args.location f c.args.self.now.frames m c.args.word 0 location a b (progress_of c.args.self.now) new xs
    c.requires.loaded number (c.instruct_in_place.ensures.yes c.if-instruct_in_place.true f top)
    (ap (λ (m : Mode). let s : State = record { frames = w; mode = m } in s) (sym c.requires.runs)) (sym (append-nil c.args.self.now.printed)) refl
    (plain_part c.args.program.now c.args.op n location line f m c.args.word 0 xs c.requires.plain.0 c.requires.plain.1
    (subst (λ (l : List Happening). IsAskedPart c.args.word 0 xs l) (sym (append-nil xs) ∙ plain_listed c.args.program.now c.args.place f location line last w.calls Ending.Continues at is) (part_none c.args.word 0 xs)))
    (λ y. absurd (cc (y))) c.in_ok-hear_line.ensures.heard c.in_ok-hear_line.ensures.loads c.in_ok-hear_line.ensures.retired

pub hear_asked-requires-clause-here : goal.hear_asked-requires-clause-here
hear_asked-requires-clause-here g c =
    let ending : Ending = c.in_ok-done.done.ending in
    let f : Frame = standing c.args.place in
    let line : Option ℕ = c.args.location.line in
    let last : Option ℕ = c.top.result.now.line in
    let location : ℕ = c.args.place.location in
    let calls : List Call = c.perform.new.frames.calls in
    plain_at_location c.args.program.now c.args.word c.load_raised-global.result location f line last calls ending c.as_slice.result.now
    (listed_part c.args.word c.load_raised-global.result c.clear.new.self.items c.list_plain.new.events.items c.as_slice.result.now (line_events f location line last ++ raise_events c.args.program.now f calls ending) c.clear.ensures.items (c.as_slice.ensures.value ∙ c.go_on.ensures.events) c.in_ok-list_plain.ensures)

pub returns-clause-step : goal.returns-clause-step
returns-clause-step g c = λ f top at number.
    let a = g.H.Handle.told c.args.handle.now in
    let d = g.H.Handle.told c.load_raised-global.new.handle in
    let b = g.H.Handle.told c.hear_asked.new.handle in
    let p = c.args.program.now in
    let m : Move = frames_move c.perform.new.frames c.in_ok-done.done in
    let n : ℕ = c.args.location.argument in
    let line : Option ℕ = c.args.location.line in
    let last : Option ℕ = c.top.result.now.line in
    let is : last ≡ f.line = ap (λ (x : Frame). x.line) (same_Some c.top.result.now f (sym c.top.ensures ∙ top)) in
    let location : ℕ = c.args.place.location in
    let global : ℕ = c.load_raised-global.result in
    let xs : List Happening = c.as_slice.result.now in
    let ending : Ending = c.in_ok-done.done.ending in
    let calls : List Call = m.frames.calls in
    let listed : IsAskedPart c.args.word global xs (line_events (standing c.args.place) location line last ++ raise_events p (standing c.args.place) calls ending)
    = listed_part c.args.word global c.clear.new.self.items c.list_plain.new.events.items xs (line_events (standing c.args.place) location line last ++ raise_events p (standing c.args.place) calls ending) c.clear.ensures.items (c.as_slice.ensures.value ∙ c.go_on.ensures.events) c.in_ok-list_plain.ensures in
    let part : IsAskedPart c.args.word global xs (instruction_events p c.args.op n location line f m) =
    plain_part p c.args.op n location line f m c.args.word global xs c.requires.plain.0 c.requires.plain.1
    (subst (λ (l : List Happening). IsAskedPart c.args.word global xs l) (plain_listed p c.args.place f location line last calls ending at is) listed) in
    let o = c.load_raised-global.ensures in
    let new : Progress = record {
      state = record { frames = c.go_on.new.self.frames; mode = c.go_on.new.self.mode };
      printed = c.go_on.new.self.printed;
      records = c.hear_asked.new.records;
      disables = c.hear_asked.new.disables;
      steps = c.go_on.new.self.steps + 1;
    } in
    heard_asked p c.args.code.now c.args.op c.args.location f c.args.self.now.frames m c.args.word global location a b (progress_of c.args.self.now) new xs
    c.requires.loaded number
    (noted_effect p c.args.code.now c.args.op c.args.location f c.args.self.now.frames c.instruct_in_place.new.frames m top (c.instruct_in_place.ensures.no c.if-instruct_in_place.false f top) c.in_ok-done.ensures)
    c.in_ok-go_on.ensures.after c.in_ok-go_on.ensures.printed (ap (λ n. n + 1) c.go_on.ensures.steps)
    part o.value
    (heard_by c.args.self.now.steps c.go_on.new.self.steps xs xs a b c.args.self.now.records c.go_on.new.self.records c.hear_asked.new.records c.args.self.now.disables c.go_on.new.self.disables c.hear_asked.new.disables c.go_on.ensures.steps refl c.go_on.ensures.records.0 c.go_on.ensures.records.1
    (c.in_ok-hear_asked.ensures.heard a (record { grows = o.grows; word_is = c.requires.loaded; global_is = known_part p c.args.op n location line f m c.args.word global (after a.first a.seen).global xs part o.value })))
    (c.hear_asked.ensures.loaded ∙ ap (λ (l : List Load). l ++ callback_loads c.args.word global xs 6) o.loaded ∙ append_assoc a.tally.loads (cond (raises m.frames.calls ending) (Load.Global ∷ []) []) (callback_loads c.args.word global xs 6))
    (retiring_from a d b location c.args.word o.same c.in_ok-hear_asked.ensures.retired)

pub returns-clause-stays : goal.returns-clause-stays
returns-clause-stays g c = (
  c.hear_asked.ensures.stays.0,
  grows_trans (g.H.Handle.told c.args.handle.now) (g.H.Handle.told c.load_raised-global.new.handle) (g.H.Handle.told c.hear_asked.new.handle) [] c.hear_asked.ensures.stays.0 c.load_raised-global.ensures.grows c.hear_asked.ensures.stays.1,
)
