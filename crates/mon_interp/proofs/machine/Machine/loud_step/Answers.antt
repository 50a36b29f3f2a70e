use Rattle.std.proofs.Common.{◌≡◌, ◌+◌, ◌++◌, ◌∷◌, cond, ℕ, List, [], refl, sym, ap, ◌∙◌, subst, append_assoc}
use Rattle.std.proofs.lemmas.Option.{same_Some}
use Rattle.mon_words.specs.History.{after}
use Rattle.mon_words.specs.declared.tally.Load.{Load}
use Rattle.mon_words.proofs.Growing.{grows_trans}
use Rattle.mon_frames.specs.declared.frame.Frame.{Frame}
use Rattle.mon_frames.specs.Views.{FramesView}
use Rattle.mon_recorders.specs.declared.happening.Happening.{Happening}
use Rattle.mon_recorders.specs.Boards.{AreAt}
use Rattle.mon_hear.specs.Words.{IsAskedPart, callback_loads}
use Rattle.mon_hear.proofs.Parting.{part_at}
use Rattle.mon_hear.proofs.Steps.{retiring_from}
use Rattle.mon_machine.specs.State.{Move, with_frame}
use Rattle.mon_machine.specs.Events.{instruction_events}
use Rattle.mon_machine.specs.Step.{with_line}
use Rattle.mon_machine.proofs.Locating.{instruction_at}
use Rattle.mon_machine.specs.Advances.{Progress}
use Rattle.mon_interp.specs.Machines.{progress_of}
use Rattle.mon_interp.specs.Moving.{frames_move, raises}
use Rattle.mon_interp.proofs.Asking.{listed_part}
use Rattle.mon_interp.proofs.Listing.{looked, answered_by}
use Rattle.mon_interp.proofs.Hearing.{heard_asked, heard_by, known_part}
use Rattle.mon_interp.proofs.machine.Machine.loud_step.Goals as goal

pub hear_asked-requires-clause-here : goal.hear_asked-requires-clause-here
hear_asked-requires-clause-here g c =
    let p = c.args.program.now in
    let n : ℕ = c.args.location.argument in
    let f : Frame = c.top-frame.result.now in
    let m : Move = frames_move c.act.new.frames c.in_ok-done.done in
    let made = c.in_ok-done.ensures f c.top-frame.ensures in
    let b = c.in_ok-before.before in
    let global : ℕ = c.load_raised-global.result in
    let all : List Happening = instruction_events p c.args.op n b.place.location c.args.location.line f m in
    let part : IsAskedPart c.args.word global c.as_slice.result.now all =
    listed_part c.args.word global c.clear.new.self.items c.list_events.new.events.items c.as_slice.result.now all c.clear.ensures.items (c.as_slice.ensures.value ∙ c.go_on.ensures.events)
    (c.in_ok-list_events.ensures f (looked p c.args.op n c.args.number c.args.word f f b c.in_ok-before.ensures refl) (answered_by p c.args.code.now c.args.op n (with_line c.args.location.line f) (with_frame c.args.self.now.frames (with_line c.args.location.line f)) m made)) in
    subst (λ k. AreAt k c.as_slice.result.now) c.in_ok-before.ensures.location_is (part_at c.args.word global b.place.location c.as_slice.result.now all part (instruction_at p b.place.location f c.args.op n c.args.location.line m))

pub returns-clause-step : goal.returns-clause-step
returns-clause-step g c = λ f top number.
    let a = g.H.Handle.told c.args.handle.now in
    let d = g.H.Handle.told c.load_raised-global.new.handle in
    let b = g.H.Handle.told c.hear_asked.new.handle in
    let p = c.args.program.now in
    let n : ℕ = c.args.location.argument in
    let v : FramesView = c.args.self.now.frames in
    let m : Move = frames_move c.act.new.frames c.in_ok-done.done in
    let made = c.in_ok-done.ensures f top in
    let before = c.in_ok-before.before in
    let same : c.top-frame.result.now ≡ f = same_Some c.top-frame.result.now f (sym c.top-frame.ensures ∙ top) in
    let global : ℕ = c.load_raised-global.result in
    let xs : List Happening = c.as_slice.result.now in
    let listed : IsAskedPart c.args.word global xs (instruction_events p c.args.op n before.place.location c.args.location.line f m) =
    listed_part c.args.word global c.clear.new.self.items c.list_events.new.events.items xs (instruction_events p c.args.op n before.place.location c.args.location.line f m) c.clear.ensures.items (c.as_slice.ensures.value ∙ c.go_on.ensures.events)
    (c.in_ok-list_events.ensures f (looked p c.args.op n c.args.number c.args.word f c.top-frame.result.now before c.in_ok-before.ensures same) (answered_by p c.args.code.now c.args.op n (with_line c.args.location.line f) (with_frame v (with_line c.args.location.line f)) m made)) in
    let part : IsAskedPart c.args.word global xs (instruction_events p c.args.op n c.args.number c.args.location.line f m) =
    subst (λ k. IsAskedPart c.args.word global xs (instruction_events p c.args.op n k c.args.location.line f m)) c.in_ok-before.ensures.location_is listed in
    let o = c.load_raised-global.ensures in
    let new : Progress = record {
      state = record { frames = c.go_on.new.self.frames; mode = c.go_on.new.self.mode };
      printed = c.go_on.new.self.printed;
      records = c.hear_asked.new.records;
      disables = c.hear_asked.new.disables;
      steps = c.go_on.new.self.steps + 1;
    } in
    heard_asked p c.args.code.now c.args.op c.args.location f v m c.args.word global c.args.number a b (progress_of c.args.self.now) new xs
    c.requires.loaded number made c.in_ok-go_on.ensures.after c.in_ok-go_on.ensures.printed (ap (λ n. n + 1) c.go_on.ensures.steps)
    part o.value
    (heard_by c.args.self.now.steps c.go_on.new.self.steps xs xs a b c.args.self.now.records c.go_on.new.self.records c.hear_asked.new.records c.args.self.now.disables c.go_on.new.self.disables c.hear_asked.new.disables c.go_on.ensures.steps refl c.go_on.ensures.records.0 c.go_on.ensures.records.1
    (c.in_ok-hear_asked.ensures.heard a (record { grows = o.grows; word_is = c.requires.loaded; global_is = known_part p c.args.op n c.args.number c.args.location.line f m c.args.word global (after a.first a.seen).global xs part o.value })))
    (c.hear_asked.ensures.loaded ∙ ap (λ (l : List Load). l ++ callback_loads c.args.word global xs 6) o.loaded ∙ append_assoc a.tally.loads (cond (raises m.frames.calls m.ending) (Load.Global ∷ []) []) (callback_loads c.args.word global xs 6))
    (retiring_from a d b c.args.number c.args.word o.same c.in_ok-hear_asked.ensures.retired)

pub returns-clause-stays : goal.returns-clause-stays
returns-clause-stays g c = (
  c.hear_asked.ensures.stays.0,
  grows_trans (g.H.Handle.told c.args.handle.now) (g.H.Handle.told c.load_raised-global.new.handle) (g.H.Handle.told c.hear_asked.new.handle) [] c.hear_asked.ensures.stays.0 c.load_raised-global.ensures.grows c.hear_asked.ensures.stays.1,
)
