use Rattle.std.proofs.Common.{◌≡◌, ◌+◌, ◌++◌, ◌∷◌, cond, ℕ, List, [], refl, sym, ap, ◌∙◌, subst, append_assoc}
use Rattle.std.specs.Result.{is_err}
use Rattle.mon_words.specs.History.{after}
use Rattle.mon_words.specs.declared.tally.Load.{Load}
use Rattle.mon_words.proofs.Growing.{grows_trans}
use Rattle.mon_frames.specs.declared.frame.Frame.{Frame}
use Rattle.mon_recorders.specs.declared.happening.Happening.{Happening}
use Rattle.mon_hear.specs.Words.{IsAskedPart, callback_loads}
use Rattle.mon_hear.proofs.Parting.{part_at}
use Rattle.mon_hear.proofs.Steps.{retiring_from}
use Rattle.mon_machine.specs.Events.{answer_events}
use Rattle.mon_machine.specs.Advances.{Progress}
use Rattle.mon_interp.specs.Machines.{progress_of}
use Rattle.mon_interp.specs.Places.{standing}
use Rattle.mon_interp.proofs.Asking.{listed_part}
use Rattle.mon_interp.proofs.Listing.{answer_at}
use Rattle.mon_interp.proofs.Hearing.{heard_answer, known_answer, answer_here}
use Rattle.mon_interp.proofs.machine.Machine.finish_at.Goals as goal

pub hear_asked-requires-clause-here : goal.hear_asked-requires-clause-here
hear_asked-requires-clause-here g c =
    let p = c.args.program.now in
    let a = c.args.answer in
    let f : Frame = standing c.args.place in
    let global : ℕ = c.load_answered-global.result in
    let all : List Happening = answer_events p a c.args.place.location f a.result in
    part_at c.args.word global c.args.place.location c.as_slice.result.now all
    (listed_part c.args.word global c.clear.new.self.items c.push_answer.new.events.items c.as_slice.result.now all c.clear.ensures.items c.as_slice.ensures.value c.in_ok-push_answer.ensures)
    (answer_here p a c.args.place.location f a.result)

pub returns-clause-step : goal.returns-clause-step
returns-clause-step g c = λ f top at.
    let a = g.H.Handle.told c.args.handle.now in
    let d = g.H.Handle.told c.load_answered-global.new.handle in
    let b = g.H.Handle.told c.hear_asked.new.handle in
    let p = c.args.program.now in
    let answer = c.args.answer in
    let location : ℕ = c.args.place.location in
    let global : ℕ = c.load_answered-global.result in
    let xs : List Happening = c.as_slice.result.now in
    let o = c.load_answered-global.ensures in
    let listed : IsAskedPart c.args.word global xs (answer_events p answer location (standing c.args.place) answer.result) =
    listed_part c.args.word global c.clear.new.self.items c.push_answer.new.events.items xs (answer_events p answer location (standing c.args.place) answer.result) c.clear.ensures.items c.as_slice.ensures.value c.in_ok-push_answer.ensures in
    let part : IsAskedPart c.args.word global xs (answer_events p answer location f answer.result) =
    subst (λ (l : List Happening). IsAskedPart c.args.word global xs l) (answer_at c.args.place f at p answer location answer.result) listed in
    let new : Progress = record {
      state = record { frames = c.finish.new.frames; mode = c.put.new.place };
      printed = c.args.self.now.printed;
      records = c.hear_asked.new.records;
      disables = c.hear_asked.new.disables;
      steps = c.args.self.now.steps + 1;
    } in
    heard_answer p answer f c.args.self.now.frames c.args.word global location a b (progress_of c.args.self.now) new xs
    c.requires.loaded (c.in_ok-mode.ensures f top ∙ ap (λ m. record { frames = c.finish.new.frames; mode = m }) (sym c.put.ensures)) refl refl
    part o.value
    (c.in_ok-hear_asked.ensures.heard a (record { grows = o.grows; word_is = c.requires.loaded; global_is = known_answer p answer location f answer.result c.args.word global (after a.first a.seen).global xs part o.value }))
    (c.hear_asked.ensures.loaded ∙ ap (λ (l : List Load). l ++ callback_loads c.args.word global xs 6) o.loaded ∙ append_assoc a.tally.loads (cond (is_err answer.result) (Load.Global ∷ []) []) (callback_loads c.args.word global xs 6))
    (retiring_from a d b location c.args.word o.same c.in_ok-hear_asked.ensures.retired)

pub returns-clause-stays : goal.returns-clause-stays
returns-clause-stays g c = (
  c.hear_asked.ensures.stays.0,
  grows_trans (g.H.Handle.told c.args.handle.now) (g.H.Handle.told c.load_answered-global.new.handle) (g.H.Handle.told c.hear_asked.new.handle) [] c.hear_asked.ensures.stays.0 c.load_answered-global.ensures.grows c.hear_asked.ensures.stays.1,
)
