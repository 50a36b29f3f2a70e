use Rattle.std.proofs.Common.{◌≡◌, ◌+◌, ◌++◌, ◌∷◌, Bool, true, cond, IsTrue, List, [], ap, sym, ◌∙◌, refl, append_assoc, arith}
use Rattle.mon_words.specs.History.{after}
use Rattle.mon_words.specs.declared.tally.Load.{Load}
use Rattle.mon_words.proofs.Growing.{grows_trans}
use Rattle.mon_recorders.specs.declared.happening.Happening.{Happening}
use Rattle.mon_hear.specs.Words.{IsAskedPart, any_global, callback_loads}
use Rattle.mon_hear.proofs.Parting.{part_all_global, part_global}
use Rattle.mon_machine.specs.declared.mode.Mode.{Mode}
use Rattle.mon_machine.specs.State.{State}
use Rattle.mon_machine.specs.Step.{unwinds}
use Rattle.mon_machine.specs.Advances.{Progress}
use Rattle.mon_interp.specs.Machines.{progress_of}
use Rattle.mon_interp.proofs.Asking.{listed_part}
use Rattle.mon_interp.proofs.Steps.{no_unwinds}
use Rattle.mon_interp.proofs.Hearing.{unwinding_global}
use Rattle.mon_interp.proofs.Settling.{unwinding_happens}
use Rattle.mon_interp.proofs.Placed.{unwinding_stuck, unwinding_heard}
use Rattle.mon_interp.proofs.machine.Machine.unwind_step.Goals as goal

pub returns-then-depth-eq0-clause-step : goal.returns-then-depth-eq0-clause-step
returns-then-depth-eq0-clause-step g c =
    unwinding_stuck c.args.program.now c.args.exc (g.H.Handle.told c.args.handle.now) (progress_of c.args.self.now) (progress_of c.get_stuck.new.self) c.requires.owns
    (no_unwinds c.args.program.now c.args.self.now.frames c.args.exc c.args.self.now.frames.calls (sym c.depth.ensures.count ∙ c.if-depth-eq0.true)) c.get_stuck.ensures

pub hear_unwinding_asked-requires-clause-global : goal.hear_unwinding_asked-requires-clause-global
hear_unwinding_asked-requires-clause-global g c =
    let es : List Happening = (unwinds c.args.program.now c.args.self.now.frames c.args.exc c.args.self.now.frames.calls).events in
    part_all_global 0 c.load_global-global.result c.as_slice.result.now es
    (listed_part 0 c.load_global-global.result c.clear.new.self.items c.unwind.new.events.items c.as_slice.result.now es c.clear.ensures.items c.as_slice.ensures.value (c.in_ok-mode.ensures.events 0))
    (unwinding_global c.args.program.now c.args.self.now.frames c.args.exc)

pub returns-clause-step : goal.returns-clause-step
returns-clause-step g c =
    let a = g.H.Handle.told c.args.handle.now in
    let d = g.H.Handle.told c.load_global-global.new.handle in
    let b = g.H.Handle.told c.hear_unwinding_asked.new.handle in
    let es : List Happening = (unwinds c.args.program.now c.args.self.now.frames c.args.exc c.args.self.now.frames.calls).events in
    let global = c.load_global-global.result in
    let xs : List Happening = c.as_slice.result.now in
    let o = c.load_global-global.ensures in
    let part : IsAskedPart 0 global xs es = listed_part 0 global c.clear.new.self.items c.unwind.new.events.items xs es c.clear.ensures.items c.as_slice.ensures.value (c.in_ok-mode.ensures.events 0) in
    let some : any_global es ≡ true = unwinding_happens c.args.program.now c.args.self.now.frames c.args.exc c.args.self.now.frames.calls (omega (arith, c.depth.ensures.count, c.if-depth-eq0.false)) in
    let known : IsTrue (any_global es) → global ≡ (after a.first a.seen).global = λ y. o.value in
    let new : Progress = record {
      state = record { frames = c.unwind.new.frames; mode = c.put.new.place };
      printed = c.args.self.now.printed;
      records = c.hear_unwinding_asked.new.records;
      disables = c.args.self.now.disables;
      steps = c.args.self.now.steps + 1;
    } in
    unwinding_heard c.args.program.now c.args.exc global a b (progress_of c.args.self.now) new xs
    (ap (λ (m : Mode). let s : State = record { frames = c.unwind.new.frames; mode = m } in s) c.put.ensures ∙ sym c.in_ok-mode.ensures.after) refl refl refl
    part known
    (c.in_ok-hear_unwinding_asked.ensures.heard a c.requires.owns o.grows (λ y. known (part_global 0 global xs es part y)))
    (grows_trans a d b [] [] o.grows c.hear_unwinding_asked.ensures.grows)
    (c.hear_unwinding_asked.ensures.loaded ∙ ap (λ (l : List Load). l ++ callback_loads 0 global xs 6) o.loaded ∙ append_assoc a.tally.loads (Load.Global ∷ []) (callback_loads 0 global xs 6) ∙ ap (λ (y : Bool). a.tally.loads ++ (cond y (Load.Global ∷ []) [] ++ callback_loads 0 global xs 6)) (sym some))
    (c.hear_unwinding_asked.ensures.same ∙ o.same)

pub returns-clause-grows : goal.returns-clause-grows
returns-clause-grows g c = grows_trans (g.H.Handle.told c.args.handle.now) (g.H.Handle.told c.load_global-global.new.handle) (g.H.Handle.told c.hear_unwinding_asked.new.handle) [] [] c.load_global-global.ensures.grows c.hear_unwinding_asked.ensures.grows
