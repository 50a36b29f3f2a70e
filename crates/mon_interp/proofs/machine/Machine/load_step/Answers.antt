use Rattle.std.proofs.Common.{ap, ◌∙◌, []}
use Rattle.mon_events.specs.Ops.{op_of}
use Rattle.mon_words.specs.declared.word.Parts.{Parts as WordParts}
use Rattle.mon_words.proofs.Growing.{grows_load, grows_trans}
use Rattle.mon_interp.specs.Machines.{progress_of}
use Rattle.mon_interp.proofs.Results.{on_ok-then}
use Rattle.mon_interp.proofs.Placed.{ran_at, stuck_at, done_at}
use Rattle.mon_interp.proofs.machine.Machine.load_step.Goals as goal

pub returns-in-None-clause-step : goal.returns-in-None-clause-step
returns-in-None-clause-step g c =
    let a = g.H.Handle.told c.args.handle.now in
    let mid = g.H.Handle.told c.load-word.new.self in
    let b = g.H.Handle.told c.retire_due.new.handle in
    ran_at c.args.program.now c.args.code.now c.args.location c.args.place c.load-word.result a mid b (progress_of c.args.self.now) (progress_of c.get_stuck.new.self)
    c.requires.stands c.requires.runs c.requires.owns c.load-word.ensures.told
    (stuck_at c.args.program.now c.args.code.now c.args.location c.args.place c.load-word.result a mid b (progress_of c.args.self.now) (progress_of c.get_stuck.new.self)
    c.requires.stands c.requires.runs c.requires.bases c.requires.within c.load-word.ensures.told (c.in-None.ensures ∙ ap (λ (p : WordParts). op_of p.base) c.unpack.ensures) c.get_stuck.ensures
    c.retire_due.ensures.grows c.retire_due.ensures.loaded c.retire_due.ensures.retired)

pub returns-in-Some-clause-step : goal.returns-in-Some-clause-step
returns-in-Some-clause-step g c =
    let h = c.requires.stands in
    on_ok-then c.step_at.result (λ t. ran_at c.args.program.now c.args.code.now c.args.location c.args.place c.load-word.result (g.H.Handle.told c.args.handle.now) (g.H.Handle.told c.load-word.new.self) (g.H.Handle.told c.step_at.new.handle) (progress_of c.args.self.now) (progress_of c.step_at.new.self)
    h c.requires.runs c.requires.owns c.load-word.ensures.told
    (done_at c.args.program.now c.args.code.now c.args.location c.args.place c.load-word.result c.in-Some.op (g.H.Handle.told c.args.handle.now) (g.H.Handle.told c.load-word.new.self) (g.H.Handle.told c.step_at.new.handle) (progress_of c.args.self.now) (progress_of c.step_at.new.self)
    h c.requires.runs c.requires.bases c.requires.within c.load-word.ensures.told (c.in-Some.ensures ∙ ap (λ (p : WordParts). op_of p.base) c.unpack.ensures) (t h.frame h.top h.at h.number))) c.step_at.ensures.step

pub returns-in-None-clause-stays : goal.returns-in-None-clause-stays
returns-in-None-clause-stays g c =
    let a = g.H.Handle.told c.args.handle.now in
    let mid = g.H.Handle.told c.load-word.new.self in
    let b = g.H.Handle.told c.retire_due.new.handle in
    ([], grows_trans a mid b [] [] (grows_load a mid c.args.place.location c.load-word.result c.load-word.ensures.told) c.retire_due.ensures.grows)
