use Rattle.std.proofs.Common.{◌<◌, length, map, sym, ap, ◌∙◌, subst, Bool}
use Rattle.mon_words.specs.History.{base_in}
use Rattle.mon_words.specs.declared.history.Board.{Board}
use Rattle.mon_machine.proofs.Advancing.{stays_trans, stays_grows}
use Rattle.mon_interp.specs.Machines.{progress_of, state_of, PolledDue}
use Rattle.mon_interp.proofs.Placed.{polled_keeps, polled_step, polled_stop, unpolled}
use Rattle.mon_interp.proofs.machine.Machine.poll_and_step.Goals as goal

pub returns-then-poll_due-clause-step : goal.returns-then-poll_due-clause-step
returns-then-poll_due-clause-step g c =
    polled_stop c.args.location.is_safe c.args.program.now (g.H.Handle.told c.args.handle.now) (g.H.Handle.told c.poll_due.new.handle) (progress_of c.args.self.now)
    (unpolled c.args.program.now c.args.code.now c.args.location c.args.place (state_of c.args.self.now) c.requires.stands c.requires.runs)
    (subst (λ (b : Bool). PolledDue c.args.location.is_safe b (g.H.Handle.told c.args.handle.now) (g.H.Handle.told c.poll_due.new.handle)) c.if-poll_due.true c.poll_due.ensures.polled)

pub returns-then-poll_due-clause-stays : goal.returns-then-poll_due-clause-stays
returns-then-poll_due-clause-stays g c = (polled_keeps c.args.location.is_safe c.poll_due.result (g.H.Handle.told c.args.handle.now) (g.H.Handle.told c.poll_due.new.handle) c.requires.owns c.poll_due.ensures.polled).stays

pub load_step-requires-clause-attached : goal.load_step-requires-clause-attached
load_step-requires-clause-attached g c = (polled_keeps c.args.location.is_safe c.poll_due.result (g.H.Handle.told c.args.handle.now) (g.H.Handle.told c.poll_due.new.handle) c.requires.owns c.poll_due.ensures.polled).attached ∙ c.requires.attached

pub load_step-requires-clause-owns : goal.load_step-requires-clause-owns
load_step-requires-clause-owns g c = (polled_keeps c.args.location.is_safe c.poll_due.result (g.H.Handle.told c.args.handle.now) (g.H.Handle.told c.poll_due.new.handle) c.requires.owns c.poll_due.ensures.polled).owns

pub load_step-requires-clause-bases : goal.load_step-requires-clause-bases
load_step-requires-clause-bases g c =
    let k = polled_keeps c.args.location.is_safe c.poll_due.result (g.H.Handle.told c.args.handle.now) (g.H.Handle.told c.poll_due.new.handle) c.requires.owns c.poll_due.ensures.polled in
    ap (λ (b : Board). map base_in b.cells) k.first ∙ c.requires.bases

pub load_step-requires-clause-within : goal.load_step-requires-clause-within
load_step-requires-clause-within g c =
    let k = polled_keeps c.args.location.is_safe c.poll_due.result (g.H.Handle.told c.args.handle.now) (g.H.Handle.told c.poll_due.new.handle) c.requires.owns c.poll_due.ensures.polled in
    subst (λ (b : Board). c.args.place.location < length b.cells) (sym k.first) c.requires.within

pub returns-clause-step : goal.returns-clause-step
returns-clause-step g c =
    polled_step c.args.location.is_safe c.args.program.now (g.H.Handle.told c.args.handle.now) (g.H.Handle.told c.poll_due.new.handle) (g.H.Handle.told c.load_step.new.handle) (progress_of c.args.self.now) (progress_of c.load_step.new.self) c.load_step.ensures.stays.0
    (unpolled c.args.program.now c.args.code.now c.args.location c.args.place (state_of c.args.self.now) c.requires.stands c.requires.runs)
    (subst (λ (b : Bool). PolledDue c.args.location.is_safe b (g.H.Handle.told c.args.handle.now) (g.H.Handle.told c.poll_due.new.handle)) c.if-poll_due.false c.poll_due.ensures.polled)
    c.load_step.ensures.stays.1 c.in_ok-load_step.ensures.step

pub returns-clause-stays : goal.returns-clause-stays
returns-clause-stays g c =
    let k = polled_keeps c.args.location.is_safe c.poll_due.result (g.H.Handle.told c.args.handle.now) (g.H.Handle.told c.poll_due.new.handle) c.requires.owns c.poll_due.ensures.polled in
    stays_trans (g.H.Handle.told c.args.handle.now) (g.H.Handle.told c.poll_due.new.handle) (g.H.Handle.told c.load_step.new.handle) k.stays (stays_grows (g.H.Handle.told c.poll_due.new.handle) (g.H.Handle.told c.load_step.new.handle) c.load_step.ensures.stays.0 c.load_step.ensures.stays.1)

pub returns-in_err-load_step-clause-stays : goal.returns-in_err-load_step-clause-stays
returns-in_err-load_step-clause-stays g c =
    let k = polled_keeps c.args.location.is_safe c.poll_due.result (g.H.Handle.told c.args.handle.now) (g.H.Handle.told c.poll_due.new.handle) c.requires.owns c.poll_due.ensures.polled in
    stays_trans (g.H.Handle.told c.args.handle.now) (g.H.Handle.told c.poll_due.new.handle) (g.H.Handle.told c.load_step.new.handle) k.stays (stays_grows (g.H.Handle.told c.poll_due.new.handle) (g.H.Handle.told c.load_step.new.handle) c.load_step.ensures.stays.0 c.load_step.ensures.stays.1)
