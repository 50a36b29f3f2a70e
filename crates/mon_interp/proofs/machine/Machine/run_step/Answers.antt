use Rattle.std.proofs.Common.{◌<◌, ◌+◌, ◌≤◌, ◌≡◌, ℕ, List, length, map, arith, ap, ◌∙◌, sym, refl}
use Rattle.mon_interp.specs.Machines.{state_of, progress_of}
use Rattle.mon_interp.proofs.Steps.{no_frame, no_code, no_location, due_no_frame, due_no_code, due_no_location}
use Rattle.mon_interp.proofs.Placed.{nowhere, inside_board}
use Rattle.mon_machine.proofs.Advancing.{stays_refl}
use Rattle.mon_interp.proofs.machine.Machine.run_step.Goals as goal

pub returns-then-depth-eq0-clause-step : goal.returns-then-depth-eq0-clause-step
returns-then-depth-eq0-clause-step g c =
    let none = sym c.depth.ensures.count ∙ c.if-depth-eq0.true in
    nowhere c.args.program.now (g.H.Handle.told c.args.handle.now) (progress_of c.args.self.now) (progress_of c.get_stuck.new.self) c.requires.owns c.requires.runs
    (due_no_frame c.args.program.now (state_of c.args.self.now) c.requires.runs none) (no_frame c.args.program.now (state_of c.args.self.now) c.requires.runs none) c.get_stuck.ensures

pub returns-then-depth-eq0-clause-stays : goal.returns-then-depth-eq0-clause-stays
returns-then-depth-eq0-clause-stays g c = stays_refl (g.H.Handle.told c.args.handle.now)

pub returns-in-None-clause-step : goal.returns-in-None-clause-step
returns-in-None-clause-step g c =
    nowhere c.args.program.now (g.H.Handle.told c.args.handle.now) (progress_of c.args.self.now) (progress_of c.get_stuck-in-None.new.self) c.requires.owns c.requires.runs
    (due_no_code c.args.program.now (state_of c.args.self.now) c.top-frame.result.now c.requires.runs c.top-frame.ensures c.in-None.ensures.value)
    (no_code c.args.program.now (state_of c.args.self.now) c.top-frame.result.now c.requires.runs c.top-frame.ensures c.in-None.ensures.value) c.get_stuck-in-None.ensures

pub returns-in-None-clause-stays : goal.returns-in-None-clause-stays
returns-in-None-clause-stays g c = stays_refl (g.H.Handle.told c.args.handle.now)

pub returns-in-None-get-clause-step : goal.returns-in-None-get-clause-step
returns-in-None-get-clause-step g c =
    nowhere c.args.program.now (g.H.Handle.told c.args.handle.now) (progress_of c.args.self.now) (progress_of c.get_stuck-in-None-get.new.self) c.requires.owns c.requires.runs
    (due_no_location c.args.program.now (state_of c.args.self.now) c.top-frame.result.now c.in-Some.code.now c.requires.runs c.top-frame.ensures c.in-Some.ensures.value c.in-None-get.ensures.value)
    (no_location c.args.program.now (state_of c.args.self.now) c.top-frame.result.now c.in-Some.code.now c.requires.runs c.top-frame.ensures c.in-Some.ensures.value c.in-None-get.ensures.value) c.get_stuck-in-None-get.ensures

pub returns-in-None-get-clause-stays : goal.returns-in-None-get-clause-stays
returns-in-None-get-clause-stays g c = stays_refl (g.H.Handle.told c.args.handle.now)

pub poll_and_step-requires-clause-within : goal.poll_and_step-requires-clause-within
poll_and_step-requires-clause-within g c =
    inside_board c.args.program.now.bases (g.H.Handle.told c.args.handle.now).first.cells c.in-Some.code.now.first c.top-frame.result.now.index (length c.in-Some.code.now.locations) (c.in-Some.ensures.inside c.in-Some.code.now (sym c.in-Some.ensures.value)) c.in-Some-get.ensures.within c.requires.bases

pub poll_and_step-requires-clause-stands : goal.poll_and_step-requires-clause-stands
poll_and_step-requires-clause-stands g c = record {
  frame = c.top-frame.result.now;
  top = c.top-frame.ensures;
  code = c.in-Some.ensures.value;
  location = c.in-Some-get.ensures.value;
  at = record { code = refl; index = refl };
  number = refl;
  small = omega (arith, c.in-Some.ensures.inside c.in-Some.code.now (sym c.in-Some.ensures.value), c.in-Some.ensures.small, c.in-Some-get.ensures.within);
}
