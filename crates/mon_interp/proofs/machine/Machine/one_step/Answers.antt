use Rattle.std.proofs.Common.{sym}
use Rattle.mon_interp.specs.Machines.{progress_of}
use Rattle.mon_interp.proofs.Placed.{unwound, answered_step}
use Rattle.mon_interp.proofs.machine.Machine.one_step.Goals as goal

pub returns-in_ok-unwind_step-in-Unwind-clause-step : goal.returns-in_ok-unwind_step-in-Unwind-clause-step
returns-in_ok-unwind_step-in-Unwind-clause-step g c =
    unwound c.args.program.now c.in-Unwind.exc c.replace-mode.new.dest (g.H.Handle.told c.args.handle.now) (g.H.Handle.told c.unwind_step.new.handle) (progress_of c.args.self.now) (progress_of c.unwind_step.new.self)
    c.requires.owns (sym c.in-Unwind.ensures.value) c.unwind_step.ensures.grows c.in_ok-unwind_step-in-Unwind.ensures.step

pub returns-in_ok-finish_step-in-Finish-clause-step : goal.returns-in_ok-finish_step-in-Finish-clause-step
returns-in_ok-finish_step-in-Finish-clause-step g c =
    answered_step c.args.program.now c.in-Finish.answer (g.H.Handle.told c.args.handle.now) (g.H.Handle.told c.finish_step.new.handle) (progress_of c.args.self.now) (progress_of c.finish_step.new.self) c.finish_step.ensures.stays.0
    (sym c.in-Finish.ensures.value) c.finish_step.ensures.stays.1 c.in_ok-finish_step-in-Finish.ensures.step
