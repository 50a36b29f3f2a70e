use Rattle.mon_interp.specs.Machines.{progress_of}
use Rattle.mon_interp.proofs.Results.{on_ok-then}
use Rattle.mon_interp.proofs.Placed.{ran_finish}
use Rattle.mon_interp.proofs.machine.Machine.load_and_finish.Goals as goal

pub returns-clause-step : goal.returns-clause-step
returns-clause-step g c =
    let h = c.requires.stands in
    on_ok-then c.finish_at.result (λ t. ran_finish c.args.program.now c.args.code.now c.args.location c.args.place c.load-again.result c.args.answer (g.H.Handle.told c.args.handle.now) (g.H.Handle.told c.load-again.new.self) (g.H.Handle.told c.finish_at.new.handle) (progress_of c.args.self.now) (progress_of c.finish_at.new.self)
    h c.requires.owns c.load-again.ensures.told (t h.frame h.top h.at)) c.finish_at.ensures.step
