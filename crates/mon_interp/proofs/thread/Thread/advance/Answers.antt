use Rattle.std.proofs.Common.{◌≡◌, ap, ◌∙◌}
use Rattle.mon_machine.specs.Advances.{Progress, plain_after}
use Rattle.mon_machine.proofs.BareAdvances.{bare_whole}
use Rattle.mon_interp.specs.Machines.{progress_of}
use Rattle.mon_interp.specs.Threads.{ThreadView}
use Rattle.mon_interp.proofs.thread.Thread.advance.Goals as goal

pub returns-in-Ok-clause-bare : goal.returns-in-Ok-clause-bare
returns-in-Ok-clause-bare g c = λ bare asked.
    let old : Progress = progress_of c.self.inside.machine in
    let same : old ≡ c.args.self.now.progress = ap (λ (t : ThreadView). t.progress) c.self.view_is in
    bare_whole c.args.program.now c.args.steps (g.H.Handle.told c.args.handle.now) (g.H.Handle.told c.advance.new.handle) old (progress_of c.advance.new.self) bare c.advance.ensures.stays c.in-Ok.ensures.run asked
    ∙ ap (λ (x : Progress). plain_after c.args.program.now c.args.steps x) same
