use Rattle.mon_hear.proofs.Steps.{step_heard, on_ok-both}
use Rattle.mon_hear.proofs.step.hear_step.Goals as goal

pub returns-clause-heard : goal.returns-clause-heard
returns-clause-heard g c = on_ok-both c.hear.result
    (λ heard retired. step_heard c.args.step c.args.location c.load-word.result c.args.events.now (g.H.Handle.told c.args.handle.now) (g.H.Handle.told c.load-word.new.self) (g.H.Handle.told c.hear.new.handle)
    c.args.records.now _ c.args.disables.now _ c.requires.owns c.load-word.ensures.told heard retired c.hear.ensures.loaded)
    c.hear.ensures.heard c.hear.ensures.retired
