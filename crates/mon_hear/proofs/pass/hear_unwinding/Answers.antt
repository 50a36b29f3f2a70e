use Rattle.std.proofs.Common.{◌++◌, ap, ◌∙◌, append_assoc}
use Rattle.mon_words.specs.History.{after}
use Rattle.mon_hear.specs.Words as spec
use Rattle.mon_hear.proofs.Agreeing.{loads_same}
use Rattle.mon_hear.proofs.Steps.{on_ok-then}
use Rattle.mon_hear.proofs.pass.hear_unwinding.Goals as goal

pub returns-clause-heard : goal.returns-clause-heard
returns-clause-heard g c = let o = c.load_global_due-global.ensures in on_ok-then c.hear_unwinding_asked.result
    (λ heard. heard (g.H.Handle.told c.args.handle.now) c.requires.owns o.grows o.value) c.hear_unwinding_asked.ensures.heard

pub returns-clause-loaded : goal.returns-clause-loaded
returns-clause-loaded g c =
    let a = g.H.Handle.told c.args.handle.now in let es = c.args.events.now in let o = c.load_global_due-global.ensures in
    c.hear_unwinding_asked.ensures.loaded ∙ (ap (λ z. z ++ spec.callback_loads 0 c.load_global_due-global.result es 6) o.loaded
    ∙ (append_assoc a.tally.loads (spec.global_load es) (spec.callback_loads 0 c.load_global_due-global.result es 6)
    ∙ ap (λ z. a.tally.loads ++ (spec.global_load es ++ z)) (loads_same 0 c.load_global_due-global.result (after a.first a.seen).global es o.value)))
