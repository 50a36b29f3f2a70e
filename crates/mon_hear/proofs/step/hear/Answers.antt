use Rattle.std.proofs.Common.{◌++◌, ap, ◌∙◌, append_assoc}
use Rattle.mon_words.specs.History.{after}
use Rattle.mon_hear.specs.Words as spec
use Rattle.mon_hear.proofs.Agreeing.{loads_same}
use Rattle.mon_hear.proofs.Steps.{on_ok-then, retiring_from}
use Rattle.mon_hear.proofs.step.hear.Goals as goal

pub returns-clause-heard : goal.returns-clause-heard
returns-clause-heard g c = let o = c.load_global_due-global.ensures in on_ok-then c.hear_asked.result
    (λ heard. heard (g.H.Handle.told c.args.handle.now) (record { grows = o.grows; word_is = c.requires.loaded; global_is = o.value })) c.hear_asked.ensures.heard

pub returns-clause-loaded : goal.returns-clause-loaded
returns-clause-loaded g c =
    let a = g.H.Handle.told c.args.handle.now in let es = c.args.events.now in let o = c.load_global_due-global.ensures in
    c.hear_asked.ensures.loaded ∙ (ap (λ z. z ++ spec.callback_loads c.args.word c.load_global_due-global.result es 6) o.loaded
    ∙ (append_assoc a.tally.loads (spec.global_load es) (spec.callback_loads c.args.word c.load_global_due-global.result es 6)
    ∙ ap (λ z. a.tally.loads ++ (spec.global_load es ++ z)) (loads_same c.args.word c.load_global_due-global.result (after a.first a.seen).global es o.value)))

pub returns-clause-retired : goal.returns-clause-retired
returns-clause-retired g c = on_ok-then c.hear_asked.result
    (λ r. retiring_from (g.H.Handle.told c.args.handle.now) (g.H.Handle.told c.load_global_due-global.new.handle) (g.H.Handle.told c.hear_asked.new.handle) c.args.location c.args.word c.load_global_due-global.ensures.same r)
    c.hear_asked.ensures.retired
