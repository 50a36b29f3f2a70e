use Rattle.std.proofs.Common.{◌++◌, [], ℕ, List, get_or, ap, ◌∙◌}
use Rattle.mon_words.specs.History.{after}
use Rattle.mon_words.specs.Words.{is_bit}
use Rattle.mon_words.specs.declared.tally.Load.{Load}
use Rattle.mon_recorders.proofs.Folds.{for_tools_same}
use Rattle.mon_hear.specs.declared.words.Words.{Words}
use Rattle.mon_hear.specs.Words as spec
use Rattle.mon_hear.proofs.Agreeing.{agree}
use Rattle.mon_hear.proofs.Steps.{words_stay}
use Rattle.mon_hear.proofs.words.load_words.Goals as goal

pub returns-clause-agree : goal.returns-clause-agree
returns-clause-agree g c = λ a grows here global.
    let w : Words = record { word = c.args.word; global = c.args.global; callbacks = c.load_callbacks-callbacks.result } in
    let s = words_stay a (g.H.Handle.told c.args.handle.now) [] grows in
    agree (after a.first a.seen) w c.args.events.now here global
    (λ t l y. c.load_callbacks-callbacks.ensures.value t l (c.asking_tools-tools.ensures t l ∙ y) ∙ ap (λ (l : List ℕ). get_or l t 0) s.callbacks)

pub returns-clause-loaded : goal.returns-clause-loaded
returns-clause-loaded g c =
    c.load_callbacks-callbacks.ensures.loaded ∙ ap (λ z. (g.H.Handle.told c.args.handle.now).tally.loads ++ z)
    (for_tools_same (is_bit c.asking_tools-tools.result) (λ t. spec.any_enabled c.args.word c.args.global t c.args.events.now) Load.Callbacks 6 (λ t l. c.asking_tools-tools.ensures t l))
