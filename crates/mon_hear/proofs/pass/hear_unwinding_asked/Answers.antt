use Rattle.std.proofs.Common.{[]}
use Rattle.mon_words.specs.History.{after}
use Rattle.mon_words.proofs.Growing.{grows_trans}
use Rattle.mon_hear.specs.Words.{filter}
use Rattle.mon_hear.proofs.Steps.{on_ok-then}
use Rattle.mon_hear.proofs.Passing.{global_read, unwinding}
use Rattle.mon_hear.proofs.pass.hear_unwinding_asked.Goals as goal

pub returns-clause-heard : goal.returns-clause-heard
returns-clause-heard g c = let o = c.load_words-words.ensures in
    let before = g.H.Handle.told c.args.handle.now in let later = g.H.Handle.told c.load_words-words.new.handle in on_ok-then c.record_events.result
    (λ records a own grows global. unwinding c.args.step c.args.events.now (filter c.load_words-words.result) a later c.args.records.now _
    own c.requires.global (o.agree a grows (global_read (after a.first a.seen) 0 c.args.events.now c.requires.global) global) (grows_trans a before later [] [] grows o.grows) records)
    c.record_events.ensures
