use Rattle.std.proofs.Common.{[], ap}
use Rattle.mon_words.specs.History.{after}
use Rattle.mon_words.specs.Told.{Told}
use Rattle.mon_hear.specs.Words.{filter}
use Rattle.mon_words.proofs.Growing.{grows_trans}
use Rattle.mon_hear.proofs.Steps.{all_read, all_within_of, heard, on_ok-both}
use Rattle.mon_hear.proofs.step.hear_asked.Goals as goal

pub answer_events-requires-clause-within : goal.answer_events-requires-clause-within
answer_events-requires-clause-within g c =
    let grows = grows_trans (g.H.Handle.told c.args.handle.now) (g.H.Handle.told c.load_words-words.new.handle) (g.H.Handle.told c.retire_due.new.handle) [] [] c.load_words-words.ensures.grows c.retire_due.ensures.grows in
    all_within_of (g.H.Handle.told c.args.handle.now) (g.H.Handle.told c.retire_due.new.handle) c.args.location c.args.events.now (ap (λ (t : Told). t.first) grows.rest) c.requires.within c.requires.here

pub returns-clause-heard : goal.returns-clause-heard
returns-clause-heard g c = let o = c.load_words-words.ensures in on_ok-both c.answer_events.result
    (λ marks disables a h. heard c.args.step c.args.events.now (filter c.load_words-words.result) a (g.H.Handle.told c.load_words-words.new.handle) (g.H.Handle.told c.retire_due.new.handle) (g.H.Handle.told c.answer_events.new.handle)
    c.args.records.now _ c.args.disables.now _
    (o.agree a h.grows (all_read (after a.first a.seen) c.args.word c.args.location c.args.events.now h.word_is c.requires.here) h.global_is)
    (grows_trans a (g.H.Handle.told c.args.handle.now) (g.H.Handle.told c.load_words-words.new.handle) [] [] h.grows o.grows)
    c.retire_due.ensures.grows c.in_ok-record_events.ensures marks disables)
    c.answer_events.ensures.marks c.answer_events.ensures.disables
