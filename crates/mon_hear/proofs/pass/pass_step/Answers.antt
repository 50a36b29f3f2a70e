use Rattle.mon_hear.proofs.Steps.{word_read}
use Rattle.mon_hear.proofs.Passing.{passed, loads_once}
use Rattle.mon_hear.proofs.pass.pass_step.Goals as goal

pub returns-clause-passed : goal.returns-clause-passed
returns-clause-passed g c = λ _ i es rs ds p n. passed i c.args.location c.load-word.result es (g.H.Handle.told c.args.handle.now) (g.H.Handle.told c.load-word.new.self) (g.H.Handle.told c.retire_due.new.handle) rs ds
    c.requires.owns c.load-word.ensures.told (word_read _ (g.H.Handle.told c.load-word.new.self) c.args.location c.load-word.result c.load-word.ensures.told) (c.is_quiet.ensures.quiet c.if-not-is_quiet.false) c.retire_due.ensures.grows c.retire_due.ensures.retired c.retire_due.ensures.loaded p n

pub returns-clause-once : goal.returns-clause-once
returns-clause-once g c = λ _. loads_once (g.H.Handle.told c.args.handle.now) (g.H.Handle.told c.load-word.new.self) _ c.args.location c.load-word.result c.load-word.ensures.told c.retire_due.ensures.loaded
