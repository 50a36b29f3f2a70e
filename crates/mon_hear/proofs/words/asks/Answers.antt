use Rattle.mon_hear.proofs.Asking.{not_asked}
use Rattle.mon_hear.proofs.words.asks.Goals as goal

pub returns-else-not-is_quiet-clause-nothing : goal.returns-else-not-is_quiet-clause-nothing
returns-else-not-is_quiet-clause-nothing c = not_asked c.args.word c.args.global (c.is_quiet.ensures.quiet c.if-not-is_quiet.false)
