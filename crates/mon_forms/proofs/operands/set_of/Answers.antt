use Rattle.mon_forms.proofs.Plain.{plain_utf8}
use Rattle.mon_forms.proofs.operands.set_of.Goals as goal

pub unreachable-requires : goal.unreachable-requires
unreachable-requires c = c.in-Err.ensures.cases.0 (plain_utf8 c.args.word.now c.requires)
