use Rattle.std.proofs.Common.{sym, subst}
use Rattle.mon_forms.specs.Lines.{words_of}
use Rattle.mon_forms.proofs.Codes.{IsNamed}
use Rattle.mon_forms.proofs.Keeping.{line_leaves}
use Rattle.mon_forms.proofs.draft.Draft.take_line.Goals as goal

pub returns-clause-fits : goal.returns-clause-fits
returns-clause-fits c =
    line_leaves c.args.program.now c.args.self.now c.in_ok-head.head (words_of c.behind_word-operands.result.now) c.take_headed.result c.take_headed.new.self (subst IsNamed c.program.view_is c.program.invariant.named) (sym c.if-not-may_follow.ensures) (sym c.if-passes_limit.ensures) c.requires c.take_headed.ensures
