use Rattle.std.proofs.Common.{◌≡◌, length}
use Rattle.mon_lexer.specs.Layout.{all_closed}
use Rattle.mon_lexer.specs.Shown.{finished, stack_of}
use Rattle.mon_lexer.proofs.layout.Layout.finish.Given as goal

abbrev pub invariant-closing : goal.invariant-closing
invariant-closing l = finished l.fn.self.items l.fn.self.tokens (all_closed l.line (stack_of l.fn.self.indentations)) ≡ finished l.all.items l.all.tokens (all_closed l.line (stack_of l.all.indentations))

abbrev pub decreases-closing : goal.decreases-closing
decreases-closing l = length l.all.indentations
