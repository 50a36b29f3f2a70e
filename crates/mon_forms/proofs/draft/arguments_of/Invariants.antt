use Rattle.std.proofs.Common.{◌≡◌, length}
use Rattle.mon_forms.specs.Lines.{words_of}
use Rattle.mon_forms.specs.Operands.{arguments_of}
use Rattle.mon_forms.proofs.Arguments.{behind}
use Rattle.mon_forms.proofs.draft.arguments_of.Given as goal

abbrev pub invariant-loop-word : goal.invariant-loop-word
invariant-loop-word l = behind l.args (arguments_of (words_of l.rest)) ≡ arguments_of (words_of l.line)

abbrev pub decreases-loop-word : goal.decreases-loop-word
decreases-loop-word l = length l.rest
