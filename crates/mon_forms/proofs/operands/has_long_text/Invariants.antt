use Rattle.std.proofs.Common.{◌≡◌, length}
use Rattle.mon_forms.specs.Lines.{words_of}
use Rattle.mon_forms.specs.Operands.{has_long_text}
use Rattle.mon_forms.proofs.operands.has_long_text.Given as goal

abbrev pub invariant-loop-word : goal.invariant-loop-word
invariant-loop-word l = has_long_text (words_of l.rest) ≡ has_long_text (words_of l.line)

abbrev pub decreases-loop-word : goal.decreases-loop-word
decreases-loop-word l = length l.rest
