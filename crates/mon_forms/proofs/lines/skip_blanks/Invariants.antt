use Rattle.std.proofs.Common.{◌≡◌, ◌≤◌, true, length}
use Rattle.mon_forms.specs.Lines.{words_of, is_plain_line}
use Rattle.mon_forms.proofs.lines.skip_blanks.Given as goal

abbrev pub invariant-loop-rest : goal.invariant-loop-rest
invariant-loop-rest l =
    (words_of l.rest ≡ words_of l.line) × (length l.rest ≤ length l.line)
    × (is_plain_line l.line ≡ true → is_plain_line l.rest ≡ true)

abbrev pub decreases-loop-rest : goal.decreases-loop-rest
decreases-loop-rest l = length l.rest
