use Rattle.std.proofs.Common.{◌≡◌, ◌+◌, ◌≤◌, length, Ok}
use Rattle.mon_forms.specs.Fits.{KeepsLimits}
use Rattle.mon_forms.specs.Lines.{lines_of}
use Rattle.mon_forms.specs.Plans.{add_lines, no_lines}
use Rattle.mon_forms.proofs.read.read_plan.Given as goal

abbrev pub invariant-loop-line : goal.invariant-loop-line
invariant-loop-line l =
    (add_lines l.program l.number (Ok l.draft) (lines_of l.rest) ≡ add_lines l.program 1 (Ok no_lines) (lines_of l.text))
    × (l.number + length (lines_of l.rest) ≡ length (lines_of l.text) + 1)
    × (l.number + length l.rest ≤ length l.text + 1)
    × KeepsLimits l.program l.draft

abbrev pub decreases-loop-line : goal.decreases-loop-line
decreases-loop-line l = length l.rest
