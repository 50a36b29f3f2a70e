use Rattle.std.proofs.Common.{◌≡◌, ℕ, ◌+◌, ◌-◌, ◌*◌}
use Rattle.mon_parser.specs.declared.levels.Level.{Level}
use Rattle.mon_parser.specs.declared.levels.Level.TheVariants as level
use Rattle.mon_parser.specs.Readings.{at_level, level_from, at_postfix, suffixes_from, further_from}
use Rattle.mon_parser.proofs.expression.+expression.Given as goal

-- how far a level's parts are above what stands in brackets
abbrev rank : Level → ℕ
rank level.Term = 8
rank level.Sum = 10
rank level.And = 15
rank level.Or = 17

abbrev pub decreases-expression : goal.decreases-expression
decreases-expression l = 32 * (l.brackets + l.nodes) + 0

abbrev pub decreases-further : goal.decreases-further
decreases-further l = 32 * (l.brackets + l.nodes) + 1

abbrev pub decreases-expressions : goal.decreases-expressions
decreases-expressions l = 32 * (l.brackets + l.nodes) + 2

abbrev pub decreases-arguments : goal.decreases-arguments
decreases-arguments l = 32 * (l.brackets + l.nodes) + 2

abbrev pub decreases-right_side : goal.decreases-right_side
decreases-right_side l = 32 * (l.brackets + l.nodes) + 3

abbrev pub decreases-suffix : goal.decreases-suffix
decreases-suffix l = 32 * (l.brackets + l.nodes) + 3

abbrev pub decreases-atom : goal.decreases-atom
decreases-atom l = 32 * (l.brackets + l.nodes) + 5

abbrev pub decreases-group : goal.decreases-group
decreases-group l = 32 * (l.brackets + l.nodes) + 4

abbrev pub decreases-unary : goal.decreases-unary
decreases-unary l = 32 * (l.brackets + l.nodes) + 7

abbrev pub decreases-negation : goal.decreases-negation
decreases-negation l = 32 * (l.brackets + l.nodes) + 14

abbrev pub decreases-postfix : goal.decreases-postfix
decreases-postfix l = 32 * (l.brackets + l.nodes) + 6

abbrev pub decreases-comparison : goal.decreases-comparison
decreases-comparison l = 32 * (l.brackets + l.nodes) + 13

abbrev pub decreases-compared : goal.decreases-compared
decreases-compared l = 32 * (l.brackets + l.nodes) + 12

abbrev pub decreases-lower : goal.decreases-lower
decreases-lower l = 32 * (l.brackets + l.nodes) + rank l.level

abbrev pub decreases-left : goal.decreases-left
decreases-left l = 32 * (l.brackets + l.nodes) + rank l.level + 1

abbrev pub invariant-left-loop-turn : goal.invariant-left-loop-turn
invariant-left-loop-turn l = at_level l.level l.brackets l.nodes l.fn.cursor ≡ level_from l.level l.brackets l.nodes l._turn l.tree l.cursor

abbrev pub invariant-postfix-loop-turn : goal.invariant-postfix-loop-turn
invariant-postfix-loop-turn l = at_postfix l.brackets l.nodes l.fn.cursor ≡ suffixes_from l.brackets l.nodes l._turn l.tree l.cursor

abbrev pub invariant-further-loop-turn : goal.invariant-further-loop-turn
invariant-further-loop-turn l = further_from l.brackets l.nodes l.fn.parts l.turns l.fn.cursor ≡ further_from l.brackets l.nodes l.parts (l.turns - l._turn) l.cursor
