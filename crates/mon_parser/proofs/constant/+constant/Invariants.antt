use Rattle.std.proofs.Common.{◌≡◌, ◌+◌, ◌-◌, ◌*◌}
use Rattle.mon_parser.specs.ItemReadings.{further_from}
use Rattle.mon_parser.proofs.constant.+constant.Given as goal

abbrev pub decreases-constant : goal.decreases-constant
decreases-constant l = 4 * l.brackets

abbrev pub decreases-further_constants : goal.decreases-further_constants
decreases-further_constants l = 4 * l.brackets + 1

abbrev pub decreases-constants : goal.decreases-constants
decreases-constants l = 4 * l.brackets + 2

abbrev pub invariant-further_constants-loop-turn : goal.invariant-further_constants-loop-turn
invariant-further_constants-loop-turn l = further_from l.brackets l.fn.parts l.turns l.fn.cursor ≡ further_from l.brackets l.parts (l.turns - l._turn) l.cursor
