use Rattle.std.proofs.Common.{◌≡◌, ◌-◌}
use Rattle.mon_parser.specs.StatementReadings.{names_from}
use Rattle.mon_parser.proofs.statement.further_names.Given as goal

abbrev pub invariant-loop-turn : goal.invariant-loop-turn
invariant-loop-turn l = names_from l.fn.names l.turns l.fn.cursor ≡ names_from l.names (l.turns - l._turn) l.cursor
