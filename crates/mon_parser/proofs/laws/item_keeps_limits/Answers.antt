use Rattle.mon_parser.proofs.Nested.{limits_nest}
use Rattle.mon_parser.proofs.laws.item_keeps_limits.Goals as goal

pub returns : goal.returns
returns c = limits_nest
