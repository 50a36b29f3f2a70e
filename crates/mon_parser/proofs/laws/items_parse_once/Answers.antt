use Rattle.mon_parser.proofs.Modules.{parsed_once}
use Rattle.mon_parser.proofs.laws.items_parse_once.Goals as goal

pub returns : goal.returns
returns c = parsed_once
