use Rattle.mon_parser.proofs.Trees.{derives_once}
use Rattle.mon_parser.proofs.laws.item_derives_once.Goals as goal

pub returns : goal.returns
returns c = derives_once
