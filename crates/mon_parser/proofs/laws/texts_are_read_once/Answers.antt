use Rattle.mon_parser.proofs.Texts.{text_read_once}
use Rattle.mon_parser.proofs.laws.texts_are_read_once.Goals as goal

pub returns : goal.returns
returns c = text_read_once
