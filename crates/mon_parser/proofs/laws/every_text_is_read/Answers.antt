use Rattle.mon_parser.proofs.Texts.{every_text_read}
use Rattle.mon_parser.proofs.laws.every_text_is_read.Goals as goal

pub returns : goal.returns
returns c = every_text_read
