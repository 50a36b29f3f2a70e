use Rattle.mon_lexer.proofs.LineCuts.{lines_once}
use Rattle.mon_lexer.proofs.laws.lines_once.Goals as goal

pub returns : goal.returns
returns c = lines_once
