use Rattle.mon_lexer.proofs.LineCuts.{lines_of_characters}
use Rattle.mon_lexer.proofs.laws.lines_are_of_characters.Goals as goal

pub returns : goal.returns
returns c = lines_of_characters
