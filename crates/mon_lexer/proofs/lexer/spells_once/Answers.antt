use Rattle.mon_lexer.proofs.Spelled.{spells_once}
use Rattle.mon_lexer.proofs.lexer.spells_once.Goals as goal

pub returns : goal.returns
returns c = spells_once
