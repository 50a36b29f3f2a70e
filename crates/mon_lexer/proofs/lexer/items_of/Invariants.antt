use Rattle.std.proofs.Common.{length}
use Rattle.mon_lexer.specs.Characters.{source}
use Rattle.mon_lexer.proofs.Cuttings.{Lexing}
use Rattle.mon_lexer.proofs.lexer.items_of.Given as goal

abbrev pub invariant-reading : goal.invariant-reading
invariant-reading l = Lexing (source l.fn.text) l.cursor l.layout

abbrev pub decreases-reading : goal.decreases-reading
decreases-reading l = length l.cursor.left
