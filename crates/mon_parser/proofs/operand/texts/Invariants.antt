use Rattle.std.proofs.Common.{◌≡◌, length}
use Rattle.mon_parser.specs.Reader.{more_texts}
use Rattle.mon_parser.proofs.operand.texts.Given as goal

abbrev pub decreases-loop-more : goal.decreases-loop-more
decreases-loop-more l = length l.cursor

abbrev pub invariant-loop-more : goal.invariant-loop-more
invariant-loop-more l = more_texts l.first l.fn.cursor ≡ more_texts l.joined l.cursor
