use Rattle.mon_words.specs.History.{after}
use Rattle.mon_words.proofs.Rewriting.{overlay-cells}
use Rattle.mon_board.proofs.plain_halted.PlainHaltedHalted.steps.Goals as goal

pub returns-clause-lawful : goal.returns-clause-lawful
returns-clause-lawful c = let v = c.args.self.now.board.now.chair.me.0 in overlay-cells (after v.first v.seen) v.written
