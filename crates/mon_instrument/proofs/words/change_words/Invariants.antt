use Rattle.std.proofs.Common.{◌≡◌, ◌≤◌, ℕ, get_or}
use Rattle.mon_history.specs.Kept.{config_of}
use Rattle.mon_instrument.specs.Due.{Worded}
use Rattle.mon_instrument.proofs.words.change_words.Given as goal

abbrev pub invariant-loop-tool : goal.invariant-loop-tool
invariant-loop-tool g l =
    (g.S.Halted.rest l.s ≡ g.S.Halted.rest l.fn.s)
    × Worded (config_of l.config) l.tool (g.S.Halted.halt l.fn.s) (g.S.Halted.halt l.s)
    × ((t : ℕ) → l.tool ≤ t → get_or (g.S.Halted.halt l.s).board.callbacks t 0 ≡ get_or (g.S.Halted.halt l.fn.s).board.callbacks t 0)
