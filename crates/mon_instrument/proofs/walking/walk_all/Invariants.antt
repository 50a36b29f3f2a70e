use Rattle.std.proofs.Common.{true, ◌≡◌}
use Rattle.mon_history.specs.Kept.{config_of}
use Rattle.mon_code.specs.Sites.{sites_of}
use Rattle.mon_instrument.specs.Due.{walked_cell, Walked}
use Rattle.mon_instrument.specs.Codes.{start}
use Rattle.mon_instrument.proofs.walking.walk_all.Given as goal

abbrev pub invariant-loop-number : goal.invariant-loop-number
invariant-loop-number g l =
    (g.S.Halted.rest l.s ≡ g.S.Halted.rest l.fn.s)
    × Walked (walked_cell (config_of l.config) (sites_of l.program) l.all) (λ _. true) 0 (start l.program.codes l.number) (g.S.Halted.halt l.fn.s) (g.S.Halted.halt l.s)
