use Rattle.std.proofs.Common.{true, ◌≡◌, ◌+◌}
use Rattle.mon_history.specs.Kept.{config_of}
use Rattle.mon_code.specs.Sites.{sites_of}
use Rattle.mon_instrument.specs.Due.{walked_cell, Walked}
use Rattle.mon_instrument.specs.Codes.{start}
use Rattle.mon_instrument.proofs.walking.walk_code.Given as goal

abbrev pub invariant-loop-index : goal.invariant-loop-index
invariant-loop-index g l =
    (g.S.Halted.rest l.s ≡ g.S.Halted.rest l.fn.s)
    × Walked (walked_cell (config_of l.config) (sites_of l.program) l.all) (λ _. true) (start l.program.codes l.number) (start l.program.codes l.number + l.index) (g.S.Halted.halt l.fn.s) (g.S.Halted.halt l.s)
