use Rattle.std.proofs.Common.{◌≡◌, drop}
use Rattle.mon_builtins.specs.Extremes.{best_of}
use Rattle.mon_builtins.proofs.extreme.best_of.Given as goal

abbrev pub invariant-loop-x : goal.invariant-loop-x
invariant-loop-x l = best_of l.op l.first l.others ≡ best_of l.op l.best (drop l.x-index l.others)
