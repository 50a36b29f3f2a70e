use Rattle.std.proofs.Common.{◌≡◌, ◌++◌}
use Rattle.mon_gen.specs.Generated.{sums}
use Rattle.mon_gen.proofs.module.push_sums.Given as goal

abbrev pub invariant-loop-number : goal.invariant-loop-number
invariant-loop-number l = l.body ≡ l.initial.body ++ sums l.first l.number
