use Rattle.std.proofs.Common.{◌≡◌, length}
use Rattle.mon_compile.specs.Bindings.{few_names}
use Rattle.mon_compile.proofs.bindings.bind_all.Given as goal

abbrev pub invariant-loop-name : goal.invariant-loop-name
invariant-loop-name l = few_names l.most l.names l.rest ≡ few_names l.most l.fn.names l.more

abbrev pub decreases-loop-name : goal.decreases-loop-name
decreases-loop-name l = length l.rest
