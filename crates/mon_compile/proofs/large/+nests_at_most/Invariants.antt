use Rattle.std.proofs.Common.{◌≡◌, ◌+◌, ◌*◌, map, drop}
use Rattle.std.specs.Prelude.{nat_le}
use Rattle.mon_values.specs.Weights.{depth, greatest}
use Rattle.mon_compile.specs.Modules.{constant_value}
use Rattle.mon_compile.specs.Nodes.{total}
use Rattle.mon_compile.proofs.Constants.{constant_nodes}
use Rattle.mon_compile.proofs.large.+nests_at_most.Given as goal

abbrev pub invariant-all_nest_at_most-loop-constant : goal.invariant-all_nest_at_most-loop-constant
invariant-all_nest_at_most-loop-constant l =
    nat_le (greatest (map depth (map constant_value l.constants))) l.limit ≡ nat_le (greatest (map depth (map constant_value (drop l.constant-index l.constants)))) l.limit

abbrev pub decreases-nests_at_most : goal.decreases-nests_at_most
decreases-nests_at_most l = 2 * constant_nodes l.constant.now

abbrev pub decreases-all_nest_at_most : goal.decreases-all_nest_at_most
decreases-all_nest_at_most l = 2 * total (map constant_nodes l.constants.now) + 1
