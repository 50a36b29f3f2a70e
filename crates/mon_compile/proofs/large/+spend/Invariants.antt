use Rattle.std.proofs.Common.{◌≡◌, ◌+◌, ◌*◌, map, drop}
use Rattle.std.specs.Prelude.{sum}
use Rattle.mon_values.specs.Weights.{weight, left_of}
use Rattle.mon_compile.specs.Modules.{constant_value}
use Rattle.mon_compile.specs.Nodes.{total}
use Rattle.mon_compile.proofs.Constants.{constant_nodes}
use Rattle.mon_compile.proofs.large.+spend.Given as goal

abbrev pub invariant-spend_all-loop-constant : goal.invariant-spend_all-loop-constant
invariant-spend_all-loop-constant l =
    left_of l.budget (sum (map weight (map constant_value l.constants))) ≡ left_of l.left (sum (map weight (map constant_value (drop l.constant-index l.constants))))

abbrev pub decreases-spend : goal.decreases-spend
decreases-spend l = 2 * constant_nodes l.constant.now

abbrev pub decreases-spend_all : goal.decreases-spend_all
decreases-spend_all l = 2 * total (map constant_nodes l.constants.now) + 1
