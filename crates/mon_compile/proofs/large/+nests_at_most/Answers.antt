use Rattle.std.proofs.Common.{◌∙◌, ℕ, ◌-◌, map, ap, sym, arith}
use Rattle.std.specs.Prelude.{nat_le}
use Rattle.mon_values.specs.Weights.{depth, greatest}
use Rattle.mon_trees.specs.declared.tree.Constant.{Constant}
use Rattle.mon_compile.specs.Modules.{constant_value}
use Rattle.mon_compile.proofs.Constants.{constant_nodes, flat, flat_none, deep_one, deep_none, deep_all, tuple_depth, empty_depth}
use Rattle.mon_compile.proofs.Parts.{part_within}
use Rattle.mon_compile.proofs.large.+nests_at_most.Goals as goal

pub all_nest_at_most-nests_at_most-requires : goal.all_nest_at_most-nests_at_most-requires
all_nest_at_most-nests_at_most-requires t c = (omega (arith, part_within constant_nodes _ _ _ c.loop-constant-test.true c.constant-item.is, c.decreases), tt)

abbrev depth_of : Constant → ℕ
depth_of c = depth (constant_value c)

pub nests_at_most-returns-then-limit-gt0 : goal.nests_at_most-returns-then-limit-gt0
nests_at_most-returns-then-limit-gt0 t c =
    let parts = c.in-Tuple.parts in
    c.all_nest_at_most.ensures
    ∙ ap (λ l. nat_le (greatest (map depth (map constant_value l))) (c.args.limit - 1)) c.as_slice.ensures
    ∙ deep_one (greatest (map depth (map constant_value parts))) c.args.limit c.if-limit-gt0.true
    ∙ ap (λ d. nat_le d c.args.limit) (sym (ap depth_of c.in-Tuple.is ∙ tuple_depth parts))

pub nests_at_most-returns-else-limit-gt0 : goal.nests_at_most-returns-else-limit-gt0
nests_at_most-returns-else-limit-gt0 t c =
    let parts = c.in-Tuple.parts in
    deep_none (greatest (map depth (map constant_value parts))) c.args.limit c.if-limit-gt0.false
    ∙ ap (λ d. nat_le d c.args.limit) (sym (ap depth_of c.in-Tuple.is ∙ tuple_depth parts))

pub nests_at_most-returns-in-Empty : goal.nests_at_most-returns-in-Empty
nests_at_most-returns-in-Empty t c = deep_all c.args.limit ∙ ap (λ d. nat_le d c.args.limit) (sym (ap depth_of c.in-Empty.is ∙ empty_depth))

pub nests_at_most-returns-in-Integer : goal.nests_at_most-returns-in-Integer
nests_at_most-returns-in-Integer t c = flat_none c.args.limit ∙ ap (λ d. nat_le d c.args.limit) (sym (flat c.args.constant.now c.in-Integer.is))

pub nests_at_most-returns-in-Integer-2 : goal.nests_at_most-returns-in-Integer-2
nests_at_most-returns-in-Integer-2 t c = flat_none c.args.limit ∙ ap (λ d. nat_le d c.args.limit) (sym (flat c.args.constant.now c.in-Integer.is))

pub nests_at_most-returns-in-Integer-3 : goal.nests_at_most-returns-in-Integer-3
nests_at_most-returns-in-Integer-3 t c = flat_none c.args.limit ∙ ap (λ d. nat_le d c.args.limit) (sym (flat c.args.constant.now c.in-Integer.is))
