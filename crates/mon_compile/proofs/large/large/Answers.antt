use Rattle.std.proofs.Common.{◌∷◌, []}
use Rattle.mon_trees.specs.declared.tree.ModuleItem.{ModuleItem}
use Rattle.mon_compile.specs.Faults as spec
use Rattle.mon_compile.proofs.Least.{earlier_next, of_items}
use Rattle.mon_compile.proofs.large.large.Goals as goal

pub loop-item-preserved : goal.loop-item-preserved
loop-item-preserved c =
    earlier_next (λ (x : ModuleItem). spec.large_lines_in (x ∷ [])) spec.large_lines_in of_items c.args.items.now _ _ _ _ _ _
    c.loop-item-test.true c.item-item.is c.large_in_item.ensures c.earlier-line.ensures c.loop-item.invariant
