use Rattle.std.proofs.Common.{◌∷◌, [], List, map}
use Rattle.mon_trees.specs.declared.tree.ModuleItem.{ModuleItem}
use Rattle.mon_compile.specs.Faults as spec
use Rattle.mon_compile.specs.Functions.{joined}
use Rattle.mon_compile.specs.Modules.{functions_of}
use Rattle.mon_compile.proofs.Least.{earlier_next, of_functions}
use Rattle.mon_compile.proofs.misplaced.misplaced.Goals as goal

pub loop-item-preserved : goal.loop-item-preserved
loop-item-preserved c =
    earlier_next (λ (x : ModuleItem). joined (map spec.misplaced_in (functions_of (x ∷ [])))) (λ (l : List ModuleItem). joined (map spec.misplaced_in (functions_of l))) (of_functions spec.misplaced_in) c.args.items.now _ _ _ _ _ _
    c.loop-item-test.true c.item-item.is c.in_ok-misplaced_in_item.ensures c.earlier-line.ensures c.loop-item.invariant
