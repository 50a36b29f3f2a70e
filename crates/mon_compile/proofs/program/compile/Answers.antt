use Rattle.std.proofs.Common.{◌∙◌, List, ap, sym, subst}
use Rattle.mon_code.specs.Checked.{IsChecked}
use Rattle.mon_trees.specs.declared.tree.ModuleItem.{ModuleItem}
use Rattle.mon_compile.specs.Faults.{FewLocals}
use Rattle.mon_compile.specs.Modules as spec
use Rattle.mon_compile.proofs.Listed.{no_fault, assembled}
use Rattle.mon_compile.proofs.Programs.{compiled_checked, few_locals}
use Rattle.mon_compile.proofs.program.compile.Goals as goal

pub list_codes-requires : goal.list_codes-requires
list_codes-requires c = subst (λ (l : List ModuleItem). FewLocals (spec.functions_of l)) (sym c.as_slice-items.ensures) (few_locals c.args.module.now (sym c.in_ok-fault.ensures ∙ c.in_default.is))

pub new-program-requires : goal.new-program-requires
new-program-requires c =
    let m = c.args.module.now in
    let listed = c.in_ok-listing.ensures in
    subst IsChecked
    (sym (assembled m c.as_slice-items.result.now _ _ _ _ c.as_slice-items.ensures (c.names-2.view_is ∙ c.in_ok-names.ensures) c.in_ok-constants.ensures listed.0 (c.in_ok-from_slice.ensures ∙ c.as_slice.ensures.value ∙ listed.1.0)))
    (compiled_checked m (no_fault m _ _ c.in_ok-fault.ensures c.in_default.is c.as_slice-items.ensures listed.1.1))

pub returns : goal.returns
returns c =
    let m = c.args.module.now in
    let listed = c.in_ok-listing.ensures in (
      no_fault m _ _ c.in_ok-fault.ensures c.in_default.is c.as_slice-items.ensures listed.1.1,
      (
        c.new-program.ensures
            ∙ assembled m c.as_slice-items.result.now _ _ _ _ c.as_slice-items.ensures (c.names-2.view_is ∙ c.in_ok-names.ensures) c.in_ok-constants.ensures listed.0 (c.in_ok-from_slice.ensures ∙ c.as_slice.ensures.value ∙ listed.1.0),
        listed.1.0 ∙ ap (λ l. spec.bases_of (spec.functions_of l)) c.as_slice-items.ensures,
      ),
    )
