use Rattle.std.proofs.Common.{ap, ◌∙◌, rules, FitsSigned, w64}
use Rattle.std.proofs.lemmas.Int.{to_z-of_z}
use Rattle.mon_trees.specs.declared.tree.Expression as tree
use Rattle.mon_parser.proofs.Operands.{leaf_single, leaf_number, leaf_name, leaf_none, leaf_text}
use Rattle.mon_parser.proofs.operand.leaf.Goals as goal

pub returns-in-Some : goal.returns-in-Some
returns-in-Some c = leaf_single _ _ _ _ c.in-Some.ensures c.leaf.ensures

pub returns-in-Some-take_number : goal.returns-in-Some-take_number
returns-in-Some-take_number c =
    let fits : FitsSigned w64 c.in-Some-take_number.value = search rules in
    leaf_number _ _ _ _ _ c.in_default.ensures c.in-Some-take_number.ensures (c.leaf-in-Some-take_number.ensures ∙ ap (λ z. tree.Integer z) (to_z-of_z w64 c.in-Some-take_number.value fits))

pub returns-in-Some-take_name : goal.returns-in-Some-take_name
returns-in-Some-take_name c = leaf_name _ _ _ _ _ _ c.in_default.ensures c.in_default-take_number.ensures c.in-Some-take_name.ensures (c.leaf-in-Some-take_name.ensures ∙ ap (λ n. tree.Name n) c.in_ok-name.ensures)

pub returns-in-None : goal.returns-in-None
returns-in-None c = leaf_none _ _ _ _ _ c.in_default.ensures c.in_default-take_number.ensures c.in_default-take_name.ensures c.in-None.ensures

pub returns-in_ok-joined-in-Some-take_text : goal.returns-in_ok-joined-in-Some-take_text
returns-in_ok-joined-in-Some-take_text c = leaf_text _ _ _ _ _ _ _ _ _ c.in_default.ensures c.in_default-take_number.ensures c.in_default-take_name.ensures c.in-Some-take_text.ensures c.in_ok-joined-in-Some-take_text.ensures c.leaf-in-Some-take_text.ensures
