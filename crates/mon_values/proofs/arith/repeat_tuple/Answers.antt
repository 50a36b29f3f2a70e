use Rattle.std.proofs.Common.{◌≡◌, ◌==◌, List, [], ◌∷◌, Bool, true, length, arith, refl, ap, sym, ◌∙◌}
use Rattle.mon_values.specs.declared.value.Value.{Tuple}
use Rattle.mon_values.proofs.Making as making
use Rattle.std.specs.List.{repeat}
use Rattle.std.proofs.lemmas.Bool.Decides.{nat_tests}
use Rattle.mon_values.proofs.Weighing.{repeat_none}
use Rattle.mon_values.proofs.arith.repeat_tuple.Goals as goal

no_items : {A : Type 0} (items : List A) (t : Bool) → t ≡ length items == 0 → t ≡ true → items ≡ []
no_items [] t e h = refl
no_items (x ∷ xs) t e h = grind (arith, nat_tests)

pub returns-then-count-eq0 : goal.returns-then-count-eq0
returns-then-count-eq0 c =
    let none : repeat c.args.count c.args.items.now ≡ [] = ap (λ n. repeat n c.args.items.now) c.if-count-eq0.true in
    making.given (making.tuple_empty (repeat c.args.count c.args.items.now) none) (ap Tuple (c.new.ensures ∙ sym none))

pub returns-then-is_empty : goal.returns-then-is_empty
returns-then-is_empty c =
    let empty : c.args.items.now ≡ [] = no_items c.args.items.now c.is_empty.result c.is_empty.ensures c.if-is_empty.true in
    let none = repeat_none c.args.count c.args.items.now empty in
    making.given (making.tuple_empty (repeat c.args.count c.args.items.now) none) (ap Tuple (c.new-then-is_empty.ensures ∙ sym none))

pub returns-in_default : goal.returns-in_default
returns-in_default c = making.refused (making.items_too_large c.args.count c.args.items.now c.spend_items.result (omega arith) c.spend_items.ensures c.in_default.is)

pub returns-then-not-product_fits : goal.returns-then-not-product_fits
returns-then-not-product_fits c =
    making.refused (making.product_too_large c.args.count c.args.items.now c.spend_items.result c.in-Some.left c.product_fits.result c.spend_items.ensures c.in-Some.is c.product_fits.ensures c.if-not-product_fits.true)
