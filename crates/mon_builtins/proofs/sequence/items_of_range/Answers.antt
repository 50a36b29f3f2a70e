use Rattle.std.proofs.Common.{◌≡◌, ◌++◌, ◌∷◌, [], ◌+◌, add-one, sym, ap, ◌∙◌, w64, ℕ, ℤ, List, rules, arith}
use Rattle.std.specs.Prelude.{FitsSigned}
use Rattle.std.proofs.lemmas.Int.{to_z-of_z}
use Rattle.mon_values.specs.declared.value.Value.{Value, Int}
use Rattle.mon_values.specs.Ranges.{range_item}
use Rattle.mon_frames.specs.Items.{range_items}
use Rattle.mon_frames.proofs.Ranges.{range_more}
use Rattle.mon_builtins.proofs.sequence.items_of_range.Goals as goal

pub loop-place-init : goal.loop-place-init
unfolding range_items
loop-place-init c = c.new-items.ensures.items

grown : (items later : List Value) (start step z : ℤ) (place : ℕ) → items ≡ range_items start step 0 place → z ≡ range_item start step place → later ≡ items ++ Int z ∷ [] → later ≡ range_items start step 0 (place + 1)
grown items later start step z place before item is =
    let at : place ≡ 0 + place = omega arith in
    is
    ∙ ap (λ l. l ++ Int z ∷ []) before
    ∙ ap (λ y. range_items start step 0 place ++ Int y ∷ []) (item ∙ ap (λ k. range_item start step k) at)
    ∙ sym (range_more start step 0 place)
    ∙ ap (λ k. range_items start step 0 k) (sym (add-one place))

pub loop-place-preserved : goal.loop-place-preserved
loop-place-preserved c =
    let a : FitsSigned w64 c.args.start = c.ranges.start in
    let b : FitsSigned w64 c.args.stop = c.ranges.stop in
    let s : FitsSigned w64 c.args.step = c.ranges.step in
    let r : FitsSigned w64 c.range_item.result = search rules in
    let before : c.loop-place.items.items ≡ range_items c.args.start c.args.step 0 c.loop-place.place = simp to_z-of_z at c.loop-place.invariant in
    let item : c.range_item.result ≡ range_item c.args.start c.args.step c.loop-place.place = simp to_z-of_z at c.range_item.ensures in
    let later : c.push.new.self.items ≡ c.loop-place.items.items ++ Int c.range_item.result ∷ [] = simp to_z-of_z at c.in_ok-push.ensures.items in
    simp to_z-of_z (grown c.loop-place.items.items c.push.new.self.items c.args.start c.args.step c.range_item.result c.loop-place.place before item later)
