use Rattle.std.proofs.Common.{◌≤◌, ◌∷◌, List, length, drop, ap, ◌∙◌, arith}
use Rattle.std.proofs.lemmas.List.{length-reverse}
use Rattle.mon_values.specs.declared.value.Value.{Value}
use Rattle.mon_frames.proofs.Lists.{two_replaced}
use Rattle.mon_frames.proofs.frame.Operands.replace_two.Goals as goal

pub returns : goal.returns
returns c =
    let xs : List Value = c.self.inside.items.items in
    let two : 2 ≤ length xs = omega (arith, c.requires, ap length c.self.view_is, length-reverse xs) in
    two_replaced xs c.pop.new.self.items c.pop-4.new.self.items c.push_reserved.new.self.items _ _ c.args.value c.self.inside.items.ok.0 two c.pop.ensures.rest c.pop.new.self.ok.0 c.pop-4.ensures.rest c.push_reserved.ensures.items
    ∙ ap (λ (l : List Value). c.args.value ∷ drop 2 l) c.self.view_is
