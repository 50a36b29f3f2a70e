use Rattle.std.proofs.Common.{◌≡◌, ◌+◌, ◌-◌, List, length, reverse, take, drop, ap, ◌∙◌, arith}
use Rattle.std.proofs.lemmas.List.{length-reverse}
use Rattle.mon_values.specs.declared.value.Value.{Value}
use Rattle.mon_frames.proofs.Lists.{top_reversed, left_reversed}
use Rattle.mon_frames.proofs.frame.Operands.take_top.Goals as goal

pub returns-clause-taken : goal.returns-clause-taken
returns-clause-taken c =
    let xs : List Value = c.self.inside.items.items in
    let cut : c.len.result - c.args.count + c.args.count ≡ length xs = omega (arith, c.len.ensures, c.self.inside.items.ok.0, c.requires, ap length c.self.view_is, length-reverse xs) in
    c.in_ok-taken.ensures.tail ∙ top_reversed xs (c.len.result - c.args.count) c.args.count cut ∙ ap (λ (l : List Value). reverse (take c.args.count l)) c.self.view_is

pub returns-clause-left : goal.returns-clause-left
returns-clause-left c =
    let xs : List Value = c.self.inside.items.items in
    let cut : c.len.result - c.args.count + c.args.count ≡ length xs = omega (arith, c.len.ensures, c.self.inside.items.ok.0, c.requires, ap length c.self.view_is, length-reverse xs) in
    ap (λ (l : List Value). reverse l) c.in_ok-taken.ensures.items ∙ left_reversed xs (c.len.result - c.args.count) c.args.count cut ∙ ap (λ (l : List Value). drop c.args.count l) c.self.view_is
