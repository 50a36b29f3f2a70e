use Rattle.std.proofs.Common.{◌≡◌, ◌-◌, arith, sym, ap, ◌∙◌, take, drop, length, length-drop}
use Rattle.std.proofs.lemmas.List.{take_all}
use Rattle.mon_values.specs.Containing.{begins_with}
use Rattle.mon_values.proofs.Texts.{stands_next}
use Rattle.mon_values.proofs.contain.stands_in.Goals as goal

pub loop-start-preserved : goal.loop-start-preserved
loop-start-preserved c =
    let rest = drop c.loop-start.start c.args.text.now in
    let whole : take (length c.args.text.now - c.loop-start.start) rest ≡ rest = take_all (length c.args.text.now - c.loop-start.start) rest (omega (arith, length-drop c.loop-start.start c.args.text.now)) in
    sym (stands_next c.args.part.now c.args.text.now c.loop-start.start c.loop-start-test.true (ap (begins_with c.args.part.now) (sym whole) ∙ sym c.begins_with.ensures ∙ c.if-begins_with.false))
    ∙ c.loop-start.invariant
