use Rattle.std.proofs.Common.{ap, sym, ◌∙◌}
use Rattle.mon_values.specs.declared.value.Value.{Text}
use Rattle.mon_values.proofs.Making as making
use Rattle.mon_values.proofs.Weighing.{repeat_none}
use Rattle.mon_values.proofs.arith.repeat_text.Goals as goal

pub returns-then-not-product_fits : goal.returns-then-not-product_fits
returns-then-not-product_fits c = making.refused (making.text_too_large c.args.count c.len.result c.args.text.now c.product_fits.result c.len.ensures c.product_fits.ensures c.if-not-product_fits.true)

pub returns-then-is_empty : goal.returns-then-is_empty
returns-then-is_empty c =
    let none = repeat_none c.args.count c.args.text.now (c.is_empty.ensures.0 c.if-is_empty.true) in
    making.given (making.text_repeated c.args.count c.len.result c.args.text.now c.product_fits.result c.len.ensures c.product_fits.ensures c.if-not-product_fits.false) (ap Text (c.new.ensures ∙ sym none))

pub returns : goal.returns
returns c = making.given (making.text_repeated c.args.count c.len.result c.args.text.now c.product_fits.result c.len.ensures c.product_fits.ensures c.if-not-product_fits.false) (ap Text c.in_ok-copies_of_text.ensures)
