use Rattle.std.proofs.Common.{ap, ◌∙◌, arith, subst}
use Rattle.std.specs.Prelude.{Err}
use Rattle.mon_parser.specs.Derives.{HasTree, TreeOf}
use Rattle.mon_parser.specs.Tokens.{first_line}
use Rattle.mon_parser.proofs.Modules.{module_none, module_more, module_stops, module_ends, module_fails}
use Rattle.mon_parser.proofs.parser.parse.Goals as goal

pub loop-item-init : goal.loop-item-init
loop-item-init c = module_none c.args.items.now c.new-trees.result c.new-trees.ensures

pub returns-in_err-push-in-Ok : goal.returns-in_err-push-in-Ok
returns-in_err-push-in-Ok c = module_fails c.args.items.now c.from_residual.result c.from_residual.ensures.1

pub returns-in-Err-Syntax : goal.returns-in-Err-Syntax
returns-in-Err-Syntax c =
    let none : ¬ HasTree c.as_slice-tokens.result.now = subst (λ f. TreeOf c.as_slice-tokens.result.now (Err f)) c.in-Err-Syntax.field-0-is c.in-Err-Syntax.ensures in
    module_stops c.args.items.now c.loop-item.item-index c.line.result c.item-item.result c.as_slice-tokens.result.now c.loop-item.trees c.loop-item-test.true c.item-item.is c.as_slice-tokens.ensures c.loop-item.invariant none (c.line.ensures ∙ ap first_line c.new.ensures)

pub loop-item-preserved : goal.loop-item-preserved
loop-item-preserved c =
    module_more c.args.items.now c.loop-item.item-index c.item-item.result c.as_slice-tokens.result.now c.loop-item.trees c.push.new.self c.in-Ok.tree c.loop-item-test.true c.item-item.is c.as_slice-tokens.ensures c.loop-item.invariant c.in-Ok.ensures c.in_ok-push-in-Ok.ensures.ok

pub returns : goal.returns
returns c = module_ends c.args.items.now c.loop-item.item-index c.loop-item.trees (omega (arith, c.loop-item-test.false)) c.loop-item.invariant
