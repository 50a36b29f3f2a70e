use Rattle.std.proofs.Common.{◌∙◌}
use Rattle.mon_forms.specs.Reports.{operand_text}
use Rattle.mon_forms.proofs.Written.{one_more_of, same_default}
use Rattle.mon_forms.proofs.journal.write_operands.Goals as goal

pub loop-operand-preserved : goal.loop-operand-preserved
loop-operand-preserved c = λ p names. one_more_of (operand_text p c.args.parts.now) c.args.operands.now _ _ _ _ c.loop-operand-test.true (same_default c.args.operands.now _ _ _ c.loop-operand-test.true) (c.in_ok-write_operand.ensures p names) ∙ c.loop-operand.invariant p names
