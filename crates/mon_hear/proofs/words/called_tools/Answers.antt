use Rattle.std.proofs.Common.{◌&&◌, get_or, sym, arith}
use Rattle.mon_words.specs.Words.{is_bit, is_called}
use Rattle.mon_hear.proofs.Bits.{chosen_none, chosen_with}
use Rattle.mon_hear.proofs.words.called_tools.Goals as goal

pub loop-tool-init : goal.loop-tool-init
loop-tool-init c = chosen_none (λ t. is_bit c.args.tools t && is_called (get_or c.args.callbacks.now t 0) c.args.event)

pub loop-tool-preserved : goal.loop-tool-preserved
loop-tool-preserved c = chosen_with (λ t. is_bit c.args.tools t && is_called (get_or c.args.callbacks.now t 0) c.args.event) c.loop-tool.tool c.loop-tool.called_by c.with_tool-called_by.result c.is_called_by.result
    (omega (arith, c.loop-tool-test.true)) c.loop-tool.invariant (sym c.is_called_by.ensures) c.with_tool-called_by.ensures
