use Rattle.std.proofs.Common.{◌&&◌, get_or}
use Rattle.mon_words.specs.Words.{is_bit, is_called}
use Rattle.mon_hear.proofs.Bits.{Chosen}
use Rattle.mon_hear.proofs.words.called_tools.Given as goal

abbrev pub invariant-loop-tool : goal.invariant-loop-tool
invariant-loop-tool l = Chosen (λ t. is_bit l.fn.tools t && is_called (get_or l.fn.callbacks t 0) l.fn.event) l.tool l.called_by
