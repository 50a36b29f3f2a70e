use Rattle.std.proofs.Common.{◌≡◌, true, drop, Ok}
use Rattle.mon_forms.specs.Lines.{words_of, is_plain_line}
use Rattle.mon_forms.specs.Calls.{with_operands, operands_of, no_parts}
use Rattle.mon_forms.proofs.draft.call_of.Given as goal

abbrev pub invariant-loop-operand : goal.invariant-loop-operand
invariant-loop-operand l =
    (with_operands l.program (Ok l.parts) (drop l.operand-index (operands_of l.kind)) (words_of l.rest)
    ≡ with_operands l.program (Ok no_parts) (operands_of l.kind) (words_of l.line))
    × (is_plain_line l.rest ≡ true)
