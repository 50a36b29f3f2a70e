use Rattle.std.proofs.Common.{sym, ◌∙◌, arith}
use Rattle.mon_builtins.specs.Literals.{number_from}
use Rattle.mon_builtins.proofs.Numerals.{digit_turn, underscore_turn}
use Rattle.mon_builtins.proofs.literal.number.Goals as goal
use Rattle.mon_builtins.proofs.literal.number.Goals.{then-is_digit, else-is_digit+then-c-eq95+then-after_digit}

pub loop-c-preserved : goal.loop-c-preserved
loop-c-preserved c =
    elim c.if-is_digit.branch [
      | then-is_digit w ↦
          digit_turn (number_from 0 c.args.chars.now) c.loop-c.after_digit c.if-is_digit.after_digit c.loop-c.sum c.if-is_digit.sum c.loop-c.c-index c.c-item.result c.c-item.result c.args.chars.now c.loop-c.invariant c.loop-c-test.true c.c-item.is
          (sym c.is_digit.ensures ∙ w.if-is_digit.true) (omega (arith, w.sum-is, w.saturating_add-sum.ensures, w.saturating_mul.ensures)) w.after_digit-is
      | else-is_digit+then-c-eq95+then-after_digit w ↦
          underscore_turn (number_from 0 c.args.chars.now) c.loop-c.after_digit c.if-is_digit.after_digit c.loop-c.sum c.if-is_digit.sum c.loop-c.c-index c.c-item.result c.c-item.result c.args.chars.now c.loop-c.invariant c.loop-c-test.true c.c-item.is
          w.if-c-eq95.true w.if-after_digit.true w.sum-is w.after_digit-is
    ]
