use Rattle.std.proofs.Common.{rules, arith}
use Rattle.mon_events.proofs.Texts.{large_at}
use Rattle.mon_events.proofs.names.set_of_digits.Goals as goal

pub returns-then-value-from : goal.returns-then-value-from
returns-then-value-from c =
    large_at c.loop-c.value c.loop-c.c-index c.args.digits.now (search rules) (search rules) (omega (arith, c.from.ensures, c.from-in-loop-c.ensures, c.if-value-from.true)) c.loop-c.invariant.0
