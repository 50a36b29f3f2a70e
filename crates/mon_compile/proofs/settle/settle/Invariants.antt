use Rattle.std.proofs.Common.{◌≡◌}
use Rattle.mon_compile.specs.Open as opened
use Rattle.mon_compile.proofs.settle.settle.Given as goal

abbrev pub invariant-loop-i : goal.invariant-loop-i
invariant-loop-i l = opened.changed_from (opened.settled l.unknown l.done) l.i l.code.items ≡ opened.changed_from (opened.settled l.unknown l.done) l.from l.fn.code.items
