use Rattle.std.proofs.Common.{◌≡◌, drop}
use Rattle.mon_builtins.specs.Builtins.{behind}
use Rattle.mon_builtins.proofs.print.with_others.Given as goal

abbrev pub invariant-loop-arg : goal.invariant-loop-arg
invariant-loop-arg l = behind l.fn.first l.names l.others ≡ behind l.line l.names (drop l.arg-index l.others)
