use Rattle.std.proofs.Common.{◌≡◌, take}
use Rattle.mon_run.specs.Scripts.{longest}
use Rattle.mon_run.proofs.script_calls.most_calls.Given as goal

abbrev pub invariant-loop-script : goal.invariant-loop-script
invariant-loop-script l = l.most ≡ longest (take l.script-index l.plan.scripts)
