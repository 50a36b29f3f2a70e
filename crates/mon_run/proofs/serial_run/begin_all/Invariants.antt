use Rattle.std.proofs.Common.{◌≡◌, map, take}
use Rattle.mon_machine.specs.Advances.{nothing_done}
use Rattle.mon_forms.specs.declared.plan.Start.{Start}
use Rattle.mon_run.specs.Reports.{begins}
use Rattle.mon_run.specs.Replaying.{progress_all}
use Rattle.mon_run.proofs.serial_run.begin_all.Given as goal

abbrev pub invariant-loop-start : goal.invariant-loop-start
invariant-loop-start l = progress_all l.threads.items ≡ map (λ (s : Start). nothing_done (begins l.program s)) (take l.start-index l.plan.threads)
