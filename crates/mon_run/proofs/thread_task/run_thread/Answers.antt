use Rattle.std.proofs.Common.{◌≡◌, ◌∙◌, Some, slice_get, ap, sym, subst}
use Rattle.mon_code.specs.Programs.{Parts}
use Rattle.mon_gate.specs.Plays.{ended_of}
use Rattle.mon_gate.specs.declared.view.View.{View}
use Rattle.mon_machine.specs.Advances.{Progress}
use Rattle.mon_forms.specs.declared.plan.Start.{Start}
use Rattle.mon_forms.specs.declared.plan.Workload.{Workload}
use Rattle.mon_run.specs.Rounds.{Worked}
use Rattle.mon_run.specs.Crowding.{Claimed}
use Rattle.mon_run.proofs.Turning.{ok_of}
use Rattle.mon_run.proofs.Working.{claimed_left, worked}
use Rattle.mon_run.proofs.thread_task.run_thread.Goals as goal

pub returns-in-Ok-answer-clause-worked : goal.returns-in-Ok-answer-clause-worked
returns-in-Ok-answer-clause-worked g c =
    let p : Parts = c.args.lent.now.program.now in let own : Parts = c.in-Ok.program in let plan : Workload = c.args.lent.now.plan.now in
    let v : View = c.args.seat.chair.me.0 in let w : View = c.rounds-answer.result.1.chair.me.0 in
    let s : Start = c.in-Some.start.now in let q : Progress = c.in-Ok-begin_own.thread.progress in let u : Progress = c.rounds-answer.new.thread.progress in
    let same : own ≡ p = c.in-Ok.ensures in let e = c.rounds-answer.ensures in
    let claimed : Claimed own plan v = subst (λ (z : Parts). Claimed z plan v) (sym same) c.requires.claimed in
    let left = ok_of c.rounds-answer.result.0 c.in-Ok-answer.field-0 _ c.in-Ok-answer.is (e.left s (claimed_left own plan s v q claimed c.in-Ok-begin_own.ensures)) in
    let done = ok_of c.rounds-answer.result.0 c.in-Ok-answer.field-0 _ c.in-Ok-answer.is e.done in
    let found : slice_get plan.threads w.number ≡ Some s = ap (slice_get plan.threads) (e.number ∙ (c.args.seat.named ∙ sym c.number.ensures)) ∙ sym c.in-Some.ensures.value in
    subst (λ (z : Parts). Worked z plan v.first (ended_of w) c.finish.result) same (worked own plan s v.first w u c.finish.result found e.shares.first left e.within done c.finish.ensures)
