use Rattle.std.proofs.Common.{rules, ℕ, List, subst, IfOk}
use Rattle.mon_forms.specs.Plans.{plan_of}
use Rattle.mon_main.proofs.Told.{run_due}
use Rattle.mon_main.specs.Answers.{ByPlan, Serially}
use Rattle.mon_main.specs.Replies.{answer_of}
use Rattle.mon_main.proofs.reply.replay.Goals as goal

pub returns-in_ok-text-in-Ok-clause-due : goal.returns-in_ok-text-in-Ok-clause-due
returns-in_ok-text-in-Ok-clause-due g c = λ reading p tells.
    let due : IfOk c.replayed.result (λ x. ByPlan Serially c.in-Ok.compiled.program (plan_of c.in-Ok.compiled.program c.in_ok-text-in-Ok.text.items) (answer_of x).status (answer_of x).text) =
    subst (λ (l : List ℕ). IfOk c.replayed.result (λ x. ByPlan Serially c.in-Ok.compiled.program (plan_of c.in-Ok.compiled.program l) (answer_of x).status (answer_of x).text)) c.as_slice-in-Ok.ensures.value c.replayed.ensures.due in
    run_due Serially c.in-Ok.compiled reading _ _ p c.in_ok-text-in-Ok.text.items _ tells.1 (search rules) (search rules) c.in_ok-text-in-Ok.ensures.bytes due
