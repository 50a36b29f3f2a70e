use Rattle.std.proofs.Common.{◌≡◌, ◌∙◌, ap, length}
use Rattle.mon_code.specs.Programs.{Parts}
use Rattle.mon_gate.specs.declared.view.View.{View}
use Rattle.mon_forms.specs.declared.plan.Workload.{Workload}
use Rattle.mon_run.proofs.Gathering.{settled, whole_of}
use Rattle.mon_run.proofs.Assembling.{gathered_is_legal}
use Rattle.mon_run.proofs.threads_run.finish.Goals as goal

pub returns-clause-legal : goal.returns-clause-legal
returns-clause-legal g c early first zeros grown =
    let p : Parts = c.args.lent.now.program.now in let plan : Workload = c.args.lent.now.plan.now in
    let v : View = c.args.home.now.chair.me.0 in let w : View = c.settle.new.pass.chair.me.0 in
    let is : w ≡ record v { seen = w.seen } = c.settle.ensures.view in
    let home = settled p plan c.args.control v w c.args.slots c.requires.gathered is c.settle.ensures.whole in
    let full : length w.ended ≡ w.threads = ap (λ (z : View). length z.ended) is ∙ (c.requires.all ∙ Rattle.std.proofs.Common.sym home.threads) in
    gathered_is_legal p plan c.args.control w early c.args.slots (record { journal = c.into_journal.result; threads = c.in_ok-threads.threads })
    c.requires.proper home (whole_of v w c.requires.gathered.idle is c.settle.ensures.whole) full first zeros grown c.into_journal.ensures.lines c.in_ok-threads.ensures
