use Rattle.std.proofs.Common.{◌≡◌, ◌∙◌, [], ap, length}
use Rattle.mon_code.specs.Programs.{Parts}
use Rattle.mon_gate.specs.declared.gate.Gate.{Gate}
use Rattle.mon_gate.specs.declared.view.View.{View}
use Rattle.mon_forms.specs.declared.plan.Workload.{Workload}
use Rattle.mon_run.proofs.Turning.{ok_of}
use Rattle.mon_run.proofs.Lending.{few_due}
use Rattle.mon_run.proofs.Homing.{belongs, idle, worked, gathered, made, all_in, comes_home, home_still}
use Rattle.mon_run.proofs.threads_run.run_from.Goals as goal

pub list_tasks-tasks-requires-clause-few : goal.list_tasks-tasks-requires-clause-few
list_tasks-tasks-requires-clause-few g c =
    few_due c.args.lent.now.plan.now c.make_before-before.new.control.journal c.requires.fits.calls (ok_of c.make_before-before.result.0 c.in_default.field-0 _ c.in_default.is c.make_before-before.ensures.asked)

pub run_tasks-governed-requires-clause-listed : goal.run_tasks-governed-requires-clause-listed
run_tasks-governed-requires-clause-listed g c κs ok =
    let l = c.list_tasks-tasks.ensures.listed in (c.end-first.result.chair.me.0.first, l.0, l.1)

pub gather_all-requires-clause-gate : goal.gather_all-requires-clause-gate
gather_all-requires-clause-gate g c =
    let p : Parts = c.args.lent.now.program.now in let plan : Workload = c.args.lent.now.plan.now in let gate : Gate = c.args.lent.now.gate.now in let first : View = c.end-first.result.chair.me.0 in
    let shares = c.make_before-before.ensures.shares in
    let begun : first.ended ≡ [] = ap (λ (z : View). z.ended) c.end-first.ensures.view ∙ (shares.ended ∙ (ap (λ (z : View). z.ended) c.idle.ensures.view ∙ c.requires.ended)) in
    belongs p plan gate first c.make_before-before.new.control c.list_tasks-tasks.result.items c.run_tasks-governed.result.1.items c.run_tasks-governed.result.0 begun c.list_tasks-tasks.ensures.listed c.run_tasks-governed.ensures.done

pub gather_all-requires-clause-idle : goal.gather_all-requires-clause-idle
gather_all-requires-clause-idle g c =
    let p : Parts = c.args.lent.now.program.now in let plan : Workload = c.args.lent.now.plan.now in let gate : Gate = c.args.lent.now.gate.now in let first : View = c.end-first.result.chair.me.0 in
    let shares = c.make_before-before.ensures.shares in
    let begun : first.ended ≡ [] = ap (λ (z : View). z.ended) c.end-first.ensures.view ∙ (shares.ended ∙ (ap (λ (z : View). z.ended) c.idle.ensures.view ∙ c.requires.ended)) in
    idle p plan gate first c.make_before-before.new.control c.list_tasks-tasks.result.items c.run_tasks-governed.result.1.items c.run_tasks-governed.result.0 begun c.list_tasks-tasks.ensures.listed c.run_tasks-governed.ensures.done

pub gather_all-requires-clause-worked : goal.gather_all-requires-clause-worked
gather_all-requires-clause-worked g c =
    let p : Parts = c.args.lent.now.program.now in let plan : Workload = c.args.lent.now.plan.now in let gate : Gate = c.args.lent.now.gate.now in let first : View = c.end-first.result.chair.me.0 in
    let shares = c.make_before-before.ensures.shares in
    let begun : first.ended ≡ [] = ap (λ (z : View). z.ended) c.end-first.ensures.view ∙ (shares.ended ∙ (ap (λ (z : View). z.ended) c.idle.ensures.view ∙ c.requires.ended)) in
    worked p plan gate first c.make_before-before.new.control c.list_tasks-tasks.result.items c.run_tasks-governed.result.1.items c.run_tasks-governed.result.0 begun c.list_tasks-tasks.ensures.listed c.run_tasks-governed.ensures.done

pub returns-in-Err-made-clause-home : goal.returns-in-Err-made-clause-home
returns-in-Err-made-clause-home g c =
    let p : Parts = c.args.lent.now.program.now in let plan : Workload = c.args.lent.now.plan.now in let gate : Gate = c.args.lent.now.gate.now in let first : View = c.end-first.result.chair.me.0 in
    let shares = c.make_before-before.ensures.shares in
    let begun : first.ended ≡ [] = ap (λ (z : View). z.ended) c.end-first.ensures.view ∙ (shares.ended ∙ (ap (λ (z : View). z.ended) c.idle.ensures.view ∙ c.requires.ended)) in
    let threads : first.threads ≡ length plan.threads = ap (λ (z : View). z.threads) c.end-first.ensures.view ∙ (shares.threads ∙ (ap (λ (z : View). z.threads) c.idle.ensures.view ∙ c.requires.threads)) in
    let all = c.gather_all.ensures.gathered c.run_tasks-governed.result.0.control (gathered p plan gate first c.make_before-before.new.control c.list_tasks-tasks.result.items c.run_tasks-governed.result.1.items c.run_tasks-governed.result.0 begun c.list_tasks-tasks.ensures.listed c.run_tasks-governed.ensures.done c.args.room.slots threads c.requires.slots) in
    comes_home p plan gate first c.make_before-before.new.control c.list_tasks-tasks.result.items c.run_tasks-governed.result.1.items c.run_tasks-governed.result.0 begun c.list_tasks-tasks.ensures.listed c.run_tasks-governed.ensures.done c.gather_all.new.home.chair.me.0 c.gather_all.new.slots all c.gather_all.ensures.tickets c.gather_all.ensures.ended

pub finish-report-requires-clause-gathered : goal.finish-report-requires-clause-gathered
finish-report-requires-clause-gathered g c =
    let p : Parts = c.args.lent.now.program.now in let plan : Workload = c.args.lent.now.plan.now in let gate : Gate = c.args.lent.now.gate.now in let first : View = c.end-first.result.chair.me.0 in
    let shares = c.make_before-before.ensures.shares in
    let begun : first.ended ≡ [] = ap (λ (z : View). z.ended) c.end-first.ensures.view ∙ (shares.ended ∙ (ap (λ (z : View). z.ended) c.idle.ensures.view ∙ c.requires.ended)) in
    let threads : first.threads ≡ length plan.threads = ap (λ (z : View). z.threads) c.end-first.ensures.view ∙ (shares.threads ∙ (ap (λ (z : View). z.threads) c.idle.ensures.view ∙ c.requires.threads)) in
    let all = c.gather_all.ensures.gathered c.run_tasks-governed.result.0.control (gathered p plan gate first c.make_before-before.new.control c.list_tasks-tasks.result.items c.run_tasks-governed.result.1.items c.run_tasks-governed.result.0 begun c.list_tasks-tasks.ensures.listed c.run_tasks-governed.ensures.done c.args.room.slots threads c.requires.slots) in
    all

pub finish-report-requires-clause-all : goal.finish-report-requires-clause-all
finish-report-requires-clause-all g c =
    let p : Parts = c.args.lent.now.program.now in let plan : Workload = c.args.lent.now.plan.now in let gate : Gate = c.args.lent.now.gate.now in let first : View = c.end-first.result.chair.me.0 in
    let shares = c.make_before-before.ensures.shares in
    let begun : first.ended ≡ [] = ap (λ (z : View). z.ended) c.end-first.ensures.view ∙ (shares.ended ∙ (ap (λ (z : View). z.ended) c.idle.ensures.view ∙ c.requires.ended)) in
    all_in p plan gate first c.make_before-before.new.control c.list_tasks-tasks.result.items c.run_tasks-governed.result.1.items c.run_tasks-governed.result.0 begun c.list_tasks-tasks.ensures.listed c.run_tasks-governed.ensures.done c.gather_all.new.home.chair.me.0 c.gather_all.ensures.ended

pub returns-clause-home : goal.returns-clause-home
returns-clause-home g c =
    let p : Parts = c.args.lent.now.program.now in let plan : Workload = c.args.lent.now.plan.now in let gate : Gate = c.args.lent.now.gate.now in let first : View = c.end-first.result.chair.me.0 in
    let shares = c.make_before-before.ensures.shares in
    let begun : first.ended ≡ [] = ap (λ (z : View). z.ended) c.end-first.ensures.view ∙ (shares.ended ∙ (ap (λ (z : View). z.ended) c.idle.ensures.view ∙ c.requires.ended)) in
    let threads : first.threads ≡ length plan.threads = ap (λ (z : View). z.threads) c.end-first.ensures.view ∙ (shares.threads ∙ (ap (λ (z : View). z.threads) c.idle.ensures.view ∙ c.requires.threads)) in
    let all = c.gather_all.ensures.gathered c.run_tasks-governed.result.0.control (gathered p plan gate first c.make_before-before.new.control c.list_tasks-tasks.result.items c.run_tasks-governed.result.1.items c.run_tasks-governed.result.0 begun c.list_tasks-tasks.ensures.listed c.run_tasks-governed.ensures.done c.args.room.slots threads c.requires.slots) in
    home_still plan c.gather_all.new.home.chair.me.0 c.finish-report.new.home.chair.me.0 c.finish-report.ensures.view (
    comes_home p plan gate first c.make_before-before.new.control c.list_tasks-tasks.result.items c.run_tasks-governed.result.1.items c.run_tasks-governed.result.0 begun c.list_tasks-tasks.ensures.listed c.run_tasks-governed.ensures.done c.gather_all.new.home.chair.me.0 c.gather_all.new.slots all c.gather_all.ensures.tickets c.gather_all.ensures.ended)

pub returns-clause-legal : goal.returns-clause-legal
returns-clause-legal g c =
    let p : Parts = c.args.lent.now.program.now in let plan : Workload = c.args.lent.now.plan.now in let gate : Gate = c.args.lent.now.gate.now in let first : View = c.end-first.result.chair.me.0 in
    let shares = c.make_before-before.ensures.shares in
    let begun : first.ended ≡ [] = ap (λ (z : View). z.ended) c.end-first.ensures.view ∙ (shares.ended ∙ (ap (λ (z : View). z.ended) c.idle.ensures.view ∙ c.requires.ended)) in
    let grown = ok_of c.run_tasks-governed.result.0.made c.in_default-made.field-0 _ c.in_default-made.is (made p plan gate first c.make_before-before.new.control c.list_tasks-tasks.result.items c.run_tasks-governed.result.1.items c.run_tasks-governed.result.0 begun c.list_tasks-tasks.ensures.listed c.run_tasks-governed.ensures.done) in
    c.finish-report.ensures.legal c.make_before-before.new.control.journal (ok_of c.make_before-before.result.0 c.in_default.field-0 _ c.in_default.is c.make_before-before.ensures.asked) c.make_before-before.ensures.zero grown
