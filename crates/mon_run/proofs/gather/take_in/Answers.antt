use Rattle.std.proofs.Common.{sym, subst, List, Option}
use Rattle.mon_words.specs.History.{Begins}
use Rattle.mon_words.proofs.Histories.{begins_trans}
use Rattle.mon_gate.specs.Plays.{joined, Whole}
use Rattle.mon_gate.specs.declared.view.View.{View}
use Rattle.mon_recorders.specs.declared.report.ThreadReport.{ThreadReport}
use Rattle.mon_run.specs.Crowding.{Gathered}
use Rattle.mon_run.proofs.Gathering.{one_ended, settled_view, taken}
use Rattle.mon_run.proofs.gather.take_in.Goals as goal

pub returns-clause-ended : goal.returns-clause-ended
returns-clause-ended c =
    let v : View = c.args.home.now.chair.me.0 in let u : View = c.args.one.pass.chair.me.0 in let x : View = c.join.new.pass.chair.me.0 in let w : View = c.settle.new.pass.chair.me.0 in
    one_ended v u w w.seen (settled_view v u x w c.join.ensures.view c.settle.ensures.view) c.requires.worked.1.out c.requires.worked.1.ended

pub returns-clause-gathered : goal.returns-clause-gathered
returns-clause-gathered c d home =
    let v : View = c.args.home.now.chair.me.0 in let u : View = c.args.one.pass.chair.me.0 in let x : View = c.join.new.pass.chair.me.0 in let w : View = c.settle.new.pass.chair.me.0 in
    let whole : Whole (joined v u) w.seen = subst (λ (z : View). Whole z w.seen) c.join.ensures.view c.settle.ensures.whole in
    let begins : Begins v.seen w.seen = begins_trans v.seen x.seen w.seen c.join.ensures.begins c.settle.ensures.whole.begins in
    subst (λ (z : List (Option ThreadReport)). Gathered c.args.program.now c.args.plan.now d w z) (sym c.set.ensures)
    (taken c.args.program.now c.args.plan.now d v u w c.args.one.number c.args.one.report c.args.slots.now home c.requires.worked.1 (settled_view v u x w c.join.ensures.view c.settle.ensures.view) begins whole)
