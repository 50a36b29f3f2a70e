use Rattle.std.proofs.Common.{◌≡◌, ◌∙◌, refl, ap, length, arith}
use Rattle.mon_gate.specs.declared.view.View.{View}
use Rattle.mon_run.specs.declared.tasks.Governor.{Governor}
use Rattle.mon_run.proofs.Lending.{governs_still}
use Rattle.mon_run.proofs.threads_run.list_tasks.Goals as goal

pub returns : goal.returns
returns g c = record {
  listed =
      let v : View = c.args.first.chair.me.0 in let w : View = c.loop-turn.first.chair.me.0 in let i = c.loop-turn.invariant in
      let all : c.loop-turn._turn ≡ length c.args.lent.now.plan.now.threads = omega (arith, c.loop-turn.auto._turn-end, c.loop-turn-test.false, c.len-turn-end.ensures) in
      let none : w.tickets ≡ 0 = omega (arith, i.tickets, c.requires.tickets, all) in
      let is : w ≡ record v { tickets = 0 } = i.view ∙ ap (λ n. record v { tickets = n }) none in
      let a : Governor = record { control = c.args.control; first = c.loop-turn.first } in (
        a,
        record {
          jobs = c.loop-turn.tasks.items;
          is = c.in-Ok-push.ensures.items;
          many = i.many ∙ all;
          due = i.due;
          may = record { belongs = i.gate; idle = ap (λ (z : View). z.phase) is ∙ c.requires.idle; governs = governs_still c.args.lent.now.program.now c.args.control v w 0 is c.requires.governs; few = c.requires.few };
        },
        refl,
        is,
      );
}
