use Rattle.std.proofs.Common.{◌≡◌, ◌∙◌, ◌∷◌, ◌++◌, [], List, sym, ap, subst, length, arith}
use Rattle.mon_code.specs.Programs.{Parts}
use Rattle.mon_gate.specs.declared.gate.Gate.{Gate}
use Rattle.mon_forms.specs.declared.plan.Workload.{Workload}
use Rattle.mon_run.specs.declared.tasks.Task.{Task}
use Rattle.mon_run.specs.Tasks.{AreListed, IsGoverned}
use Rattle.mon_run.proofs.Tasking.{whole_back, governed_there, listed_long, listed_due, last_governed, all_worked, many}
use Rattle.mon_run.proofs.threads_run.run_tasks.Goals as goal

pub unreachable-requires : goal.unreachable-requires
unreachable-requires g c =
    let p : Parts = c.args.lent.now.program.now in let plan : Workload = c.args.lent.now.plan.now in let gate : Gate = c.args.lent.now.gate.now in
    let l = c.requires.listed in let none = c.in_default.ensures.cases in let long = listed_long p plan l.0 gate l.1 c.args.tasks.items l.2 in
    let same = ap length c.as_mut_slice.ensures.value in
    omega (arith, none.0, long, c.as_mut_slice.ensures.len, same)

pub governed_in-requires : goal.governed_in-requires
governed_in-requires g c =
    let p : Parts = c.args.lent.now.program.now in let plan : Workload = c.args.lent.now.plan.now in let gate : Gate = c.args.lent.now.gate.now in
    let old : List Task = c.as_mut_slice.result.now in let news : List Task = c.do_tasks.new.tasks in let rest : List Task = c.pop.new.self.items in let last : Task = c.in-Some.last in
    let value : old ≡ c.args.tasks.items = c.as_mut_slice.ensures.value in let long = ap length value in
    let is : news ≡ rest ++ last ∷ [] = sym (whole_back c.args.tasks.len news c.args.tasks.items (c.do_tasks.ensures.length ∙ long) (sym c.as_mut_slice.ensures.len ∙ long)) ∙ c.in-Some.ensures.items in
    let l = c.requires.listed in let there = subst (AreListed p plan l.0 gate l.1) (sym value) l.2 in
    governed_there p plan gate l.1 last (last_governed p plan l.0 gate l.1 old there news rest last c.do_tasks.ensures.length (c.do_tasks.ensures.done l.0 (listed_due p plan l.0 gate l.1 old there)) is)

pub returns : goal.returns
returns g c =
    let p : Parts = c.args.lent.now.program.now in let plan : Workload = c.args.lent.now.plan.now in let gate : Gate = c.args.lent.now.gate.now in
    let old : List Task = c.as_mut_slice.result.now in let news : List Task = c.do_tasks.new.tasks in let rest : List Task = c.pop.new.self.items in let last : Task = c.in-Some.last in
    let value : old ≡ c.args.tasks.items = c.as_mut_slice.ensures.value in let long = ap length value in
    let is : news ≡ rest ++ last ∷ [] = sym (whole_back c.args.tasks.len news c.args.tasks.items (c.do_tasks.ensures.length ∙ long) (sym c.as_mut_slice.ensures.len ∙ long)) ∙ c.in-Some.ensures.items in
    record {
      done = λ board a l.
          let there = subst (AreListed p plan board gate a) (sym value) l in let each = c.do_tasks.ensures.done board (listed_due p plan board gate a old there) in (
            subst (IsGoverned p plan gate a) c.governed_in.ensures (last_governed p plan board gate a old there news rest last c.do_tasks.ensures.length each is),
            all_worked p plan board gate a old there news rest last c.do_tasks.ensures.length each is,
            many p plan board gate a old there news rest last c.do_tasks.ensures.length each is,
          );
    }
