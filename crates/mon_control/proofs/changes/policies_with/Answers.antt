use Rattle.std.proofs.Common.{rules, arith, sym, ◌≡◌, ◌∙◌, ap, ◌+◌, subst, ℕ, List}
use Rattle.mon_events.specs.Events.{event_at}
use Rattle.mon_events.specs.Sets.{has}
use Rattle.mon_history.specs.declared.calls.Policy.{Policy}
use Rattle.mon_control.proofs.Policies.{Policied, policied_none, policied_set, policied_kept, policied_all}
use Rattle.mon_control.proofs.changes.policies_with.Goals as goal
use Rattle.mon_control.proofs.changes.policies_with.Goals.{then-has, else-has}

pub loop-number-init : goal.loop-number-init
loop-number-init c = policied_none c.args.set.0 c.args.policy c.args.policies (search rules)

pub loop-number-preserved : goal.loop-number-preserved
loop-number-preserved c =
    let n : ℕ = c.loop-number.number in
    let is : has c.args.set.0 (event_at n) ≡ c.has.result = ap (has c.args.set.0) (sym c.event_at.ensures) ∙ sym c.has.ensures in
    elim c.if-has.branch [
      | then-has w ↦ subst (λ (z : List Policy). Policied c.args.set.0 c.args.policy (n + 1) c.args.policies z) (sym w.changed-is)
          (policied_set c.args.set.0 c.args.policy n (n + 1) c.args.policies c.loop-number.changed (omega arith) (omega (arith, c.loop-number-test.true)) (is ∙ w.if-has.true) c.loop-number.invariant)
      | else-has w ↦ subst (λ (z : List Policy). Policied c.args.set.0 c.args.policy (n + 1) c.args.policies z) (sym w.changed-is)
          (policied_kept c.args.set.0 c.args.policy n (n + 1) c.args.policies c.loop-number.changed (omega arith) (is ∙ w.if-has.false) c.loop-number.invariant)
    ]

pub returns : goal.returns
returns c = policied_all c.args.set.0 c.args.policy c.loop-number.number c.args.policies c.loop-number.changed (omega arith) c.loop-number.invariant
