use Rattle.std.proofs.Common.{rules, ◌≡◌, ◌∙◌, sym, ap, cond, w64, nat_abs}
use Rattle.std.proofs.lemmas.Int.{to_z-of_z}
use Rattle.mon_events.specs.Sets.{has}
use Rattle.mon_history.specs.Configuration.{Configuration, put}
use Rattle.mon_history.specs.Kept.{config_of}
use Rattle.mon_control.proofs.calls.change_policy.Goals as goal

pub returns-in-Some-clause-change : goal.returns-in-Some-clause-change
returns-in-Some-clause-change c =
    let C : Configuration = config_of c.args.config.now in
    let t : c.in-Some.tool ≡ nat_abs c.args.id = sym (ap nat_abs (sym (to_z-of_z w64 c.args.id (search rules))) ∙ c.in-Some.ensures.number) in
    c.set_policy.ensures.change ∙ (λ i. record C { calls = put C.calls (t i) (λ e. cond (has c.args.set.0 e) c.args.policy (C.calls (t i) e)) })
