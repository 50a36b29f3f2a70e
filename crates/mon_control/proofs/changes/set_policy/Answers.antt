use Rattle.std.proofs.Common.{rules, refl, ◌≡◌, ◌∙◌, ap, cond, get_or, length, arith}
use Rattle.mon_events.specs.Events.{bit}
use Rattle.mon_events.specs.Sets.{has}
use Rattle.mon_history.specs.declared.calls.Policy.{Policy}
use Rattle.mon_history.specs.declared.config.Tool.{Tool}
use Rattle.mon_instrument.proofs.Numbers.{any_default}
use Rattle.mon_control.proofs.Changing.{changes_policy, keeps_tools}
use Rattle.mon_control.proofs.changes.set_policy.Goals as goal

pub returns-clause-change : goal.returns-clause-change
returns-clause-change c =
    let six : length c.args.config.now.tools ≡ 6 = search rules in
    let same : get_or c.args.config.now.tools c.args.tool c.index-config-tool.result ≡ get_or c.args.config.now.tools c.args.tool c.index-config-tool-2.result = any_default c.args.config.now.tools c.args.tool c.index-config-tool.result c.index-config-tool-2.result (omega (arith, c.requires.low)) in
    changes_policy c.args.config.now c.args.tool _ c.index-config-tool-2.result six c.requires.low c.args.set.0 c.args.policy c.policies_with-policies.result
    (λ e. c.policies_with-policies.ensures e ∙ ap (λ (z : Tool). cond (has c.args.set.0 e) c.args.policy (get_or z.policies (bit e) Policy.Nothing)) same) refl

pub returns-clause-kept : goal.returns-clause-kept
returns-clause-kept c = λ codes k. keeps_tools c.args.config.now c.args.tool _ _ (search rules) c.requires.low codes k (λ h. record { wants = h.wants; policies = search rules })
