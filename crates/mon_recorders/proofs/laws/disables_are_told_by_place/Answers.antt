use Rattle.std.proofs.Common.{ℕ, Some, option_map, ap, ◌∙◌}
use Rattle.mon_events.specs.declared.event.Event.{Event}
use Rattle.mon_code.specs.declared.site.Site.{Site}
use Rattle.mon_code.specs.Sites.{site_at}
use Rattle.mon_recorders.specs.declared.record.Disabled.{Disabled}
use Rattle.mon_recorders.proofs.laws.disables_are_told_by_place.Goals as goal

pub returns : goal.returns
returns c = λ sites location slot e step tool o.
    let site : Site = site_at sites location in
    let told : ℕ → ℕ → Event → Disabled = λ code at event. record { step = step; tool = tool; event = event; code = code; at = at } in
    ap (option_map (told site.code site.offset)) o.event ∙ (λ i. Some (told (o.code i) (o.offset i) e.event))
