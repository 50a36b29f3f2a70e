use Rattle.std.proofs.Common.{◌-◌, ◌*◌, ◌+◌, ◌%◌, ◌^◌, ap, ◌∙◌}
use Rattle.mon_events.specs.Events.{place}
use Rattle.mon_words.proofs.Masks.{shifted, place_low}
use Rattle.mon_words.proofs.word.mask.Goals as goal

pub returns : goal.returns
returns c = ap (λ n. 18446744073709551615 - 1099511627776 * 2 ^ (6 * n + c.args.tool) % 18446744073709551616) c.number.ensures ∙ shifted (place c.args.slot c.args.tool) (place_low c.args.slot c.args.tool c.requires)
