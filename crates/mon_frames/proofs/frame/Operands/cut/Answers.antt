use Rattle.std.proofs.Common.{◌∙◌, ap, reverse}
use Rattle.mon_frames.specs.Items.{lowest}
use Rattle.mon_frames.proofs.Lists.{cut_reversed}
use Rattle.mon_frames.proofs.frame.Operands.cut.Goals as goal

pub returns : goal.returns
returns c = ap (λ l. reverse l) c.truncate.ensures.items ∙ cut_reversed c.self.inside.items.items c.args.count ∙ ap (λ l. lowest c.args.count l) c.self.view_is
