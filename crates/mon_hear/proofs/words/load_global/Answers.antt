use Rattle.std.proofs.Common.{◌∙◌}
use Rattle.mon_words.proofs.Growing.{grows_global}
use Rattle.mon_hear.proofs.Growing.{steady}
use Rattle.mon_hear.proofs.words.load_global.Goals as goal

pub returns-clause-value : goal.returns-clause-value
returns-clause-value g c = let t = c.global.ensures.told in
    t.shows ∙ (steady (g.H.Handle.told c.args.handle.now).first (g.H.Handle.told c.args.handle.now).seen (g.H.Handle.told c.global.new.self).seen t.extends.begins t.extends.quiet).global

pub returns-clause-grows : goal.returns-clause-grows
returns-clause-grows g c = grows_global _ _ c.global.result c.global.ensures.told
