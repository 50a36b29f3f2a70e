use Rattle.std.proofs.Common.{◌∙◌, ap, List, ℕ, get_or}
use Rattle.mon_words.proofs.Growing.{grows_callbacks, grows_refl}
use Rattle.mon_hear.proofs.Growing.{steady}
use Rattle.mon_hear.proofs.words.load_one.Goals as goal

pub returns-then-has_bit-clause-value : goal.returns-then-has_bit-clause-value
returns-then-has_bit-clause-value g c = let t = c.callbacks.ensures.told in
    λ _. t.shows ∙ ap (λ (l : List ℕ). get_or l c.args.tool 0) (steady (g.H.Handle.told c.args.handle.now).first (g.H.Handle.told c.args.handle.now).seen (g.H.Handle.told c.callbacks.new.self).seen t.extends.begins t.extends.quiet).callbacks

pub returns-then-has_bit-clause-grows : goal.returns-then-has_bit-clause-grows
returns-then-has_bit-clause-grows g c = grows_callbacks _ _ c.args.tool c.callbacks.result c.callbacks.ensures.told

pub returns-else-has_bit-clause-grows : goal.returns-else-has_bit-clause-grows
returns-else-has_bit-clause-grows g c = grows_refl _
