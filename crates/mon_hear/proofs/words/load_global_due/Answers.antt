use Rattle.mon_words.proofs.Growing.{grows_refl}
use Rattle.mon_hear.proofs.words.load_global_due.Goals as goal

pub returns-else-any_global-clause-grows : goal.returns-else-any_global-clause-grows
returns-else-any_global-clause-grows g c = grows_refl _
