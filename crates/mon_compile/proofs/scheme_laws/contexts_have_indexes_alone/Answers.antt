use Rattle.mon_compile.proofs.InnerContexts.{contexts_are_closed}
use Rattle.mon_compile.proofs.scheme_laws.contexts_have_indexes_alone.Goals as goal

pub returns : goal.returns
returns c = contexts_are_closed
