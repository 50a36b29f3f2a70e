use Rattle.mon_compile.proofs.Grown.{names_stop}
use Rattle.mon_compile.proofs.emitter.Emitter.store.Goals as goal

pub returns-in_err-count-in-Tuple : goal.returns-in_err-count-in-Tuple
returns-in_err-count-in-Tuple c = names_stop _ _ _ _ _ _ _ _ c.from_residual.ensures.1 c.in-Tuple.is c.len.ensures c.in_err-count-in-Tuple.ensures
