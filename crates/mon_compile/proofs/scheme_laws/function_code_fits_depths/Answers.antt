use Rattle.mon_compile.proofs.Depths.{function_fitted}
use Rattle.mon_compile.proofs.scheme_laws.function_code_fits_depths.Goals as goal

pub returns : goal.returns
returns c = function_fitted
