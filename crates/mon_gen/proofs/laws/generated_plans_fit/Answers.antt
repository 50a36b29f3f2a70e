use Rattle.mon_gen.proofs.Fits.{plans_fit}
use Rattle.mon_gen.proofs.laws.generated_plans_fit.Goals as goal

pub returns : goal.returns
returns c = plans_fit
