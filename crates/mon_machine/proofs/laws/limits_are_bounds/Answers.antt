use Rattle.mon_machine.proofs.Calls.{limits_are_bounds}
use Rattle.mon_machine.proofs.laws.limits_are_bounds.Goals as goal

pub returns : goal.returns
returns c = limits_are_bounds
