use Rattle.mon_machine.proofs.Pools.{grow_by_one, numbers_suffice}
use Rattle.mon_machine.proofs.laws.pools_grow_by_one.Goals as goal

pub returns-clause-grow : goal.returns-clause-grow
returns-clause-grow c = grow_by_one

pub returns-clause-suffice : goal.returns-clause-suffice
returns-clause-suffice c = numbers_suffice
