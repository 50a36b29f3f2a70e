use Rattle.mon_interp.proofs.events.push_raise.Goals as goal

pub returns-in-Raises : goal.returns-in-Raises
returns-in-Raises c = rw c.in-Raises.is c.push_exception.ensures

pub returns-in-Reraises : goal.returns-in-Reraises
returns-in-Reraises c = rw c.in-Reraises.is c.push_exception-in-Reraises.ensures
