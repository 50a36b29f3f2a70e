use Rattle.mon_compile.proofs.PlainOps.{generators_yield, plain_without}
use Rattle.mon_compile.proofs.scheme_laws.generators_are_functions_that_yield.Goals as goal

pub returns-clause-generators : goal.returns-clause-generators
returns-clause-generators c = generators_yield

pub returns-clause-plain : goal.returns-clause-plain
returns-clause-plain c = plain_without
