use Rattle.mon_compile.proofs.InLoops.{breaks_stand_in_loops, tells_loose}
use Rattle.mon_compile.proofs.scheme_laws.breaks_stand_in_loops.Goals as goal

pub returns-clause-module : goal.returns-clause-module
returns-clause-module c = breaks_stand_in_loops

pub returns-clause-block : goal.returns-clause-block
returns-clause-block c = tells_loose
