use Rattle.mon_recorders.proofs.RowExamples.{lines, calls, branches, covered}
use Rattle.mon_recorders.proofs.laws.worked_rows.Goals as goal

pub returns-clause-lines : goal.returns-clause-lines
returns-clause-lines c = lines

pub returns-clause-calls : goal.returns-clause-calls
returns-clause-calls c = calls

pub returns-clause-branches : goal.returns-clause-branches
returns-clause-branches c = branches

pub returns-clause-coverage : goal.returns-clause-coverage
returns-clause-coverage c = covered
