use Rattle.mon_compile.proofs.InnerContexts.{same_length_inside, same_length_of_clauses}
use Rattle.mon_compile.proofs.scheme_laws.lengths_depend_on_no_index.Goals as goal

pub returns-clause-parts : goal.returns-clause-parts
returns-clause-parts c = same_length_inside

pub returns-clause-clauses : goal.returns-clause-clauses
returns-clause-clauses c = same_length_of_clauses
