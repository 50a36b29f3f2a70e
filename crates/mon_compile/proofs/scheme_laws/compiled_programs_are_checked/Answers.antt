use Rattle.mon_compile.proofs.Programs.{compiled_checked}
use Rattle.mon_compile.proofs.scheme_laws.compiled_programs_are_checked.Goals as goal

pub returns : goal.returns
returns c = compiled_checked
