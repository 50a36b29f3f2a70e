use Rattle.mon_gen.proofs.Faults.{no_fault}
use Rattle.mon_gen.proofs.laws.generated_programs_have_no_fault.Goals as goal

pub returns : goal.returns
returns c = no_fault
