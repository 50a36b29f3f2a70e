use Rattle.mon_machine.proofs.Calls.{never_stuck}
use Rattle.mon_machine.proofs.laws.never_stuck.Goals as goal

pub returns : goal.returns
returns c = never_stuck
