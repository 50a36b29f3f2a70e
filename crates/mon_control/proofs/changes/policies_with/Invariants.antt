use Rattle.mon_control.proofs.Policies.{Policied}
use Rattle.mon_control.proofs.changes.policies_with.Given as goal

abbrev pub invariant-loop-number : goal.invariant-loop-number
invariant-loop-number l = Policied l.set.0 l.policy l.number l.fn.policies l.changed
