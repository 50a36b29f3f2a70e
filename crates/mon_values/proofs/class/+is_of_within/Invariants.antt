use Rattle.mon_values.proofs.class.+is_of_within.Given as goal

abbrev pub decreases-is_of_within : goal.decreases-is_of_within
decreases-is_of_within l = l.steps
