-- The definition of a serial run gives what it should.
use Rattle.std.proofs.Common.{refl}
use Rattle.mon_events.specs.Sets.{packed}
use Rattle.mon_recorders.specs.Happenings.{for_tools}
use Rattle.mon_machine.specs.Step.{step}
use Rattle.mon_run.specs.Serial.{turn}
use Rattle.mon_run.specs.Examples.{WorkedRun}

pub worked : WorkedRun
unfolding turn step for_tools packed
worked = record { journal = refl; history = refl; steps = refl; records = refl; disables = refl }
