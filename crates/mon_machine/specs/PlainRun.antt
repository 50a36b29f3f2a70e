-- The plain run of a code with arguments, by the number of steps.
use Rattle.std.specs.Prelude.{ℕ, List}
use Rattle.mon_values.specs.declared.value.Value.{Value}
use Rattle.mon_code.specs.declared.program.Code.{Code}
use Rattle.mon_code.specs.Programs.{Parts}
use Rattle.mon_recorders.specs.declared.happening.Happening.{Happening}
use Rattle.mon_machine.specs.State.{State, start}
use Rattle.mon_machine.specs.Step.{step}
use Rattle.mon_machine.specs.Run.{after_steps}

-- where the call of code number k is after n steps
abbrev pub state_at : Parts → ℕ → Code → List Value → ℕ → State
state_at p k c args n = after_steps p (start c k args) n

-- what happens in its step number n
abbrev pub events_at : Parts → ℕ → Code → List Value → ℕ → List Happening
events_at p k c args n = (step p (state_at p k c args n)).events
