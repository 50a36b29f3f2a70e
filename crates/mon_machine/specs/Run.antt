-- Runs, and what a tool hears of them.
use Rattle.std.specs.Prelude.{ℕ, zero, suc, ◌+◌, ◌≡◌, Bool, true, false, List, [], ◌++◌, if◌then◌else◌}
use Rattle.mon_events.specs.declared.event.Slot.{Slot}
use Rattle.mon_code.specs.Programs.{Parts}
use Rattle.mon_recorders.specs.declared.record.Record.{Record}
use Rattle.mon_recorders.specs.declared.report.Outcome.{Outcome}
use Rattle.mon_recorders.specs.declared.happening.Happening.{Happening}
use Rattle.mon_recorders.specs.declared.happening.Kind.{Kind}
use Rattle.mon_recorders.specs.Happenings.{record_of, delivered}
use Rattle.mon_machine.specs.declared.mode.Mode.{Mode}
use Rattle.mon_machine.specs.State.{State, goes}
use Rattle.mon_machine.specs.Step.{step}

-- the state after n steps; one that does not go on stands still
unfoldable pub after_steps : Parts → State → ℕ → State
after_steps p s zero = s
after_steps p s (suc n) = after_steps p (step p s).after n

-- of n steps, those that the thread does before it ends
unfoldable pub steps_done : Parts → State → ℕ → ℕ
steps_done p s zero = 0
steps_done p s (suc n) = if goes s.mode then steps_done p (step p s).after n + 1 else 0

abbrev pub outcome_of : Mode → Outcome
outcome_of (Mode.Ended outcome) = outcome
outcome_of _ = Outcome.Limit

abbrev pub is_line : Slot → Bool
is_line Slot.Line = true
is_line Slot.Instruction = false
is_line Slot.Main = false
is_line Slot.Spare = false

-- the records of step number i
abbrev pub heard : (Kind → ℕ → Bool) → ℕ → List Happening → List Record
heard hears i hs = delivered (λ t h. hears h.kind t) (record_of i) hs

-- the texts that n steps print, in order
unfoldable pub printed_by : Parts → State → ℕ → List (List ℕ)
printed_by p s zero = []
printed_by p s (suc n) = (step p s).printed ++ printed_by p (step p s).after n

-- the thread goes on before each of n steps
unfoldable pub Goes : Parts → State → ℕ → Type 0
Goes p s zero = Unit {0}
Goes p s (suc n) = (goes s.mode ≡ true) × Goes p (step p s).after n
