-- Threads: how they begin, and what is due to a call of a function by its name.
use Rattle.std.specs.Prelude.{◌≡◌, ℕ, ◌==◌, Bool, false, cond, List, length, Option, Some, None, Result, Ok, Err, slice_get, if◌then◌else◌}
use Rattle.mon_values.specs.declared.value.Value.{Value}
use Rattle.mon_code.specs.declared.program.Code.{Code}
use Rattle.mon_code.specs.Programs.{Parts, code_named}
use Rattle.std.specs.Str.{chars}
use Rattle.mon_machine.specs.declared.mode.Mode.{Mode}
use Rattle.mon_machine.specs.State.{goes, start}
use Rattle.mon_machine.specs.Advances.{Progress, nothing_done}
use Rattle.mon_recorders.specs.declared.report.ThreadReport.{ThreadReport}
use Rattle.mon_machine.specs.Run.{outcome_of}
use Rattle.mon_interp.specs.declared.thread.Stop.{Stop}
use Rattle.mon_interp.specs.declared.thread.EntryFault.{EntryFault}
use Rattle.mon_interp.specs.declared.thread.EntryFault.TheVariants.{NoFunction, WrongCount, Memory}

pub record ThreadView : Type 0 where
  pub progress : Progress
  -- memory was short once
  pub failed : Bool

-- where an advance stops: where the thread has ended, where it was asked to stop, or else where all steps were done
abbrev pub stop_due : Bool → Mode → Stop
stop_due asked mode = cond (goes mode) (cond asked Stop.Asked Stop.Spent) Stop.Ended

-- what is reported of a thread that has done so much
abbrev pub reported : Progress → ThreadReport
reported x = record { printed = x.printed; records = x.records; disables = x.disables; steps = x.steps; outcome = outcome_of x.state.mode }

-- a thread that calls a code of this number
abbrev pub beginning : Code → ℕ → List Value → ThreadView
beginning c number args = record { progress = nothing_done (start c number args); failed = false }

abbrev pub code_due : ℕ → Option Code → List Value → Result ThreadView EntryFault
code_due number None args = Err NoFunction
code_due number (Some c) args = if length args == c.parameters then Ok (beginning c number args) else Err (WrongCount c.parameters)

abbrev pub number_due : Parts → Option ℕ → List Value → Result ThreadView EntryFault
number_due p None args = Err NoFunction
number_due p (Some number) args = code_due number (slice_get p.codes number) args

-- a call of the function whose name these bytes spell
abbrev pub entry_due : Parts → List ℕ → List Value → Result ThreadView EntryFault
entry_due p name args = number_due p (code_named p (chars name)) args

-- the due answer, or want of memory
abbrev pub AnswersEntry : Result ThreadView EntryFault → Result ThreadView EntryFault → Type 0
AnswersEntry (Ok t) (Ok due) = t ≡ due
AnswersEntry (Ok t) (Err fault) = ⊥
AnswersEntry (Err Memory) due = Unit {0}
AnswersEntry (Err NoFunction) due = due ≡ Err NoFunction
AnswersEntry (Err (WrongCount n)) due = due ≡ Err (WrongCount n)
