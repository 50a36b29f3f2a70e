-- Legal reports.
use Rattle.std.specs.Prelude.{◌≡◌, ℕ, ◌≤◌, List, [], length, slice_get, Option, Some, None}
use Rattle.mon_code.specs.declared.program.Code.{Code}
use Rattle.mon_code.specs.Programs.{Parts}
use Rattle.mon_code.specs.Sites.{sites_of}
use Rattle.mon_recorders.specs.declared.report.ThreadReport.{ThreadReport}
use Rattle.mon_machine.specs.State.{State, start}
use Rattle.mon_machine.specs.Run.{after_steps, steps_done, outcome_of, printed_by}
use Rattle.mon_machine.specs.Advances.{events_from}
use Rattle.mon_machine.specs.declared.mode.Mode.{Mode}
use Rattle.mon_history.specs.Journal.{IsLawful}
use Rattle.mon_history.specs.Histories.{IsHistory}
use Rattle.mon_history.specs.Readings.{own, LegalReading}
use Rattle.mon_history.specs.declared.journal.Entry.{Entry}
use Rattle.mon_forms.specs.declared.plan.Workload.{Workload}
use Rattle.mon_forms.specs.declared.plan.Start.{Start}
use Rattle.mon_forms.specs.declared.report.Report.{Report}
use Rattle.mon_run.specs.Turns.{Follows}

-- there is no such code
abbrev pub nowhere : State
nowhere = record { frames = record { calls = []; generators = []; iterators = [] }; mode = Mode.Stuck }

abbrev pub starts_in : Option Code → Start → State
starts_in None s = nowhere
starts_in (Some c) s = start c s.code s.args

-- where a thread of a plan begins
abbrev pub begins : Parts → Start → State
begins p s = starts_in (slice_get p.codes s.code) s

-- what is reported of a thread that does at most so many steps, beside its records and disables, is that of the plain run
pub record RunsPlainly (p : Parts) (bound : ℕ) (s : Start) (r : ThreadReport) : Type 0 where
  pub steps : r.steps ≡ steps_done p (begins p s) bound
  pub printed : r.printed ≡ printed_by p (begins p s) r.steps
  pub outcome : r.outcome ≡ outcome_of (after_steps p (begins p s) r.steps).mode

-- the thread's records and disables are those of the configurations that its steps read, each at a position of the order
pub record ReadsLegally (p : Parts) (report : Report) (H : List Entry) (t : ℕ) (s : Start) (r : ThreadReport) : Type 0 where
  pub at : List ℕ
  pub steps : length at ≡ r.steps
  pub reading : LegalReading (sites_of p) report.journal.lines H t (events_from p (begins p s)) at r.records r.disables

-- the report of a plan's run is legal by this order of the changes and disables
pub record LegalBy (p : Parts) (plan : Workload) (report : Report) (H : List Entry) : Type 0 where
  pub all : length report.threads ≡ length plan.threads
  pub lawful : IsLawful (length plan.threads) report.journal.lines
  pub follows : Follows plan report.journal.lines
  pub runs : (t : ℕ) (s : Start) (r : ThreadReport) → slice_get plan.threads t ≡ Some s → slice_get report.threads t ≡ Some r → RunsPlainly p plan.steps s r
  -- the order has exactly the stopping calls, in the journal's order, and the threads' disables
  pub changes : IsHistory report.journal.lines H
  pub reads : (t : ℕ) (s : Start) (r : ThreadReport) → slice_get plan.threads t ≡ Some s → slice_get report.threads t ≡ Some r → ReadsLegally p report H t s r
  pub others : (t : ℕ) → length plan.threads ≤ t → own t H ≡ []

abbrev pub IsLegal : Parts → Workload → Report → Type 0
IsLegal p plan report = (H : List Entry) × LegalBy p plan report H
