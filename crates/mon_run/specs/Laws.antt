-- The laws of serial runs, and of legal reports.
use Rattle.std.specs.Prelude.{◌≡◌, ℕ, ◌<◌, List, map, length, slice_get, Some}
use Rattle.std.specs.List.{AllByRecursion}
use Rattle.mon_code.specs.Checked.{IsChecked}
use Rattle.mon_code.specs.Programs.{Parts}
use Rattle.mon_recorders.specs.declared.record.Record.{Record}
use Rattle.mon_recorders.specs.declared.record.Disabled.{Disabled}
use Rattle.mon_recorders.specs.declared.report.ThreadReport.{ThreadReport}
use Rattle.mon_recorders.specs.Readings.{Between}
use Rattle.mon_forms.specs.Fits.{FitsWorkload}
use Rattle.mon_forms.specs.declared.plan.Move.{Move}
use Rattle.mon_forms.specs.declared.plan.Start.{Start}
use Rattle.mon_forms.specs.declared.plan.Workload.{Workload}
use Rattle.mon_forms.specs.declared.report.Report.{Report}
use Rattle.mon_run.specs.Reports.{IsLegal}
use Rattle.mon_run.specs.Replaying.{ProperPlan}
use Rattle.mon_run.specs.Serial.{last_world}
use Rattle.mon_run.specs.Turns.{Follows}

-- whatever the schedule, the journal of a serial run has the calls before all threads, and then those of each script
abbrev pub SerialFollows : Type 0
SerialFollows = (p : Parts) (plan : Workload) (schedule : List Move) → Follows plan (last_world p plan schedule).journal

-- the steps of records and disables never fall, and are below the number of steps
pub record StepsRise (r : ThreadReport) : Type 0 where
  pub records : Between 0 (map (λ x. x.step) r.records) r.steps
  pub disables : Between 0 (map (λ x. x.step) r.disables) r.steps
  pub records_below : AllByRecursion (λ (x : Record). x.step < r.steps) r.records
  pub disables_below : AllByRecursion (λ (x : Disabled). x.step < r.steps) r.disables

-- in the report of each of the plan's threads
abbrev pub LegalStepsRise : Type 0
LegalStepsRise = (p : Parts) (plan : Workload) (report : Report) → IsLegal p plan report → (t : ℕ) (s : Start) (r : ThreadReport) → slice_get plan.threads t ≡ Some s → slice_get report.threads t ≡ Some r → StepsRise r

-- the events of a plan that fits stand where their kinds say
abbrev pub PlansAreProper : Type 0
PlansAreProper = (p : Parts) (plan : Workload) → IsChecked p → FitsWorkload p plan → ProperPlan p plan

-- each code that records and disables name is one of the program's
pub record NamesCodes (p : Parts) (r : ThreadReport) : Type 0 where
  pub records : AllByRecursion (λ (x : Record). x.code < length p.codes) r.records
  pub disables : AllByRecursion (λ (x : Disabled). x.code < length p.codes) r.disables

-- in the report of each thread of a plan that fits
abbrev pub LegalNamesCodes : Type 0
LegalNamesCodes = (p : Parts) (plan : Workload) (report : Report) → IsChecked p → FitsWorkload p plan → IsLegal p plan report → (t : ℕ) (s : Start) (r : ThreadReport) → slice_get plan.threads t ≡ Some s → slice_get report.threads t ≡ Some r → NamesCodes p r
