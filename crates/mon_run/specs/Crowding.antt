-- What is known of the first pass while the passes of threads join it.
use Rattle.std.specs.Prelude.{◌≡◌, ℕ, ◌+◌, ◌<◌, List, [], map, length, slice_get, Option, Some}
use mathlib.Core.Option.{some}
use lib.ListN.{get_elem?}
use Rattle.mon_code.specs.Programs.{Parts}
use Rattle.mon_words.specs.History.{base_in, offs, UpTo}
use Rattle.mon_words.specs.declared.history.Board.{Board}
use Rattle.mon_recorders.specs.declared.report.ThreadReport.{ThreadReport}
use Rattle.mon_gate.specs.Plays.{ended_of, Whole}
use Rattle.mon_gate.specs.declared.view.View.{View}
use Rattle.mon_gate.specs.declared.view.Ended.{Ended}
use Rattle.mon_gate.specs.declared.view.Phase.TheVariants.{Plain, Out, Idle}
use Rattle.mon_history.specs.Histories.{entries}
use Rattle.mon_control.specs.View.{Shown}
use Rattle.mon_forms.specs.declared.plan.Workload.{Workload}
use Rattle.mon_forms.specs.declared.report.Report.{Report}
use Rattle.mon_run.specs.Turns.{AllZero, asked, first_calls}
use Rattle.mon_run.specs.Scripts.{in_order, longest, rounds}
use Rattle.mon_run.specs.Reports.{LegalBy}
use Rattle.mon_run.specs.Replaying.{ProperPlan}
use Rattle.mon_run.specs.Rounds.{Worked}
use Rattle.mon_run.specs.Controlling.{Governs, Grown}
use Rattle.mon_history.specs.declared.journal.JournalLine.{JournalLine}

-- a pass from which a thread can begin
pub record Job (p : Parts) (plan : Workload) (first : Board) (v : View) : Type 0 where
  pub plain : v.phase ≡ Plain
  pub ticket : v.tickets ≡ 1
  pub threads : v.threads ≡ length plan.threads
  pub first_is : v.first ≡ first
  pub bases : map base_in v.first.cells ≡ p.bases
  pub ended : v.ended ≡ []

-- a seat that has drawn its number, under which nothing was done
pub record Claimed (p : Parts) (plan : Workload) (v : View) : Type 0 where
  pub out : v.phase ≡ Out
  pub threads : v.threads ≡ length plan.threads
  pub bases : map base_in v.first.cells ≡ p.bases
  pub stored : v.stored ≡ 0
  pub mine : v.mine ≡ []
  pub loads : v.tally.loads ≡ []
  pub stops : UpTo v.number 0 v.seen
  pub disables : offs v.number v.seen ≡ []

-- the seat of a thread that has ended, with the number that it drew and its report
pub record Came (p : Parts) (plan : Workload) (first : Board) (number : ℕ) (v : View) (report : Option ThreadReport) : Type 0 where
  pub out : v.phase ≡ Out
  pub number_is : v.number ≡ number
  pub low : number < length plan.threads
  pub threads : v.threads ≡ length plan.threads
  pub first_is : v.first ≡ first
  pub tickets : v.tickets ≡ 0
  pub ended : v.ended ≡ []
  pub worked : (r : ThreadReport) → report ≡ Some r → Worked p plan first (ended_of v) r

-- each report is that of the ended number of its place
abbrev pub Placed : Parts → Workload → Board → List Ended → List (Option ThreadReport) → Type 0
Placed p plan first ended slots = (j : ℕ) (e : Ended) (r : ThreadReport) → get_elem? ended j ≡ some e → slice_get slots e.number ≡ Some (Some r) → Worked p plan first e r

-- The first pass, whose controller does not ask and does not stop: each number has ended, or its ticket is home.
pub record IsHome (plan : Workload) (v : View) : Type 0 where
  pub idle : v.phase ≡ Idle
  pub threads : v.threads ≡ length plan.threads
  pub all : v.tickets + length v.ended ≡ length plan.threads

-- the first pass, with its controller's registry and the reports of the threads that it took in
pub record Gathered (p : Parts) (plan : Workload) (c : Shown) (v : View) (slots : List (Option ThreadReport)) : Type 0 where
  pub idle : v.phase ≡ Idle
  pub threads : v.threads ≡ length plan.threads
  pub governs : Governs p c v
  pub wide : length slots ≡ length plan.threads
  pub placed : Placed p plan v.first v.ended slots

-- The threads are all in, and the controller made the calls of all scripts after those before all threads, of which each has
-- counts of 0. Then the journal and the reports are legal by the order of the history that the first pass has seen, and the
-- calls stand in turn.
abbrev pub GatheredIsLegal : Type 0
GatheredIsLegal = (p : Parts) (plan : Workload) (c : Shown) (v : View) (early : List JournalLine) (slots : List (Option ThreadReport)) (report : Report)
    → ProperPlan p plan → Gathered p plan c v slots → Whole v v.seen → length v.ended ≡ v.threads
    → asked early ≡ first_calls plan.before → AllZero early → Grown early c.journal (rounds plan.scripts (longest plan.scripts)) → report.journal.lines ≡ c.journal
    → map Some report.threads ≡ slots
    → LegalBy p plan report (entries 0 v.seen) × (asked report.journal.lines ≡ in_order plan)
