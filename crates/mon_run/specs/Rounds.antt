-- What a thread of a plan has done by its rounds of entering, advancing and leaving.
use Rattle.std.specs.Prelude.{◌≡◌, ℕ, false, List, length, slice_get, Some}
use Rattle.mon_code.specs.Programs.{Parts}
use Rattle.mon_words.specs.History.{offs}
use Rattle.mon_words.specs.Told.{Told, Owns}
use Rattle.mon_words.specs.declared.history.Board.{Board}
use Rattle.mon_recorders.specs.declared.record.Record.{Record}
use Rattle.mon_recorders.specs.declared.report.ThreadReport.{ThreadReport}
use Rattle.mon_machine.specs.Run.{after_steps, printed_by, Goes}
use Rattle.mon_machine.specs.Advances.{Progress, events_from, loads_by}
use Rattle.mon_gate.specs.declared.view.Ended.{Ended}
use Rattle.mon_history.specs.Readings.{Reads}
use Rattle.mon_forms.specs.declared.plan.Start.{Start}
use Rattle.mon_forms.specs.declared.plan.Workload.{Workload}
use Rattle.mon_run.specs.Reports.{begins, RunsPlainly}

-- the records that a thread has given
abbrev pub records_given : Progress → List Record
records_given q = q.records

-- A thread that began at a start of the plan, and whose steps read at these positions: it is where the plain machine is after
-- as many steps, printed what that printed, and read what its handle has seen. Its loads since it claimed its number are those
-- of these steps, and no other.
pub record Reading (p : Parts) (s : Start) (at : List ℕ) (a : Told) (q : Progress) : Type 0 where
  pub owns : Owns a
  pub steps : q.steps ≡ length at
  pub goes : Goes p (begins p s) (length at)
  pub state : q.state ≡ after_steps p (begins p s) (length at)
  pub printed : q.printed ≡ printed_by p (begins p s) (length at)
  pub reads : Reads a.number a.first (events_from p (begins p s)) at a.seen (records_given q) q.disables
  pub loads : a.tally.loads ≡ loads_by p (begins p s) a.first a.seen at (length at)

-- it has left: the count that it stored last is its number of steps
pub record Left (p : Parts) (s : Start) (a : Told) (q : Progress) : Type 0 where
  pub at : List ℕ
  pub reading : Reading p s at a q
  pub detached : a.attached ≡ false
  pub count : a.count ≡ q.steps

-- What is told of a thread that has ended, where it found memory: the number that it drew ran the plan's thread of that number
-- as the plain machine does, up to the count that it stored last, and read the words that it saw at the positions of its loads.
pub record Worked (p : Parts) (plan : Workload) (first : Board) (e : Ended) (r : ThreadReport) : Type 0 where
  pub start : Start
  pub found : slice_get plan.threads e.number ≡ Some start
  pub runs : RunsPlainly p plan.steps start r
  pub last : e.last ≡ r.steps
  pub own : offs e.number e.seen ≡ e.marks
  pub at : List ℕ
  pub steps : r.steps ≡ length at
  pub reads : Reads e.number first (events_from p (begins p start)) at e.seen r.records r.disables
  pub loads : e.tally.loads ≡ loads_by p (begins p start) first e.seen at (length at)
