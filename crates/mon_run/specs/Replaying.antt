-- What is kept while a plan is run on one thread, and what a control call and some steps do to it.
use Rattle.std.specs.Prelude.{◌≡◌, ℕ, ◌+◌, ◌-◌, ◌≤◌, ◌⊎◌, false, if◌then◌else◌, List, [], ◌∷◌, ◌++◌, map, length, slice_get, slice_set, Option, Some, None}
use Rattle.mon_code.specs.Programs.{Parts}
use Rattle.mon_code.specs.Sites.{sites_of}
use Rattle.mon_words.specs.History.{offs, puts, base_in}
use Rattle.mon_words.specs.declared.history.Board.{Board}
use Rattle.mon_words.specs.declared.history.Mark.{Mark}
use Rattle.mon_words.specs.declared.history.Mark.TheVariants.{Put}
use Rattle.mon_board.specs.PlainViews.{other_marks, IsRunning}
use Rattle.mon_board.specs.declared.plain_view.PlainView.{PlainView}
use Rattle.mon_recorders.specs.declared.record.Record.{Record}
use Rattle.mon_recorders.specs.declared.record.Disabled.{Disabled}
use Rattle.mon_recorders.specs.Proper.{AreProper}
use Rattle.mon_recorders.specs.Readings.{Span}
use Rattle.mon_recorders.specs.Boards.{reader}
use Rattle.mon_machine.specs.State.{goes}
use Rattle.mon_machine.specs.Run.{after_steps, printed_by, Goes}
use Rattle.mon_machine.specs.Advances.{Progress, events_from}
use Rattle.mon_interp.specs.Threads.{ThreadView}
use Rattle.mon_history.specs.Registry.{stops}
use Rattle.mon_history.specs.Journal.{IsLawful, replay}
use Rattle.mon_history.specs.Histories.{entries}
use Rattle.mon_history.specs.Readings.{Reads}
use Rattle.mon_history.specs.Stands.{StandsFor}
use Rattle.mon_history.specs.declared.calls.ControlCall.{ControlCall}
use Rattle.mon_history.specs.declared.calls.Who.{Who}
use Rattle.mon_history.specs.declared.journal.JournalLine.{JournalLine}
use Rattle.mon_control.specs.View.{Shown}
use Rattle.mon_forms.specs.declared.plan.Start.{Start}
use Rattle.mon_forms.specs.declared.plan.Workload.{Workload}
use Rattle.mon_run.specs.Reports.{begins}
use Rattle.mon_run.specs.Serial.{World, steps_of, line_at}

-- what each thread has done
abbrev pub progress_all : List ThreadView → List Progress
progress_all threads = map (λ t. t.progress) threads

-- the events of the plan's threads stand where their kinds say
abbrev pub ProperPlan : Parts → Workload → Type 0
ProperPlan p plan = (t : ℕ) (s : Start) → slice_get plan.threads t ≡ Some s → (i : ℕ) → AreProper (sites_of p) (events_from p (begins p s) i)

-- A thread that began at a start of the plan is where the plain machine is after as many steps, printed what that printed,
-- and read a word history behind a first board.
pub record Waiting (p : Parts) (s : Start) (t : ℕ) (first : Board) (seen : List Mark) (q : Progress) : Type 0 where
  pub at : List ℕ
  pub steps : q.steps ≡ length at
  pub goes : Goes p (begins p s) (length at)
  pub state : q.state ≡ after_steps p (begins p s) (length at)
  pub printed : q.printed ≡ printed_by p (begins p s) (length at)
  pub reads : Reads t first (events_from p (begins p s)) at seen q.records q.disables

-- The board's stored counts are the threads' steps, its history stands for the journal, and each thread has read it.
pub record Keeps (p : Parts) (plan : Workload) (v : PlainView) (J : List JournalLine) (threads : List Progress) : Type 0 where
  pub running : IsRunning v
  pub threads_are : v.threads ≡ length plan.threads
  pub bases : map base_in v.first.cells ≡ p.bases
  pub counts : v.counts ≡ steps_of threads
  pub long : length threads ≡ length plan.threads
  pub lawful : IsLawful (length plan.threads) J
  pub stands : StandsFor (sites_of p) J v.first v.seen
  pub within : (t : ℕ) (q : Progress) → slice_get threads t ≡ Some q → q.steps ≤ plan.steps
  pub reads : (t : ℕ) (q : Progress) (s : Start) → slice_get threads t ≡ Some q → slice_get plan.threads t ≡ Some s → Waiting p s t v.first v.seen q
  pub others : (t : ℕ) → length plan.threads ≤ t → offs t v.seen ≡ []

-- with the numbers of threads and codes that the registry knows, and the number of calls that each script has made
pub record Holds (p : Parts) (plan : Workload) (c : Shown) (v : PlainView) (threads : List Progress) (made : List ℕ) : Type 0 where
  pub keeps : Keeps p plan v c.journal threads
  pub count_is : c.threads ≡ length plan.threads
  pub codes_are : length p.codes ≡ c.codes
  pub wide : length made ≡ length plan.scripts

-- where the serial run is
abbrev pub world_of : PlainView → List JournalLine → List Progress → List ℕ → World
world_of v J threads made = record { journal = J; history = entries 0 v.seen; threads = threads; made = made }

-- how many calls the scripts have left
abbrev pub calls_left : List (List ControlCall) → List ℕ → ℕ
calls_left [] made = 0
calls_left (script ∷ scripts) [] = length script + calls_left scripts []
calls_left (script ∷ scripts) (n ∷ made) = length script - n + calls_left scripts made

abbrev pub stops_at : Option Board → List ℕ → Option (List ℕ)
stops_at None counts = None
stops_at (Some b) counts = Some counts

abbrev pub put_at : Option Board → List ℕ → List Mark
put_at None counts = []
put_at (Some b) counts = Put counts b ∷ []

-- a control call was made; where it stopped the world, with the stored counts
pub record Called (p : Parts) (who : Who) (call : ControlCall) (v w : PlainView) (J K : List JournalLine) : Type 0 where
  pub running : IsRunning w
  pub first : w.first ≡ v.first
  pub threads : w.threads ≡ v.threads
  pub counts : w.counts ≡ v.counts
  pub is : K ≡ J ++ line_at J who call v.counts ∷ []
  pub lawful : IsLawful v.threads K
  pub stop : Option Board
  pub stop_is : stops_at stop v.counts ≡ (if stops (replay J) call then Some v.counts else None)
  pub seen : w.seen ≡ v.seen ++ put_at stop v.counts
  pub stands : StandsFor (sites_of p) K w.first w.seen

-- thread t did so many steps, or fewer where it ended; every mark that was added is its own
pub record Took (p : Parts) (t n : ℕ) (v w : PlainView) (q u : Progress) : Type 0 where
  pub running : IsRunning w
  pub first : w.first ≡ v.first
  pub threads : w.threads ≡ v.threads
  pub counts : w.counts ≡ slice_set v.counts t u.steps
  pub quiet : puts w.seen ≡ puts v.seen
  pub alone : other_marks t w.seen ≡ other_marks t v.seen
  pub at : List ℕ
  pub goes_on : Goes p q.state (length at)
  pub state : u.state ≡ after_steps p q.state (length at)
  pub printed : u.printed ≡ q.printed ++ printed_by p q.state (length at)
  pub steps : u.steps ≡ q.steps + length at
  pub records : List Record
  pub disables : List Disabled
  pub records_are : u.records ≡ q.records ++ records
  pub disables_are : u.disables ≡ q.disables ++ disables
  pub span : Span (reader t v.first) (events_from p q.state) q.steps at v.seen w.seen records disables
  pub most : length at ≤ n
  pub done : (length at ≡ n) ⊎ (goes u.state.mode ≡ false)

-- a thread that has ended, or met the bound
abbrev pub IsDone : ℕ → Progress → Type 0
IsDone bound q = (goes q.state.mode ≡ false) ⊎ (q.steps ≡ bound)
