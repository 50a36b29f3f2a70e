-- The serial report of a plan: what is known at a moment of the run, what each move makes of it, and the moves in their order.
use Rattle.std.specs.Prelude.{◌≡◌, ℕ, zero, suc, ◌+◌, nat_lt, Bool, ◌&&◌, if◌then◌else◌, List, [], ◌∷◌, ◌++◌, map, length, replicate, slice_get, slice_index, slice_index_or, slice_set, Option, Some, None}
use Rattle.mon_code.specs.Programs.{Parts}
use Rattle.mon_code.specs.Sites.{sites_of}
use Rattle.mon_recorders.specs.Happenings.{Filter, answers, delivered, records_in, disables_in}
use Rattle.mon_machine.specs.State.{goes}
use Rattle.mon_machine.specs.Step.{step}
use Rattle.mon_machine.specs.Advances.{Progress, nothing_done}
use Rattle.mon_interp.specs.Threads.{reported}
use Rattle.mon_history.specs.Registry.{stops}
use Rattle.mon_history.specs.Journal.{replay, stopping}
use Rattle.mon_history.specs.Heard.{heard_by}
use Rattle.mon_history.specs.Histories.{config_after}
use Rattle.mon_history.specs.Readings.{entry_of}
use Rattle.mon_history.specs.declared.calls.ControlCall.{ControlCall}
use Rattle.mon_history.specs.declared.calls.Who.{Who}
use Rattle.mon_history.specs.declared.journal.Entry.{Entry}
use Rattle.mon_history.specs.declared.journal.JournalLine.{JournalLine}
use Rattle.mon_control.specs.View.{line_of}
use Rattle.mon_forms.specs.declared.plan.Move.{Move}
use Rattle.mon_forms.specs.declared.plan.Plan.{Plan}
use Rattle.mon_forms.specs.declared.plan.Start.{Start}
use Rattle.mon_forms.specs.declared.plan.Workload.{Workload}
use Rattle.mon_forms.specs.declared.report.Report.{Report}
use Rattle.mon_run.specs.Reports.{begins}

pub record World : Type 0 where
  pub journal : List JournalLine
  -- the changes and disables
  pub history : List Entry
  pub threads : List Progress
  -- how many calls each script has made
  pub made : List ℕ

-- a call that stopped the world is the next change
abbrev pub change_by : List JournalLine → Option (List ℕ) → List Entry
change_by J (Some counts) = Entry.Change (length (stopping J)) counts ∷ []
change_by J None = []

abbrev pub with_line : JournalLine → World → World
with_line line w = record w { journal = w.journal ++ line ∷ []; history = w.history ++ change_by w.journal line.stops }

abbrev pub steps_of : List Progress → List ℕ
steps_of threads = map (λ q. q.steps) threads

-- the line of a call behind a journal, where the threads have done these steps
abbrev pub line_at : List JournalLine → Who → ControlCall → List ℕ → JournalLine
line_at J who call counts = line_of J who call (if stops (replay J) call then Some counts else None)

-- a control call
abbrev pub asks : Who → ControlCall → World → World
asks who call w = with_line (line_at w.journal who call (steps_of w.threads)) w

abbrev pub asks_first : List ControlCall → World → World
asks_first [] w = w
asks_first (call ∷ calls) w = asks_first calls (asks Who.Before call w)

-- the next call of a script, if it has one left
abbrev pub next_call : Workload → World → ℕ → Option ControlCall
next_call plan w s = slice_get (slice_index_or plan.scripts s []) (slice_index w.made s)

abbrev pub asks_next : ℕ → Option ControlCall → World → World
asks_next s None w = w
asks_next s (Some call) w = record (asks (Who.Script s) call w) { made = slice_set w.made s (slice_index w.made s + 1) }

-- a thread, one step later, where it hears what this lets through
abbrev pub stepped : Parts → Filter → Progress → Progress
stepped p f q = record {
  state = (step p q.state).after;
  printed = q.printed ++ (step p q.state).printed;
  records = q.records ++ records_in f q.steps (step p q.state).events;
  disables = q.disables ++ disables_in f q.steps (step p q.state).events;
  steps = q.steps + 1;
}

abbrev pub steps_by : Parts → ℕ → Filter → Progress → World → World
steps_by p t f q w = record w {
  history = w.history ++ delivered (answers f) (entry_of t) (step p q.state).events;
  threads = slice_set w.threads t (stepped p f q);
}

abbrev pub may_step : ℕ → Progress → Bool
may_step bound q = goes q.state.mode && nat_lt q.steps bound

-- a step of thread t, unless it has ended or done as many steps as the bound
abbrev pub steps_one : Parts → ℕ → ℕ → Option Progress → World → World
steps_one p bound t None w = w
steps_one p bound t (Some q) w = if may_step bound q then steps_by p t (heard_by (config_after w.journal w.history) (sites_of p)) q w else w

-- n such steps
unfoldable pub turn : Parts → ℕ → ℕ → ℕ → World → World
turn p bound t zero w = w
turn p bound t (suc n) w = steps_one p bound t (slice_get (turn p bound t n w).threads t) (turn p bound t n w)

abbrev pub moves_one : Parts → Workload → Move → World → World
moves_one p plan (Move.Turn t n) w = turn p plan.steps t n w
moves_one p plan (Move.Call s) w = asks_next s (next_call plan w s) w

abbrev pub moves_all : Parts → Workload → List Move → World → World
moves_all p plan [] w = w
moves_all p plan (move ∷ moves) w = moves_all p plan moves (moves_one p plan move w)

-- the remaining calls of the scripts from number s on: as many moves as each has calls serve
abbrev pub rest_of_scripts : ℕ → List (List ControlCall) → List Move
rest_of_scripts s [] = []
rest_of_scripts s (script ∷ scripts) = replicate (length script) (Move.Call s) ++ rest_of_scripts (suc s) scripts

-- the threads from number t on, each to its end or to the bound
abbrev pub rest_of_threads : ℕ → ℕ → List Start → List Move
rest_of_threads bound t [] = []
rest_of_threads bound t (start ∷ starts) = Move.Turn t bound ∷ rest_of_threads bound (suc t) starts

abbrev pub first_world : Parts → Workload → World
first_world p plan = record { journal = []; history = []; threads = map (λ s. nothing_done (begins p s)) plan.threads; made = replicate (length plan.scripts) 0 }

-- the serial run: the calls before, the schedule, the remaining calls, the remaining threads
abbrev pub last_world : Parts → Workload → List Move → World
last_world p plan schedule = moves_all p plan (rest_of_threads plan.steps 0 plan.threads) (moves_all p plan (rest_of_scripts 0 plan.scripts) (moves_all p plan schedule (asks_first plan.before (first_world p plan))))

-- the report of the serial run
pub record IsSerial (p : Parts) (plan : Plan) (report : Report) : Type 0 where
  pub journal : report.journal.lines ≡ (last_world p plan.workload plan.schedule).journal
  pub threads : report.threads ≡ map reported (last_world p plan.workload plan.schedule).threads
