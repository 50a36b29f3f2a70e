-- What the tasks of a run need, and what they leave.
use Rattle.std.specs.Prelude.{◌≡◌, ◌+◌, ◌≤◌, List, [], ◌∷◌, ◌++◌, length, All, OnOk}
use Rattle.mon_code.specs.Programs.{Parts}
use Rattle.mon_words.specs.declared.history.Board.{Board}
use Rattle.mon_gate.specs.Seats.{Belongs}
use Rattle.mon_gate.specs.declared.gate.Gate.{Gate}
use Rattle.mon_gate.specs.declared.view.Phase.TheVariants.{Idle}
use Rattle.mon_forms.specs.declared.plan.Workload.{Workload}
use Rattle.mon_run.specs.declared.tasks.Governor.{Governor}
use Rattle.mon_run.specs.declared.tasks.Governed.{Governed}
use Rattle.mon_run.specs.declared.tasks.Task.{Task}
use Rattle.mon_run.specs.declared.thread_task.Finished.{Finished}
use Rattle.mon_run.specs.Scripts.{longest, rounds}
use Rattle.mon_run.specs.Controlling.{Governs, Grown, SameShares, SameSizes, calls_due}
use Rattle.mon_run.specs.Crowding.{Job, Came}

-- the controller before the calls of the scripts
pub record MayGovern (p : Parts) (plan : Workload) (g : Gate) (a : Governor) : Type 0 where
  pub belongs : Belongs a.first.chair g
  pub idle : a.first.chair.me.0.phase ≡ Idle
  pub governs : Governs p a.control a.first.chair.me.0
  pub few : length a.control.journal + calls_due 0 0 plan.scripts ≤ 256

-- and behind them
pub record HasGoverned (p : Parts) (plan : Workload) (g : Gate) (a : Governor) (b : Governed) : Type 0 where
  pub belongs : Belongs b.home.chair g
  pub idle : b.home.chair.me.0.phase ≡ Idle
  pub shares : SameShares a.first.chair.me.0 b.home.chair.me.0
  pub sizes : SameSizes a.control b.control
  pub governs : Governs p b.control b.home.chair.me.0
  pub made : OnOk b.made (Grown a.control.journal b.control.journal (rounds plan.scripts (longest plan.scripts)))

abbrev pub HasWorked : Parts → Workload → Board → Gate → Finished → Type 0
HasWorked p plan first g f = Belongs f.pass.chair g × Came p plan first f.number f.pass.chair.me.0 f.report

-- what each kind of task needs
abbrev pub IsDue : Parts → Workload → Board → Gate → Task → Type 0
IsDue p plan first g (Task.Work pass) = Belongs pass.chair g × Job p plan first pass.chair.me.0
IsDue p plan first g (Task.Govern a) = MayGovern p plan g a
IsDue p plan first g (Task.Worked f) = ⊥
IsDue p plan first g (Task.Governed b) = ⊥
IsDue p plan first g Task.Taken = ⊥

abbrev pub IsWorked : Parts → Workload → Board → Gate → Task → Type 0
IsWorked p plan first g (Task.Work pass) = ⊥
IsWorked p plan first g (Task.Govern a) = ⊥
IsWorked p plan first g (Task.Worked f) = HasWorked p plan first g f
IsWorked p plan first g (Task.Governed b) = ⊥
IsWorked p plan first g Task.Taken = ⊥

abbrev pub IsGoverned : Parts → Workload → Gate → Governor → Task → Type 0
IsGoverned p plan g a (Task.Work pass) = ⊥
IsGoverned p plan g a (Task.Govern x) = ⊥
IsGoverned p plan g a (Task.Worked f) = ⊥
IsGoverned p plan g a (Task.Governed b) = HasGoverned p plan g a b
IsGoverned p plan g a Task.Taken = ⊥

-- what it leaves
abbrev pub IsDone : Parts → Workload → Board → Gate → Task → Task → Type 0
IsDone p plan first g (Task.Work pass) done = IsWorked p plan first g done
IsDone p plan first g (Task.Govern a) done = IsGoverned p plan g a done
IsDone p plan first g (Task.Worked f) done = ⊥
IsDone p plan first g (Task.Governed b) done = ⊥
IsDone p plan first g Task.Taken done = ⊥

-- a thread's task, which is due
abbrev pub IsJob : Parts → Workload → Board → Gate → Task → Type 0
IsJob p plan first g (Task.Work pass) = Belongs pass.chair g × Job p plan first pass.chair.me.0
IsJob p plan first g (Task.Govern a) = ⊥
IsJob p plan first g (Task.Worked f) = ⊥
IsJob p plan first g (Task.Governed b) = ⊥
IsJob p plan first g Task.Taken = ⊥

-- a task for each thread, and the controller's last
pub record AreListed (p : Parts) (plan : Workload) (first : Board) (g : Gate) (a : Governor) (tasks : List Task) : Type 0 where
  pub jobs : List Task
  pub is : tasks ≡ jobs ++ Task.Govern a ∷ []
  pub many : length jobs ≡ length plan.threads
  pub due : All (IsJob p plan first g) jobs
  pub may : MayGovern p plan g a
