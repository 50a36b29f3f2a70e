-- The first pass once the tasks of a run are done, and once it has taken their passes in.
use Rattle.std.proofs.Common.{◌≡◌, ◌+◌, List, [], length, Option, OnOk, sym, ap, ◌∙◌, subst, arith}
use Rattle.std.specs.List.{All}
use Rattle.mon_code.specs.Programs.{Parts}
use Rattle.mon_words.specs.declared.history.Board.{Board}
use Rattle.mon_recorders.specs.declared.report.ThreadReport.{ThreadReport}
use Rattle.mon_gate.specs.Seats.{Belongs}
use Rattle.mon_gate.specs.declared.gate.Gate.{Gate}
use Rattle.mon_gate.specs.declared.view.Phase.TheVariants.{Idle}
use Rattle.mon_gate.specs.declared.view.View.{View}
use Rattle.mon_control.specs.View.{Shown}
use Rattle.mon_forms.specs.declared.plan.Workload.{Workload}
use Rattle.mon_run.specs.declared.tasks.Governed.{Governed}
use Rattle.mon_run.specs.declared.tasks.Governor.{Governor}
use Rattle.mon_run.specs.declared.tasks.Task.{Task}
use Rattle.mon_run.specs.Scripts.{longest, rounds}
use Rattle.mon_run.specs.Controlling.{Grown}
use Rattle.mon_run.specs.Crowding.{Gathered, IsHome}
use Rattle.mon_run.specs.Tasks.{AreListed, HasGoverned, IsWorked}
use Rattle.mon_run.proofs.Lending.{none_gathered}

module _ (p : Parts) (plan : Workload) (g : Gate) (first : View) (control : Shown) (tasks workers : List Task) (b : Governed) (begun : first.ended ≡ [])
    (listed : (a : Governor) × AreListed p plan first.first g a tasks × (a.control ≡ control) × (a.first.chair.me.0 ≡ record first { tickets = 0 }))
    (done : (board : Board) (a : Governor) → AreListed p plan board g a tasks → HasGoverned p plan g a b × All (IsWorked p plan board g) workers × (length workers ≡ length plan.threads)) where
  abbrev home : View
  home = b.home.chair.me.0

  governed : HasGoverned p plan g listed.0 b
  governed = (done first.first listed.0 listed.1).0

  pub belongs : Belongs b.home.chair g
  belongs = governed.belongs

  pub idle : home.phase ≡ Idle
  idle = governed.idle

  board : home.first ≡ first.first
  board = governed.shares.first ∙ ap (λ (z : View). z.first) listed.3

  pub worked : All (IsWorked p plan home.first g) workers
  worked = subst (λ (z : Board). All (IsWorked p plan z g) workers) (sym board) (done first.first listed.0 listed.1).1

  many : length workers ≡ length plan.threads
  many = (done first.first listed.0 listed.1).2

  none : home.ended ≡ []
  none = governed.shares.ended ∙ (ap (λ (z : View). z.ended) listed.3 ∙ begun)

  tickets : home.tickets ≡ 0
  tickets = governed.shares.tickets ∙ ap (λ (z : View). z.tickets) listed.3

  pub gathered : (slots : List (Option ThreadReport)) → first.threads ≡ length plan.threads → length slots ≡ length plan.threads → Gathered p plan b.control home slots
  gathered slots threads wide = none_gathered p plan b.control home slots idle (governed.shares.threads ∙ (ap (λ (z : View). z.threads) listed.3 ∙ threads)) governed.governs wide none

  pub made : OnOk b.made (Grown control.journal b.control.journal (rounds plan.scripts (longest plan.scripts)))
  made = subst (λ (z : Shown). OnOk b.made (Grown z.journal b.control.journal (rounds plan.scripts (longest plan.scripts)))) listed.2 governed.made

  -- all are in
  pub all_in : (w : View) → length w.ended ≡ length home.ended + length workers → length w.ended ≡ length plan.threads
  all_in w ended = let n = ap length none in omega (arith, ended, n, many)

  pub comes_home : (w : View) (slots : List (Option ThreadReport)) → Gathered p plan b.control w slots → w.tickets ≡ home.tickets → length w.ended ≡ length home.ended + length workers → IsHome plan w
  comes_home w slots h same ended = record { idle = h.idle; threads = h.threads; all = let n = all_in w ended in omega (arith, n, same, tickets) }

-- the first pass sees the whole history once more
pub home_still : (plan : Workload) (v w : View) → w ≡ record v { seen = w.seen } → IsHome plan v → IsHome plan w
home_still plan v w is home = subst (IsHome plan) (sym is) record { idle = home.idle; threads = home.threads; all = home.all }
