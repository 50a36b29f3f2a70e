-- A thread of the plan begins where its number was drawn, and its report is told where its pass is given back.
use Rattle.std.proofs.Common.{◌≡◌, ◌≤◌, [], Some, slice_get, sym, ap, ◌∙◌, subst}
use Rattle.mon_code.specs.Programs.{Parts}
use Rattle.mon_words.specs.declared.history.Board.{Board}
use Rattle.mon_board.specs.Views.{told_of}
use Rattle.mon_gate.specs.Plays.{ended_of}
use Rattle.mon_gate.specs.declared.view.View.{View}
use Rattle.mon_recorders.specs.declared.report.ThreadReport.{ThreadReport}
use Rattle.mon_machine.specs.Advances.{Progress, nothing_done}
use Rattle.mon_interp.specs.Threads.{reported}
use Rattle.mon_forms.specs.declared.plan.Start.{Start}
use Rattle.mon_forms.specs.declared.plan.Workload.{Workload}
use Rattle.mon_run.specs.Reports.{begins}
use Rattle.mon_run.specs.Replaying.{IsDone, Waiting}
use Rattle.mon_run.specs.Rounds.{Left, Worked}
use Rattle.mon_run.specs.Crowding.{Claimed}
use Rattle.mon_run.proofs.Waiting.{runs_plainly}
use Rattle.mon_run.proofs.Going.{begun_reading}

-- nothing was done under the number
pub claimed_left : (p : Parts) (plan : Workload) (s : Start) (v : View) (q : Progress) → Claimed p plan v → q ≡ nothing_done (begins p s) → Left p s (told_of v) q
claimed_left p plan s v q c is = subst (Left p s (told_of v)) (sym is) record {
  at = [];
  reading = begun_reading p s (told_of v) (c.disables ∙ sym c.mine) c.disables c.stops c.loads;
  detached = ap Rattle.mon_board.specs.Views.is_attached c.out;
  count = c.stored;
}

-- the report of a thread that has ended or met the bound
pub worked : (p : Parts) (plan : Workload) (s : Start) (first : Board) (v : View) (q : Progress) (r : ThreadReport) → slice_get plan.threads v.number ≡ Some s → v.first ≡ first → Left p s (told_of v) q → q.steps ≤ plan.steps → IsDone plan.steps q → r ≡ reported q
    → Worked p plan first (ended_of v) r
worked p plan s first v q r found board l most done is =
    let g = l.reading in
    let waits : Waiting p s v.number v.first v.seen q = record { at = l.at; steps = g.steps; goes = g.goes; state = g.state; printed = g.printed; reads = g.reads } in
    subst (λ (z : Board × ThreadReport). Worked p plan z.0 (ended_of v) z.1) (λ i. (board i, sym is i)) record {
      start = s;
      found = found;
      runs = runs_plainly p plan.steps s v.number v.first v.seen q waits most done;
      last = l.count;
      own = g.owns;
      at = l.at;
      steps = g.steps;
      reads = g.reads;
      loads = g.loads;
    }
