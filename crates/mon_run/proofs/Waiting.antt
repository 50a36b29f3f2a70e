-- A thread's reading goes on by an advance, and by calls between two of them.
use Rattle.std.proofs.Common.{◌≡◌, ℕ, ◌+◌, ◌≤◌, ⊎_elim, false, List, [], ◌++◌, length, sym, refl, ap, ◌∙◌, subst, arith, length-append}
use Rattle.mon_code.specs.Programs.{Parts}
use Rattle.mon_words.specs.History.{offs, puts, Still}
use Rattle.mon_words.specs.declared.history.Board.{Board}
use Rattle.mon_words.specs.declared.history.Mark.{Mark}
use Rattle.mon_recorders.specs.declared.happening.Happening.{Happening}
use Rattle.mon_recorders.specs.declared.record.Record.{Record}
use Rattle.mon_recorders.specs.declared.record.Disabled.{Disabled}
use Rattle.mon_recorders.specs.Readings.{Span}
use Rattle.mon_recorders.specs.Boards.{reader}
use Rattle.mon_machine.specs.State.{State, goes}
use Rattle.mon_machine.specs.Step.{step}
use Rattle.mon_machine.specs.Run.{after_steps, steps_done, Goes, printed_by, outcome_of}
use Rattle.mon_machine.specs.Advances.{Progress, nothing_done, events_from}
use Rattle.mon_machine.proofs.Runs.{after_steps_none, after_steps_sum, goes_none, goes_sum, steps_done_goes, steps_done_all}
use Rattle.mon_machine.proofs.Printed.{printed_none, runs_add_up}
use Rattle.mon_interp.specs.Threads.{reported}
use Rattle.mon_history.specs.Readings.{Reads}
use Rattle.mon_forms.specs.declared.plan.Start.{Start}
use Rattle.mon_run.specs.Reports.{begins, RunsPlainly}
use Rattle.mon_run.specs.Replaying.{Waiting, IsDone}
use Rattle.mon_run.proofs.Reading.{reads_none, reads_on, reads_more}

-- the thread has begun
pub begun : (p : Parts) (s : Start) (t : ℕ) (first : Board) → Waiting p s t first [] (nothing_done (begins p s))
begun p s t first = record {
  at = [];
  steps = refl;
  goes = goes_none p (begins p s);
  state = sym (after_steps_none p (begins p s));
  printed = sym (printed_none p (begins p s));
  reads = reads_none t first (events_from p (begins p s));
}

-- it advances
module _ (p : Parts) (s : Start) (t : ℕ) (first : Board) (seen later : List Mark) (q u : Progress) (bt : List ℕ) (rs : List Record) (ds : List Disabled)
    (w : Waiting p s t first seen q) (go : Goes p q.state (length bt)) (state : u.state ≡ after_steps p q.state (length bt)) (printed : u.printed ≡ q.printed ++ printed_by p q.state (length bt)) (steps : u.steps ≡ q.steps + length bt)
    (records : u.records ≡ q.records ++ rs) (disables : u.disables ≡ q.disables ++ ds) (span : Span (reader t first) (events_from p q.state) q.steps bt seen later rs ds) (quiet : puts later ≡ puts seen) where
  long : length (w.at ++ bt) ≡ length w.at + length bt
  long = length-append w.at bt

  at : (k : ℕ) → after_steps p (begins p s) (length w.at + k) ≡ after_steps p q.state k
  at k = after_steps_sum p (begins p s) (length w.at) k ∙ ap (λ (x : State). after_steps p x k) (sym w.state)

  same : events_from p q.state ≡ (λ k. events_from p (begins p s) (length w.at + k))
  same = λ i k. (step p (sym (at k) i)).events

  there : Span (reader t first) (λ k. events_from p (begins p s) (length w.at + k)) (length w.at) bt seen later rs ds
  there = subst (λ (y : (ℕ → List Happening) × ℕ). Span (reader t first) y.0 y.1 bt seen later rs ds) (λ i. (same i, w.steps i)) span

  pub advances : Waiting p s t first later u
  advances = record {
    at = w.at ++ bt;
    steps = steps ∙ (ap (λ k. k + length bt) w.steps ∙ sym long);
    goes = subst (λ (k : ℕ). Goes p (begins p s) k) (sym long) (goes_sum p (begins p s) (length w.at) (length bt) w.goes (subst (λ (x : State). Goes p x (length bt)) w.state go));
    state = state ∙ (sym (at (length bt)) ∙ ap (λ (k : ℕ). after_steps p (begins p s) k) (sym long));
    printed = printed ∙ ((λ i. w.printed i ++ printed_by p (w.state i) (length bt)) ∙ (sym (runs_add_up p (begins p s) (length w.at) (length bt)).printed ∙ ap (λ (k : ℕ). printed_by p (begins p s) k) (sym long)));
    reads = subst (λ (x : List Record × List Disabled). Reads t first (events_from p (begins p s)) (w.at ++ bt) later x.0 x.1) (λ i. (sym records i, sym disables i))
        (reads_more t first (events_from p (begins p s)) w.at bt seen later q.records rs q.disables ds w.reads there quiet);
  }

-- it reads a longer history, where it has no mark of its own and each board stopped it where it is
pub waits_on : (p : Parts) (s : Start) (t : ℕ) (first first2 : Board) (seen seen2 rest : List Mark) (q : Progress) → Waiting p s t first seen q → first2 ≡ first → seen2 ≡ seen ++ rest → offs t rest ≡ [] → Still (length seen) t q.steps (seen ++ rest) → Waiting p s t first2 seen2 q
waits_on p s t first first2 seen seen2 rest q w first-is seen-is bare still = record {
  at = w.at;
  steps = w.steps;
  goes = w.goes;
  state = w.state;
  printed = w.printed;
  reads = subst (λ (z : Board × List Mark). Reads t z.0 (events_from p (begins p s)) w.at z.1 q.records q.disables) (λ i. (sym first-is i, sym seen-is i))
      (reads_on t first (events_from p (begins p s)) w.at seen rest q.records q.disables w.reads bare (subst (λ (n : ℕ). Still (length seen) t n (seen ++ rest)) w.steps still));
}

-- a thread that has ended or met its bound ran as the plain machine does
pub runs_plainly : (p : Parts) (bound : ℕ) (s : Start) (t : ℕ) (first : Board) (seen : List Mark) (q : Progress) → Waiting p s t first seen q → q.steps ≤ bound → IsDone bound q → RunsPlainly p bound s (reported q)
runs_plainly p bound s t first seen q w most done =
    let z : State = begins p s in
    let all : steps_done p z bound ≡ q.steps = ⊎_elim
    (λ (e : goes q.state.mode ≡ false). steps_done_all p z (length w.at) bound w.goes (ap (λ (y : State). goes y.mode) (sym w.state) ∙ e) (omega (arith, w.steps)) ∙ sym w.steps)
    (λ (e : q.steps ≡ bound). ap (λ (k : ℕ). steps_done p z k) (sym e ∙ w.steps) ∙ (steps_done_goes p z (length w.at) w.goes ∙ sym w.steps)) done in
    record {
      steps = sym all;
      printed = w.printed ∙ ap (λ (k : ℕ). printed_by p z k) (sym w.steps);
      outcome = ap (λ (y : State). outcome_of y.mode) (w.state ∙ ap (λ (k : ℕ). after_steps p z k) (sym w.steps));
    }
