-- The tasks of a run, due and done.
use Rattle.std.proofs.Common.{◌≡◌, ℕ, suc, ◌+◌, ◌<◌, List, [], ◌∷◌, ◌++◌, take, drop, length, get_or, sym, refl, ap, ◌∙◌, subst, arith, length-append}
use Rattle.std.proofs.Math.Seq.{get_or-append_seam}
use Rattle.std.proofs.lemmas.List.{get_or_append_left, take-append-le, take_all}
use Rattle.std.proofs.lemmas.List.Elements.{All-get_or, All-from_get_or}
use Rattle.std.specs.List.{All}
use mathlib.Core.Logic.{dite}
use native.Mathlib.Decide.{dec_le}
use Rattle.mon_code.specs.Programs.{Parts}
use Rattle.mon_words.specs.declared.history.Board.{Board}
use Rattle.mon_gate.specs.declared.gate.Gate.{Gate}
use Rattle.mon_gate.specs.declared.view.View.{View}
use Rattle.mon_forms.specs.declared.plan.Workload.{Workload}
use Rattle.mon_run.specs.declared.tasks.Governed.{Governed}
use Rattle.mon_run.specs.declared.tasks.Governor.{Governor}
use Rattle.mon_run.specs.declared.tasks.Task.{Task}
use Rattle.mon_run.specs.Crowding.{Job}
use Rattle.mon_run.specs.Tasks.{AreListed, IsDone, IsDue, IsGoverned, IsJob, IsWorked}

-- a list that was lent whole is as it was left
pub whole_back : {A : Type 0} (n : ℕ) (news olds : List A) → length news ≡ length olds → n ≡ length olds → take n (news ++ drop (length news) olds) ≡ news
whole_back n news olds same long = take-append-le n news (drop (length news) olds) (omega (arith, same, long)) ∙ take_all n news (omega (arith, same, long))

-- the first board of a job is that of its view
pub own_board : (p : Parts) (plan : Workload) (first : Board) (v : View) → Job p plan first v → Job p plan v.first v
own_board p plan first v job = subst (λ (z : Board). Job p plan z v) (sym job.first_is) job

-- what the controller leaves
pub governed_there : (p : Parts) (plan : Workload) (g : Gate) (a : Governor) (t : Task) → IsGoverned p plan g a t → (b : Governed) × (t ≡ Task.Governed b)
governed_there p plan g a (Task.Work pass) h = absurd h
governed_there p plan g a (Task.Govern x) h = absurd h
governed_there p plan g a (Task.Worked f) h = absurd h
governed_there p plan g a (Task.Governed b) h = (b, refl)
governed_there p plan g a Task.Taken h = absurd h

module _ (p : Parts) (plan : Workload) (first : Board) (g : Gate) where
  job_due : (t : Task) → IsJob p plan first g t → IsDue p plan first g t
  job_due (Task.Work pass) h = h
  job_due (Task.Govern a) h = absurd h
  job_due (Task.Worked f) h = absurd h
  job_due (Task.Governed b) h = absurd h
  job_due Task.Taken h = absurd h

  job_worked : (t u : Task) → IsJob p plan first g t → IsDone p plan first g t u → IsWorked p plan first g u
  job_worked (Task.Work pass) u h d = d
  job_worked (Task.Govern a) u h d = absurd h
  job_worked (Task.Worked f) u h d = absurd h
  job_worked (Task.Governed b) u h d = absurd h
  job_worked Task.Taken u h d = absurd h

module _ (p : Parts) (plan : Workload) (first : Board) (g : Gate) (a : Governor) (tasks : List Task) (l : AreListed p plan first g a tasks) where
  pub listed_long : length tasks ≡ length l.jobs + 1
  listed_long = ap length l.is ∙ length-append l.jobs (Task.Govern a ∷ [])

  at_job : (i : ℕ) (d : Task) → i < length l.jobs → get_or tasks i d ≡ get_or l.jobs i d
  at_job i d low = ap (λ (xs : List Task). get_or xs i d) l.is ∙ get_or_append_left l.jobs (Task.Govern a ∷ []) d i low

  at_last : (d : Task) → get_or tasks (length l.jobs) d ≡ Task.Govern a
  at_last d = ap (λ (xs : List Task). get_or xs (length l.jobs) d) l.is ∙ get_or-append_seam l.jobs (Task.Govern a) [] d

  is_job : (i : ℕ) (d : Task) → i < length l.jobs → IsJob p plan first g (get_or l.jobs i d)
  is_job i d low = All-get_or (IsJob p plan first g) l.jobs i d low l.due

  pub listed_due : (i : ℕ) (d : Task) → i < length tasks → IsDue p plan first g (get_or tasks i d)
  listed_due i d low = dite (dec_le (suc i) (length l.jobs))
      (λ here. subst (IsDue p plan first g) (sym (at_job i d here)) (job_due p plan first g (get_or l.jobs i d) (is_job i d here)))
      (λ past. let e : i ≡ length l.jobs = omega (arith, listed_long) in subst (IsDue p plan first g) (sym (ap (λ k. get_or tasks k d) e ∙ at_last d)) l.may)

  -- what they leave, of which the last was the controller's
  module _ (news front : List Task) (last : Task) (same : length news ≡ length tasks) (done : (i : ℕ) (d : Task) → i < length tasks → IsDone p plan first g (get_or tasks i d) (get_or news i d)) (is : news ≡ front ++ last ∷ []) where
    pub many : length front ≡ length plan.threads
    many = let long : length news ≡ length front + 1 = ap length is ∙ length-append front (last ∷ []) in omega (arith, long, same, listed_long, l.many)

    many_jobs : length front ≡ length l.jobs
    many_jobs = many ∙ sym l.many

    new_last : get_or news (length l.jobs) last ≡ last
    new_last = ap (λ k. get_or news k last) (sym many_jobs) ∙ (ap (λ (xs : List Task). get_or xs (length front) last) is ∙ get_or-append_seam front last [] last)

    pub last_governed : IsGoverned p plan g a last
    last_governed = subst (λ (z : Task × Task). IsDone p plan first g z.0 z.1) (λ k. (at_last last k, new_last k)) (done (length l.jobs) last (omega (arith, listed_long)))

    front_worked : (i : ℕ) → i < length front → IsWorked p plan first g (get_or front i last)
    front_worked i low =
        let here : i < length l.jobs = omega (arith, many_jobs) in
        let new : get_or news i last ≡ get_or front i last = ap (λ (xs : List Task). get_or xs i last) is ∙ get_or_append_left front (last ∷ []) last i low in
        job_worked p plan first g (get_or l.jobs i last) (get_or front i last) (is_job i last here)
        (subst (λ (z : Task × Task). IsDone p plan first g z.0 z.1) (λ k. (at_job i last here k, new k)) (done i last (omega (arith, listed_long))))

    pub all_worked : All (IsWorked p plan first g) front
    all_worked = All-from_get_or (IsWorked p plan first g) front last front_worked
