-- What is kept while a plan is run on one thread is kept by a control call and by steps, which do to the serial run what its definition says.
use Rattle.std.proofs.Common.{◌≡◌, ℕ, zero, suc, ◌+◌, ◌-◌, ◌<◌, ◌≤◌, ◌⊎◌, inl, inr, false, ◌&&◌, ltb, List, [], ◌∷◌, ◌++◌, length, map, get_or, set, cond, Option, Some, None, slice_get, sym, refl, ap, ◌∙◌, subst, arith, eq-eqb, ne_eqb}
use Rattle.std.proofs.lemmas.List.{length-set, map-set}
use mathlib.Core.List.{append-nil}
use mathlib.Core.Logic.{dite}
use native.Mathlib.Decide.{ℕ_discrete}
use Rattle.mon_code.specs.Programs.{Parts}
use Rattle.mon_code.specs.Sites.{sites_of}
use Rattle.mon_words.specs.History.{base_in, offs, puts, Still}
use Rattle.mon_words.specs.declared.history.Board.{Board}
use Rattle.mon_words.specs.declared.history.Mark.{Mark}
use Rattle.mon_words.specs.declared.history.Mark.TheVariants.{Off, Put}
use Rattle.mon_words.proofs.Histories.{still-whole, still-join}
use Rattle.mon_board.specs.PlainViews.{other_marks}
use Rattle.mon_board.specs.declared.plain_view.PlainView.{PlainView}
use Rattle.mon_machine.specs.State.{State, goes}
use Rattle.mon_machine.specs.Step.{step}
use Rattle.mon_machine.specs.Run.{after_steps}
use Rattle.mon_machine.specs.Advances.{Progress, events_from}
use Rattle.mon_machine.proofs.Runs.{after_steps_sum}
use Rattle.mon_recorders.specs.Proper.{AreProper}
use Rattle.mon_history.specs.Registry.{stops}
use Rattle.mon_history.specs.Journal.{IsLawful, replay, stopping}
use Rattle.mon_history.specs.Histories.{entries}
use Rattle.mon_history.specs.Stands.{StandsFor, counts_with}
use Rattle.mon_history.specs.declared.calls.ControlCall.{ControlCall}
use Rattle.mon_history.specs.declared.calls.Who.{Who}
use Rattle.mon_history.specs.declared.journal.JournalLine.{JournalLine}
use Rattle.mon_history.specs.declared.journal.Entry.{Entry}
use Rattle.mon_history.proofs.Growing.{stands_on, entries-put, as_many}
use Rattle.mon_forms.specs.declared.plan.Start.{Start}
use Rattle.mon_forms.specs.declared.plan.Workload.{Workload}
use Rattle.mon_run.specs.Reports.{begins}
use Rattle.mon_run.specs.Serial.{change_by, line_at, steps_of, asks, may_step, turn}
use Rattle.mon_run.specs.Replaying.{Keeps, Waiting, ProperPlan, Called, Took, world_of, stops_at, put_at}
use Rattle.mon_run.proofs.Reading.{offs-append, bare_behind}
use Rattle.mon_run.proofs.Spans.{bare, later_is, made}
use Rattle.mon_run.proofs.Turning.{turn_none, turn_idle, turn_sum, set_at}
use Rattle.mon_run.proofs.Playing.{turns, then}
use Rattle.mon_run.proofs.Waiting.{advances, waits_on}

-- the history behind the call
history_due : (p : Parts) (J : List JournalLine) (v : PlainView) (o : Option Board) (counts : List ℕ) → StandsFor (sites_of p) J v.first v.seen → entries 0 (v.seen ++ put_at o counts) ≡ entries 0 v.seen ++ change_by J (stops_at o counts)
history_due p J v None counts s = ap (entries 0) (append-nil v.seen) ∙ sym (append-nil (entries 0 v.seen))
history_due p J v (Some b) counts s = let n : 0 + length (counts_with v.seen) ≡ length (stopping J) = omega (arith, as_many (sites_of p) J v.first v.seen s) in
    entries-put 0 v.seen counts b ∙ ap (λ k. entries 0 v.seen ++ Entry.Change k counts ∷ []) n

pub called_world : (p : Parts) (plan : Workload) (v w : PlainView) (J K : List JournalLine) (threads : List Progress) (made : List ℕ) (who : Who) (call : ControlCall)
    → Keeps p plan v J threads → Called p who call v w J K → world_of w K threads made ≡ asks who call (world_of v J threads made)
called_world p plan v w J K threads made who call k c =
    let journal : K ≡ J ++ line_at J who call (steps_of threads) ∷ [] = c.is ∙ ap (λ z. J ++ line_at J who call z ∷ []) k.counts in
    let history : entries 0 w.seen ≡ entries 0 v.seen ++ change_by J (line_at J who call (steps_of threads)).stops =
    ap (entries 0) c.seen ∙ (history_due p J v c.stop v.counts k.stands ∙ ap (λ z. entries 0 v.seen ++ change_by J z) (c.stop_is ∙ ap (λ z. cond (stops (replay J) call) (Some z) None) k.counts)) in
    λ i. record { journal = journal i; history = history i; threads = threads; made = made }

-- a board behind a word history
put_bare : (t : ℕ) (o : Option Board) (counts : List ℕ) → offs t (put_at o counts) ≡ []
put_bare t None counts = refl
put_bare t (Some b) counts = refl

put_still : (t n : ℕ) (o : Option Board) (counts : List ℕ) (log : List Mark) → get_or counts t 0 ≡ n → Still (length log) t n (log ++ put_at o counts)
put_still t n o counts log e = still-join (length log) t n log (put_at o counts) (omega arith) (still-whole t n log) (still_at o (length log) log refl)
  where
    still_at : (o : Option Board) (k : ℕ) (xs : List Mark) → k ≡ length xs → Still k t n (xs ++ put_at o counts)
    still_at None zero [] h = tt
    still_at (Some b) zero [] h = (e, tt)
    still_at o zero (x ∷ xs) h = absurd (omega arith)
    still_at o (suc k) [] h = absurd (omega arith)
    still_at o (suc k) (x ∷ xs) h = still_at o k xs (omega arith)

pub step_at : (threads : List Progress) (t : ℕ) (q : Progress) → slice_get threads t ≡ Some q → get_or (steps_of threads) t 0 ≡ q.steps
step_at [] t q e = absurd (cc)
step_at (x ∷ xs) zero q e = let a : x ≡ q = cc in ap (λ (z : Progress). z.steps) a
step_at (x ∷ xs) (suc t) q e = step_at xs t q e

pub called_keeps : (p : Parts) (plan : Workload) (v w : PlainView) (J K : List JournalLine) (threads : List Progress) (who : Who) (call : ControlCall) → Keeps p plan v J threads → Called p who call v w J K → Keeps p plan w K threads
called_keeps p plan v w J K threads who call k c = record {
  running = c.running;
  threads_are = c.threads ∙ k.threads_are;
  bases = ap (λ (z : Board). map base_in z.cells) c.first ∙ k.bases;
  counts = c.counts ∙ k.counts;
  long = k.long;
  lawful = subst (λ n. IsLawful n K) k.threads_are c.lawful;
  stands = c.stands;
  within = k.within;
  reads = λ t q s at is.
      waits_on p s t v.first w.first v.seen w.seen (put_at c.stop v.counts) q (k.reads t q s at is) c.first c.seen (put_bare t c.stop v.counts) (put_still t q.steps c.stop v.counts v.seen (ap (λ z. get_or z t 0) k.counts ∙ step_at threads t q at));
  others = λ t h. ap (offs t) c.seen ∙ (offs-append t v.seen (put_at c.stop v.counts) ∙ (λ i. k.others t h i ++ put_bare t c.stop v.counts i));
}

-- items of a list with one item set
pub set_mine : {A : Type 0} (xs : List A) (t : ℕ) (a b : A) → slice_get (set xs t a) t ≡ Some b → a ≡ b
set_mine [] t a b e = absurd (cc)
set_mine (x ∷ xs) zero a b e = cc
set_mine (x ∷ xs) (suc t) a b e = set_mine xs t a b e

pub set_other : {A : Type 0} (xs : List A) (t u : ℕ) (a : A) → (t ≡ u → ⊥) → slice_get (set xs t a) u ≡ slice_get xs u
set_other [] t u a n = refl
set_other (x ∷ xs) zero zero a n = absurd (n refl)
set_other (x ∷ xs) zero (suc u) a n = refl
set_other (x ∷ xs) (suc t) zero a n = refl
set_other (x ∷ xs) (suc t) (suc u) a n = set_other xs t u a (λ e. n (ap suc e))

nothing_of : {m : Mark} {ys : List Mark} → m ∷ ys ≡ [] → ⊥
nothing_of e = absurd (cc)

-- marks of thread t alone are none of another's
alone_bare : (t u : ℕ) (xs : List Mark) → (t ≡ u → ⊥) → other_marks t xs ≡ [] → offs u xs ≡ []
alone_bare t u [] n e = refl
alone_bare t u (Off x l k ∷ ms) n e = dite (ℕ_discrete x t)
    (λ (is : x ≡ t). let a = eq-eqb x t is in let b = ne_eqb x u (λ z. n (sym is ∙ z)) in
    let r : other_marks t ms ≡ [] = sym (ap (λ c. cond c (other_marks t ms) (Off x l k ∷ other_marks t ms)) a) ∙ e in
    ap (λ c. cond c (Off x l k ∷ offs u ms) (offs u ms)) b ∙ alone_bare t u ms n r)
    (λ no. let a = ne_eqb x t no in absurd (nothing_of (sym (ap (λ c. cond c (other_marks t ms) (Off x l k ∷ other_marks t ms)) a) ∙ e)))
alone_bare t u (Put s b ∷ ms) n e = absurd (cc)

-- a history that grew by disables alone is still behind what was there
quiet_still : (t n : ℕ) (log rest : List Mark) → puts rest ≡ [] → Still (length log) t n (log ++ rest)
quiet_still t n [] rest e = still_none t n rest e
  where
    still_none : (t n : ℕ) (xs : List Mark) → puts xs ≡ [] → Still 0 t n xs
    still_none t n [] e = tt
    still_none t n (Off x l k ∷ ms) e = still_none t n ms e
    still_none t n (Put s b ∷ ms) e = absurd (cc)
quiet_still t n (x ∷ log) rest e = quiet_still t n log rest e

module _ (p : Parts) (plan : Workload) (t n : ℕ) (v w : PlainView) (J : List JournalLine) (threads : List Progress) (q u : Progress)
    (proper : ProperPlan p plan) (k : Keeps p plan v J threads) (took : Took p t n v w q u) (there-is : slice_get threads t ≡ Some q) (bound : q.steps + n ≤ plan.steps) where
  abbrev rest : List Mark
  rest = took.span.more

  there : w.seen ≡ v.seen ++ took.span.more
  there = took.span.grown

  none-put : puts took.span.more ≡ []
  none-put = bare_behind v.seen took.span.more (ap puts (sym there) ∙ took.quiet)

  none-other : other_marks t took.span.more ≡ []
  none-other = bare t v.first (events_from p q.state) q.steps took.at v.seen w.seen took.records took.disables took.span took.alone

  stands : StandsFor (sites_of p) J w.first w.seen
  stands = subst (λ (z : Board × List Mark). StandsFor (sites_of p) J z.0 z.1) (λ i. (sym took.first i, sym there i)) (stands_on (sites_of p) J v.first v.seen took.span.more k.stands none-put)

  mine-now : (s : Start) → slice_get plan.threads t ≡ Some s → Waiting p s t w.first w.seen u
  mine-now s is = subst (λ (z : Board). Waiting p s t z w.seen u) (sym took.first)
      (advances p s t v.first v.seen w.seen q u took.at took.records took.disables (k.reads t q s there-is is) took.goes_on took.state took.printed took.steps took.records_are took.disables_are took.span took.quiet)

  other-now : (r : ℕ) (s : Start) (x : Progress) → (t ≡ r → ⊥) → Waiting p s r v.first v.seen x → Waiting p s r w.first w.seen x
  other-now r s x ne y = waits_on p s r v.first w.first v.seen w.seen took.span.more x y took.first there (alone_bare t r took.span.more ne none-other) (quiet_still r x.steps v.seen took.span.more none-put)

  pub took_keeps : t < length plan.threads → Keeps p plan w J (set threads t u)
  took_keeps low = record {
    running = took.running;
    threads_are = took.threads ∙ k.threads_are;
    bases = ap (λ (z : Board). map base_in z.cells) took.first ∙ k.bases;
    counts = took.counts ∙ (ap (λ z. set z t u.steps) k.counts ∙ sym (map-set (λ (q : Progress). q.steps) threads t u));
    long = length-set threads t u ∙ k.long;
    lawful = k.lawful;
    stands = stands;
    within = λ r x e. dite (ℕ_discrete t r)
        (λ is. let same : u ≡ x = set_mine threads t u x (ap (slice_get (set threads t u)) is ∙ e) in let f = took.most in let h = took.steps in let g = ap (λ (z : Progress). z.steps) same in omega arith)
        (λ ne. k.within r x (sym (set_other threads t r u ne) ∙ e));
    reads = λ r x s e is. dite (ℕ_discrete t r)
        (λ same. let x-is : u ≡ x = set_mine threads t u x (ap (slice_get (set threads t u)) same ∙ e) in
        subst (λ (z : ℕ × Progress). Waiting p s z.0 w.first w.seen z.1) (λ i. (same i, x-is i)) (mine-now s (ap (slice_get plan.threads) same ∙ is)))
        (λ ne. other-now r s x ne (k.reads r x s (sym (set_other threads t r u ne) ∙ e) is));
    others = λ r h. ap (offs r) there ∙ (offs-append r v.seen took.span.more ∙ (λ i. k.others r h i ++ alone_bare t r took.span.more (λ e. absurd (omega arith)) none-other i));
  }

  -- the steps are those of a turn
  pub took_world : (s : Start) → slice_get plan.threads t ≡ Some s → (calls : List ℕ) → world_of w J (set threads t u) calls ≡ turn p plan.steps t n (world_of v J threads calls)
  took_world s is calls =
      let m : ℕ = length took.at in let x = k.reads t q s there-is is in
      let proper-now : (j : ℕ) → j < m → AreProper (sites_of p) (events_from p q.state j) =
      λ j h. subst (λ (z : State). AreProper (sites_of p) (step p z).events) (after_steps_sum p (begins p s) (length x.at) j ∙ ap (λ (z : State). after_steps p z j) (sym x.state)) (proper t s is (length x.at + j)) in
      let span = took.span in let most = took.most in let steps = took.steps in
      let stands-there : StandsFor (sites_of p) J v.first w.seen = subst (λ (z : Board). StandsFor (sites_of p) J z w.seen) took.first stands in
      let last : Progress = then p plan.steps t took.at v.first v.seen w.seen J threads calls q took.records took.disables span took.alone took.goes_on (omega arith) there-is stands-there proper-now m in
      let run = turns p plan.steps t took.at v.first v.seen w.seen J threads calls q took.records took.disables span took.alone took.goes_on (omega arith) there-is stands-there proper-now m (omega arith) in
      let u-is : last ≡ u = λ i. record {
        state = sym took.state i;
        printed = sym took.printed i;
        records = (ap (λ z. q.records ++ z) (sym span.records_are) ∙ sym took.records_are) i;
        disables = (ap (λ z. q.disables ++ z) (sym span.disables_are) ∙ sym took.disables_are) i;
        steps = sym steps i;
      } in
      let seen : v.seen ++ made t v.first (events_from p q.state) q.steps took.at v.seen w.seen took.records took.disables span took.alone m ≡ w.seen = sym (later_is t v.first (events_from p q.state) q.steps took.at v.seen w.seen took.records took.disables span took.alone) in
      let there-now : turn p plan.steps t m (world_of v J threads calls) ≡ world_of w J (set threads t u) calls =
      run ∙ (λ i. record { journal = J; history = entries 0 (seen i); threads = set threads t (u-is i); made = calls }) in
      let k-is : n ≡ m + (n - m) = omega arith in
      sym (ap (λ j. turn p plan.steps t j (world_of v J threads calls)) k-is
      ∙ (turn_sum p plan.steps t m (n - m) (world_of v J threads calls)
      ∙ (ap (λ z. turn p plan.steps t (n - m) z) there-now ∙ over (n - m) took.done (omega arith))))
    where
      ended : goes u.state.mode ≡ false → may_step plan.steps u ≡ false
      ended e = ap (λ b. b && ltb u.steps plan.steps) e

      -- nothing is left, or the thread has ended
      over : (j : ℕ) → (length took.at ≡ n) ⊎ (goes u.state.mode ≡ false) → j + length took.at ≡ n → turn p plan.steps t j (world_of w J (set threads t u) calls) ≡ world_of w J (set threads t u) calls
      over j (inl e) h = let z : j ≡ 0 = omega arith in ap (λ j. turn p plan.steps t j (world_of w J (set threads t u) calls)) z ∙ turn_none p plan.steps t (world_of w J (set threads t u) calls)
      over j (inr e) h = turn_idle p plan.steps t j u (world_of w J (set threads t u) calls) (set_at threads t q u there-is) (ended e)
