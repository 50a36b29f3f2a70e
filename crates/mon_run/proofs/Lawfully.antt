-- The run on one thread begins as its definition says, and what is kept at its end is a legal report.
use Rattle.std.proofs.Common.{◌≡◌, ℕ, zero, suc, List, [], ◌∷◌, length, map, replicate, Some, slice_get, sym, refl, ap, ◌∙◌, subst, arith}
use Rattle.std.proofs.lemmas.List.{length-map, length-replicate}
use Rattle.mon_code.specs.Programs.{Parts}
use Rattle.mon_code.specs.Sites.{sites_of}
use Rattle.mon_words.specs.History.{base_in}
use Rattle.mon_words.specs.declared.history.Board.{Board}
use Rattle.mon_words.specs.declared.history.Mark.{Mark}
use Rattle.mon_words.specs.declared.history.Mark.TheVariants.{Off, Put}
use Rattle.mon_board.specs.Plain.{first_plain}
use Rattle.mon_board.specs.declared.plain_view.PlainView.{PlainView}
use Rattle.mon_recorders.specs.declared.report.ThreadReport.{ThreadReport}
use Rattle.mon_machine.specs.Advances.{Progress, nothing_done, events_from}
use Rattle.mon_interp.specs.Threads.{reported}
use Rattle.mon_history.specs.Journal.{IsLawful, stopping, counts_of}
use Rattle.mon_history.specs.Histories.{changes, entries, numbered}
use Rattle.mon_history.specs.Stands.{StandsFor, counts_with}
use Rattle.mon_history.specs.declared.journal.Entry.{Entry}
use Rattle.mon_history.specs.declared.journal.JournalLine.{JournalLine}
use Rattle.mon_history.proofs.Legal.{own_entries, read_legally}
use Rattle.mon_control.specs.View.{Shown}
use Rattle.mon_forms.specs.declared.plan.Move.{Move}
use Rattle.mon_forms.specs.declared.plan.Plan.{Plan}
use Rattle.mon_forms.specs.declared.plan.Start.{Start}
use Rattle.mon_forms.specs.declared.plan.Workload.{Workload}
use Rattle.mon_forms.specs.declared.report.Report.{Report}
use Rattle.mon_run.specs.Turns.{Follows}
use Rattle.mon_run.specs.Reports.{begins, RunsPlainly, ReadsLegally, IsLegal}
use Rattle.mon_run.specs.Serial.{World, steps_of, asks_first, moves_all, rest_of_scripts, rest_of_threads, first_world, last_world, IsSerial}
use Rattle.mon_run.specs.Replaying.{Waiting, Keeps, Holds, IsDone, ProperPlan, world_of}
use Rattle.mon_run.proofs.Waiting.{begun, runs_plainly}
use Rattle.mon_run.proofs.Following.{serial_follows}

no_line : (k : ℕ) (l : JournalLine) → slice_get [] k ≡ Some l → ⊥
no_line k l e = absurd (cc)

pub lawful_none : (n : ℕ) → IsLawful n []
lawful_none n = record {
  replies = λ k l e. absurd (no_line k l e);
  stopped = λ k l e. absurd (no_line k l e);
  wide = λ k l c e s. absurd (no_line k l e);
  rising = λ j k l m a b h e f s u t i. absurd (no_line j l e);
}

steps_none : (p : Parts) (starts : List Start) → replicate (length starts) 0 ≡ steps_of (map (λ s. nothing_done (begins p s)) starts)
steps_none p [] = refl
steps_none p (x ∷ xs) = ap (λ (z : List ℕ). 0 ∷ z) (steps_none p xs)

begun_at : (p : Parts) (starts : List Start) (t : ℕ) (q : Progress) → slice_get (map (λ s. nothing_done (begins p s)) starts) t ≡ Some q → q.steps ≡ 0
begun_at p [] t q e = absurd (cc)
begun_at p (x ∷ xs) zero q e = let a : nothing_done (begins p x) ≡ q = cc in sym (ap (λ (z : Progress). z.steps) a)
begun_at p (x ∷ xs) (suc t) q e = begun_at p xs t q e

begun_of : (p : Parts) (starts : List Start) (t : ℕ) (q : Progress) (s : Start) → slice_get (map (λ s. nothing_done (begins p s)) starts) t ≡ Some q → slice_get starts t ≡ Some s → nothing_done (begins p s) ≡ q
begun_of p [] t q s e f = absurd (cc)
begun_of p (x ∷ xs) zero q s e f = let a : nothing_done (begins p x) ≡ q = cc in let b : x ≡ s = cc in ap (λ (z : Start). nothing_done (begins p z)) (sym b) ∙ a
begun_of p (x ∷ xs) (suc t) q s e f = begun_of p xs t q s e f

first_keeps : (p : Parts) (plan : Workload) (first : Board) → map base_in first.cells ≡ p.bases → StandsFor (sites_of p) [] first [] → Keeps p plan (first_plain (length plan.threads) first) [] (map (λ s. nothing_done (begins p s)) plan.threads)
first_keeps p plan first bases stands = record {
  running = (refl, refl);
  threads_are = refl;
  bases = bases;
  counts = steps_none p plan.threads;
  long = length-map plan.threads (λ s. nothing_done (begins p s));
  lawful = lawful_none (length plan.threads);
  stands = stands;
  within = λ t q e. let z = begun_at p plan.threads t q e in omega arith;
  reads = λ t q s e is. subst (Waiting p s t first []) (begun_of p plan.threads t q s e is) (begun p s t first);
  others = λ t h. refl;
}

pub first_holds : (p : Parts) (plan : Workload) (c : Shown) (v : PlainView) (threads : List Progress) (made : List ℕ) (first : Board) → v ≡ first_plain (length plan.threads) first → map base_in first.cells ≡ p.bases → StandsFor (sites_of p) [] first []
    → c.journal ≡ [] → c.threads ≡ length plan.threads → c.codes ≡ length p.codes → threads ≡ map (λ s. nothing_done (begins p s)) plan.threads → made ≡ replicate (length plan.scripts) 0 → Holds p plan c v threads made
first_holds p plan c v threads made first view bases stands none count codes begun_are made_are = record {
  keeps = subst (λ (z : PlainView × (List JournalLine × List Progress)). Keeps p plan z.0 z.1.0 z.1.1) (λ i. (sym view i, (sym none i, sym begun_are i))) (first_keeps p plan first bases stands);
  count_is = count;
  codes_are = sym codes;
  wide = ap length made_are ∙ length-replicate (length plan.scripts) 0;
}

-- the changes of a word history are those of the calls whose counts it has
pub changes_are : (n : ℕ) (W : List Mark) (L : List JournalLine) → counts_with W ≡ map (λ (line : JournalLine). line.stops) L → changes (entries n W) ≡ numbered n L
changes_are n [] [] e = refl
changes_are n [] (x ∷ L) e = absurd (cc)
changes_are n (Off t l k ∷ ms) L e = changes_are n ms L e
changes_are n (Put c b ∷ ms) [] e = absurd (cc)
changes_are n (Put c b ∷ ms) (x ∷ L) e =
    let p : Some c ≡ x.stops = cc in let q : counts_with ms ≡ map (λ (line : JournalLine). line.stops) L = cc in
    let a : c ≡ counts_of x.stops = ap counts_of p in let b = changes_are (suc n) ms L q in λ i. Entry.Change n (a i) ∷ b i

report_at : (qs : List Progress) (t : ℕ) (r : ThreadReport) → slice_get (map reported qs) t ≡ Some r → (q : Progress) × ((slice_get qs t ≡ Some q) × (reported q ≡ r))
report_at [] t r e = absurd (cc)
report_at (x ∷ xs) zero r e = let a : reported x ≡ r = cc in (x, (refl, a))
report_at (x ∷ xs) (suc t) r e = report_at xs t r e

pub is_serial : (p : Parts) (plan : Plan) (v : PlainView) (J : List JournalLine) (threads : List Progress) (made : List ℕ) (report : Report) → world_of v J threads made ≡ last_world p plan.workload plan.schedule → report.journal.lines ≡ J → report.threads ≡ map reported threads → IsSerial p plan report
is_serial p plan v J threads made report world journal reports = record {
  journal = journal ∙ ap (λ (z : World). z.journal) world;
  threads = reports ∙ ap (λ (z : World). map reported z.threads) world;
}

pub legal : (p : Parts) (plan : Workload) (schedule : List Move) (c : Shown) (v : PlainView) (threads : List Progress) (made : List ℕ) (report : Report) → ProperPlan p plan → Holds p plan c v threads made
    → ((t : ℕ) (q : Progress) → slice_get threads t ≡ Some q → IsDone plan.steps q) → world_of v c.journal threads made ≡ last_world p plan schedule → report.journal.lines ≡ c.journal → report.threads ≡ map reported threads → IsLegal p plan report
legal p plan schedule c v threads made report proper holds done world journal_is reports_are =
    let k = holds.keeps in
    let journal : (last_world p plan schedule).journal ≡ report.journal.lines = sym (ap (λ (z : World). z.journal) world) ∙ sym journal_is in
    let stands : StandsFor (sites_of p) report.journal.lines v.first v.seen = subst (λ (z : List JournalLine). StandsFor (sites_of p) z v.first v.seen) (sym journal_is) k.stands in
    let at : (t : ℕ) (r : ThreadReport) → slice_get report.threads t ≡ Some r → (q : Progress) × ((slice_get threads t ≡ Some q) × (reported q ≡ r)) = λ t r e. report_at threads t r (ap (λ z. slice_get z t) (sym reports_are) ∙ e) in (
      entries 0 v.seen,
      record {
        all = ap length reports_are ∙ (length-map threads reported ∙ k.long);
        lawful = subst (IsLawful (length plan.threads)) (sym journal_is) k.lawful;
        follows = subst (Follows plan) journal (serial_follows p plan schedule);
        runs = λ t s r is e. let q = at t r e in
            subst (RunsPlainly p plan.steps s) q.1.1 (runs_plainly p plan.steps s t v.first v.seen q.0 (k.reads t q.0 s q.1.0 is) (k.within t q.0 q.1.0) (done t q.0 q.1.0));
        changes = changes_are 0 v.seen (stopping report.journal.lines) stands.boards;
        reads = λ t s r is e. let q = at t r e in let w = k.reads t q.0 s q.1.0 is in
            subst (ReadsLegally p report (entries 0 v.seen) t s) q.1.1 (record {
              at = w.at;
              steps = sym w.steps;
              reading = read_legally (sites_of p) report.journal.lines v.first v.seen t (events_from p (begins p s)) w.at (q.0).records (q.0).disables stands (λ i _. proper t s is i) w.reads;
            });
        others = λ t h. own_entries t 0 v.seen ∙ ap (entries 0) (k.others t h);
      },
    )

-- the parts of the run in a row
pub in_row : (p : Parts) (plan : Workload) (schedule : List Move) (v : PlainView) (J : List JournalLine) (threads : List Progress) (made : List ℕ) (b c d e : World) → v.seen ≡ [] → J ≡ [] → threads ≡ map (λ s. nothing_done (begins p s)) plan.threads → made ≡ replicate (length plan.scripts) 0
    → b ≡ asks_first plan.before (world_of v J threads made) → c ≡ moves_all p plan schedule b → d ≡ moves_all p plan (rest_of_scripts 0 plan.scripts) c → e ≡ moves_all p plan (rest_of_threads plan.steps 0 plan.threads) d → e ≡ last_world p plan schedule
in_row p plan schedule v J threads made b c d e seen none begun_are made_are f g h i =
    let first : world_of v J threads made ≡ first_world p plan = λ k. record { journal = none k; history = entries 0 (seen k); threads = begun_are k; made = made_are k } in
    i ∙ ap (moves_all p plan (rest_of_threads plan.steps 0 plan.threads)) (h ∙ ap (moves_all p plan (rest_of_scripts 0 plan.scripts)) (g ∙ ap (moves_all p plan schedule) (f ∙ ap (asks_first plan.before) first)))
