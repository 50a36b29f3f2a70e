-- What the first pass knows, once all threads were joined into it, is a legal report.
use Rattle.std.proofs.Common.{◌≡◌, ℕ, zero, suc, ◌<◌, List, [], ◌∷◌, ◌++◌, map, length, Option, Some, slice_get, sym, refl, ap, ◌∙◌, subst, arith}
use Rattle.mon_code.specs.Programs.{Parts}
use Rattle.mon_code.specs.Sites.{sites_of}
use Rattle.mon_words.specs.History.{offs, Still}
use Rattle.mon_words.specs.declared.history.Board.{Board}
use Rattle.mon_words.specs.declared.history.Mark.{Mark}
use Rattle.mon_recorders.specs.declared.report.ThreadReport.{ThreadReport}
use Rattle.mon_machine.specs.Advances.{events_from}
use Rattle.mon_gate.specs.Plays.{Past, Whole}
use Rattle.mon_gate.specs.declared.view.View.{View}
use Rattle.mon_gate.specs.declared.view.Ended.{Ended}
use Rattle.mon_history.specs.Histories.{entries}
use Rattle.mon_history.specs.Journal.{stopping}
use Rattle.mon_history.specs.Readings.{Reads}
use Rattle.mon_history.specs.Stands.{StandsFor}
use Rattle.mon_history.specs.declared.journal.JournalLine.{JournalLine}
use Rattle.mon_history.proofs.Growing.{front_at}
use Rattle.mon_history.proofs.Legal.{own_entries, read_legally}
use Rattle.mon_control.specs.View.{Shown}
use Rattle.mon_forms.specs.declared.plan.Start.{Start}
use Rattle.mon_forms.specs.declared.plan.Workload.{Workload}
use Rattle.mon_forms.specs.declared.report.Report.{Report}
use Rattle.mon_run.specs.Turns.{asked, first_calls}
use Rattle.mon_run.specs.Scripts.{in_order, longest, rounds}
use Rattle.mon_run.specs.Reports.{begins, RunsPlainly, ReadsLegally, LegalBy}
use Rattle.mon_run.specs.Replaying.{ProperPlan}
use Rattle.mon_run.specs.Rounds.{Worked}
use Rattle.mon_run.specs.Crowding.{Gathered, GatheredIsLegal}
use Rattle.mon_run.proofs.Turns.{asked_append, asked_long, first_long}
use Rattle.mon_run.proofs.Reading.{offs-append, reads_on}
use Rattle.mon_run.proofs.Lawfully.{changes_are}
use Rattle.mon_run.proofs.InTurn.{follows}

some_same : {A : Type 0} (x y : A) → Some x ≡ Some y → x ≡ y
some_same x y e = cc

within : {A : Type 0} (xs : List A) (k : ℕ) (x : A) → slice_get xs k ≡ Some x → k < length xs
within [] k x e = absurd (cc)
within (y ∷ ys) zero x e = omega arith
within (y ∷ ys) (suc k) x e = let h = within ys k x e in omega arith

cancel_front : (xs ys : List Mark) → xs ++ ys ≡ xs → ys ≡ []
cancel_front [] ys e = e
cancel_front (x ∷ xs) ys e = let t : xs ++ ys ≡ xs = cc in cancel_front xs ys t

-- reports that are all there
some_there : {A : Type 0} (x : A) (zs : List A) (k : ℕ) → slice_get zs k ≡ Some x → slice_get (map Some zs) k ≡ Some (Some x)
some_there x [] k f = absurd (cc)
some_there x (z ∷ zs) zero f = ap Some f
some_there x (z ∷ zs) (suc k) f = some_there x zs k f

some_long : {A : Type 0} (xs : List A) (ys : List (Option A)) → map Some xs ≡ ys → length xs ≡ length ys
some_long [] ys e = ap length e
some_long (x ∷ xs) [] e = absurd (cc)
some_long (x ∷ xs) (y ∷ ys) e = let q : map Some xs ≡ ys = cc in let h = some_long xs ys q in omega arith

-- a thread that has ended read the whole history: w is what it told, and past what the last look told of its number
pub whole_reads : (p : Parts) (plan : Workload) (first : Board) (log : List Mark) (threads : ℕ) (s : Start) (r : ThreadReport) (e : Ended) (w : Worked p plan first e r) (past : Past log threads e) → w.start ≡ s → Reads e.number first (events_from p (begins p s)) w.at log r.records r.disables
whole_reads p plan first log threads s r e w past same =
    let rest : List Mark = past.begins.more in let b : log ≡ e.seen ++ rest = past.begins.is in
    let bare : offs e.number rest ≡ [] = cancel_front (offs e.number e.seen) (offs e.number rest) (sym (offs-append e.number e.seen rest) ∙ (ap (offs e.number) (sym b) ∙ (past.marks ∙ sym w.own))) in
    let still : Still (length e.seen) e.number (length w.at) (e.seen ++ rest) = subst (λ (z : ℕ × List Mark). Still (length e.seen) e.number z.0 z.1) (λ i. ((w.last ∙ w.steps) i, b i)) past.still in
    subst (λ (z : Start × List Mark). Reads e.number first (events_from p (begins p z.0)) w.at z.1 r.records r.disables) (λ i. (same i, sym b i))
    (reads_on e.number first (events_from p (begins p w.start)) w.at e.seen rest r.records r.disables w.reads bare still)

module _ (p : Parts) (plan : Workload) (c : Shown) (v : View) (slots : List (Option ThreadReport)) (report : Report) (proper : ProperPlan p plan) (home : Gathered p plan c v slots) (whole : Whole v v.seen) (full : length v.ended ≡ v.threads)
    (journal : report.journal.lines ≡ c.journal) (all : map Some report.threads ≡ slots) where
  stands : StandsFor (sites_of p) report.journal.lines v.first v.seen
  stands = subst (λ (z : List JournalLine). StandsFor (sites_of p) z v.first v.seen) (sym journal) home.governs.stands

  -- of each thread of the plan
  of_thread : (P : ℕ → Start → ThreadReport → Type 0) → ((s : Start) (r : ThreadReport) (e : Ended) (w : Worked p plan v.first e r) → Past v.seen v.threads e → w.start ≡ s → slice_get plan.threads e.number ≡ Some s → P e.number s r)
      → (t : ℕ) (s : Start) (r : ThreadReport) → slice_get plan.threads t ≡ Some s → slice_get report.threads t ≡ Some r → P t s r
  of_thread P f t s r a b =
      let low = within plan.threads t s a in let n = whole.each full t (omega (arith, home.threads)) in
      let e : Ended = n.1 in let num : e.number ≡ t = n.3 in
      let found : slice_get plan.threads e.number ≡ Some s = ap (slice_get plan.threads) num ∙ a in
      let there : slice_get slots e.number ≡ Some (Some r) = ap (λ z. slice_get z e.number) (sym all) ∙ some_there r report.threads e.number (ap (slice_get report.threads) num ∙ b) in
      let w = home.placed n.0 e r n.2 there in
      subst (λ (z : ℕ). P z s r) num (f s r e w (whole.past n.0 e n.2) (some_same w.start s (sym w.found ∙ found)) found)

  pub legal : asked report.journal.lines ≡ in_order plan → ((k : ℕ) (line : JournalLine) (counts : List ℕ) → k < length plan.before → slice_get report.journal.lines k ≡ Some line → line.stops ≡ Some counts → (t : ℕ) → Rattle.std.proofs.Common.get_or counts t 0 ≡ 0) → LegalBy p plan report (entries 0 v.seen)
  legal is early = record {
    all = some_long report.threads slots all ∙ home.wide;
    lawful = subst (Rattle.mon_history.specs.Journal.IsLawful (length plan.threads)) (sym journal) (subst (λ n. Rattle.mon_history.specs.Journal.IsLawful n c.journal) (sym home.governs.threads ∙ home.threads) home.governs.lawful);
    follows = follows plan report.journal.lines early is;
    runs = of_thread (λ t s r. RunsPlainly p plan.steps s r) (λ s r e w past same found. subst (λ (z : Start). RunsPlainly p plan.steps z r) same w.runs);
    changes = changes_are 0 v.seen (stopping report.journal.lines) stands.boards;
    reads = of_thread (λ t s r. ReadsLegally p report (entries 0 v.seen) t s r) (λ s r e w past same found. record {
      at = w.at;
      steps = sym w.steps;
      reading = read_legally (sites_of p) report.journal.lines v.first v.seen e.number (events_from p (begins p s)) w.at r.records r.disables stands (λ i _. proper e.number s found i) (whole_reads p plan v.first v.seen v.threads s r e w past same);
    });
    others = λ t h. own_entries t 0 v.seen ∙ ap (entries 0) (whole.others full t (omega (arith, home.threads)));
  }

pub gathered_is_legal : GatheredIsLegal
gathered_is_legal p plan c v early slots report proper home whole full first zeros grown journal all =
    let is : report.journal.lines ≡ early ++ grown.more = journal ∙ grown.is in
    let same : length early ≡ length plan.before = sym (asked_long early) ∙ (ap length first ∙ first_long plan.before) in
    let order : asked report.journal.lines ≡ first_calls plan.before ++ rounds plan.scripts (longest plan.scripts) = ap asked is ∙ (asked_append early grown.more ∙ (λ i. first i ++ grown.asked_are i)) in (
      legal p plan c v slots report proper home whole full journal all order (λ k line counts low at stops t. zeros k line counts (sym (front_at early grown.more k (omega arith)) ∙ (ap (λ z. slice_get z k) (sym is) ∙ at)) stops t),
      order,
    )
