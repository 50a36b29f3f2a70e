-- Steps of a thread that is alone are turns of the serial run.
use Rattle.std.proofs.Common.{◌≡◌, ℕ, zero, suc, ◌+◌, ◌<◌, ◌≤◌, true, List, [], ◌∷◌, ◌++◌, take, length, get_or, set, Some, slice_get, sym, refl, ap, ◌∙◌, arith, append_assoc}
use mathlib.Core.List.{append-nil}
use Rattle.mon_events.specs.Sets.{slot_of, tool_of}
use Rattle.mon_code.specs.Programs.{Parts}
use Rattle.mon_code.specs.Sites.{sites_of}
use Rattle.mon_words.specs.History.{puts}
use Rattle.mon_words.specs.declared.history.Board.{Board}
use Rattle.mon_words.specs.declared.history.Mark.{Mark}
use Rattle.mon_words.specs.declared.history.Mark.TheVariants.{Off, Put}
use Rattle.mon_board.specs.PlainViews.{other_marks}
use Rattle.mon_recorders.specs.declared.happening.Happening.{Happening}
use Rattle.mon_recorders.specs.declared.record.Record.{Record}
use Rattle.mon_recorders.specs.declared.record.Disabled.{Disabled}
use Rattle.mon_recorders.specs.Happenings.{Filter, answers, delivered, records_in, disables_in}
use Rattle.mon_recorders.specs.Proper.{AreProper}
use Rattle.mon_recorders.specs.Readings.{in_turn, Span, read_at}
use Rattle.mon_recorders.specs.Boards.{reader, mark_of}
use Rattle.mon_recorders.proofs.Spans.{between_get}
use Rattle.mon_machine.specs.State.{State, goes}
use Rattle.mon_machine.specs.Step.{step}
use Rattle.mon_machine.specs.Run.{after_steps, printed_by, Goes}
use Rattle.mon_machine.specs.Advances.{Progress, events_from}
use Rattle.mon_machine.proofs.Runs.{after_steps_none, one_more}
use Rattle.mon_machine.proofs.Printed.{printed_none, printed_last}
use Rattle.mon_history.specs.Heard.{heard_by}
use Rattle.mon_history.specs.Histories.{config_after, entries}
use Rattle.mon_history.specs.Readings.{entry_of}
use Rattle.mon_history.specs.Stands.{StandsFor}
use Rattle.mon_history.specs.Laws.{LetsThrough}
use Rattle.mon_history.specs.declared.journal.Entry.{Entry}
use Rattle.mon_history.specs.declared.journal.JournalLine.{JournalLine}
use Rattle.mon_history.proofs.Legal.{made_none, made_entries}
use Rattle.mon_history.proofs.Listening.{delivered_same, lets_through}
use Rattle.mon_run.specs.Serial.{World, stepped, steps_one, turn}
use Rattle.mon_run.proofs.Spans.{made, read_is}
use Rattle.mon_run.proofs.Turning.{turn_none, turn_more, steps_one_at, may, set_at, set_again, set_same}

goes_at : (p : Parts) (s : State) (m k : ℕ) → Goes p s m → k < m → goes (after_steps p s k).mode ≡ true
unfolding Goes after_steps
goes_at p s zero k g h = absurd (omega arith)
goes_at p s (suc m) zero g h = g.0
goes_at p s (suc m) (suc k) g h = goes_at p (step p s).after m k g.1 (omega arith)

in_turn_zero : {A : Type 0} (f : ℕ → List A) → in_turn f 0 ≡ []
unfolding in_turn
in_turn_zero f = refl

in_turn_next : {A : Type 0} (f : ℕ → List A) (n : ℕ) → in_turn f (suc n) ≡ in_turn f n ++ f n
unfolding in_turn
in_turn_next f n = refl

-- disables at the end of a word history, as entries
off_entries : (m : ℕ) (ds : List Mark) → puts ds ≡ [] → entries m ds ≡ entries 0 ds
off_entries m [] e = refl
off_entries m (Off u l k ∷ ms) e = ap (λ z. Entry.Disable u l (slot_of k) (tool_of k) ∷ z) (off_entries m ms e)
off_entries m (Put s c ∷ ms) e = absurd (cc)

last_entries : (m : ℕ) (xs ds : List Mark) → puts ds ≡ [] → entries m (xs ++ ds) ≡ entries m xs ++ entries 0 ds
last_entries m [] ds e = off_entries m ds e
last_entries m (Off u l k ∷ ms) ds e = ap (λ z. Entry.Disable u l (slot_of k) (tool_of k) ∷ z) (last_entries m ms ds e)
last_entries m (Put s c ∷ ms) ds e = ap (λ z. Entry.Change m s ∷ z) (last_entries (suc m) ms ds e)

-- the thread did the steps of a span alone on the board, whose history stands for the journal
module _ (p : Parts) (bound t : ℕ) (at : List ℕ) (first : Board) (before later : List Mark) (J : List JournalLine) (threads : List Progress) (calls : List ℕ) (q : Progress) (rs : List Record) (ds : List Disabled)
    (s : Span (reader t first) (events_from p q.state) q.steps at before later rs ds) (alone : other_marks t later ≡ other_marks t before)
    (goes-on : Goes p q.state (length at)) (within : q.steps + length at ≤ bound) (there-is : slice_get threads t ≡ Some q)
    (stands : StandsFor (sites_of p) J first later) (proper : (k : ℕ) → k < length at → AreProper (sites_of p) (events_from p q.state k)) where
  abbrev events : ℕ → List Happening
  events k = events_from p q.state k

  abbrev mine : ℕ → List Mark
  mine k = made t first (events_from p q.state) q.steps at before later rs ds s alone k

  abbrev lets : ℕ → Filter
  lets k = read_at (reader t first) later at k

  -- the thread after its first k steps
  abbrev pub then : ℕ → Progress
  then k = record {
    state = after_steps p q.state k;
    printed = q.printed ++ printed_by p q.state k;
    records = q.records ++ in_turn (λ j. records_in (lets j) (q.steps + j) (events j)) k;
    disables = q.disables ++ in_turn (λ j. disables_in (lets j) (q.steps + j) (events j)) k;
    steps = q.steps + k;
  }

  -- the run after its first k steps
  abbrev pub there : ℕ → World
  there k = record { journal = J; history = entries 0 (before ++ mine k); threads = set threads t (then k); made = calls }

  -- what step k hears
  abbrev hears : ℕ → Filter
  hears k = heard_by (config_after J (entries 0 (before ++ mine k))) (sites_of p)

  lets_is : (k : ℕ) → k < length at → LetsThrough (sites_of p) J first later (get_or at k 0)
  lets_is k h = lets_through (sites_of p) J first later (get_or at k 0) stands (between_get (length before) at (length later) k s.between h)

  hears_is : (k : ℕ) → k < length at → heard_by (config_after J (entries 0 (take (get_or at k 0) later))) (sites_of p) ≡ hears k
  hears_is k h = ap (λ z. heard_by (config_after J (entries 0 z)) (sites_of p)) (read_is t first (events_from p q.state) q.steps at before later rs ds s alone k h)

  records_is : (k : ℕ) → k < length at → records_in (lets k) (q.steps + k) (events k) ≡ records_in (hears k) (q.steps + k) (events k)
  records_is k h = (lets_is k h).records (q.steps + k) (events k) (proper k h) ∙ ap (λ f. records_in f (q.steps + k) (events k)) (hears_is k h)

  disables_is : (k : ℕ) → k < length at → disables_in (lets k) (q.steps + k) (events k) ≡ disables_in (hears k) (q.steps + k) (events k)
  disables_is k h = (lets_is k h).disables (q.steps + k) (events k) (proper k h) ∙ ap (λ f. disables_in f (q.steps + k) (events k)) (hears_is k h)

  then_more : (k : ℕ) → k < length at → stepped p (hears k) (then k) ≡ then (suc k)
  then_more k h =
      let e : q.steps + k + 1 ≡ q.steps + suc k = omega arith in let n : k + 1 ≡ suc k = omega arith in
      let a : (step p (after_steps p q.state k)).after ≡ after_steps p q.state (suc k) = sym (one_more p q.state k) ∙ ap (after_steps p q.state) n in
      let b = append_assoc q.printed (printed_by p q.state k) (step p (after_steps p q.state k)).printed ∙ ap (λ z. q.printed ++ z) (sym (printed_last p q.state k) ∙ ap (printed_by p q.state) n) in
      let rec : ℕ → List Record = λ j. records_in (lets j) (q.steps + j) (events j) in
      let dis : ℕ → List Disabled = λ j. disables_in (lets j) (q.steps + j) (events j) in
      let c = append_assoc q.records (in_turn rec k) (records_in (hears k) (q.steps + k) (events k)) ∙ ap (λ z. q.records ++ z) (ap (λ z. in_turn rec k ++ z) (sym (records_is k h)) ∙ sym (in_turn_next rec k)) in
      let d = append_assoc q.disables (in_turn dis k) (disables_in (hears k) (q.steps + k) (events k)) ∙ ap (λ z. q.disables ++ z) (ap (λ z. in_turn dis k ++ z) (sym (disables_is k h)) ∙ sym (in_turn_next dis k)) in
      λ i. record { state = a i; printed = b i; records = c i; disables = d i; steps = e i }

  history_more : (k : ℕ) → k < length at → entries 0 (before ++ mine k) ++ delivered (answers (hears k)) (entry_of t) (events k) ≡ entries 0 (before ++ mine (suc k))
  history_more k h =
      let last : List Mark = delivered (answers (lets k)) (mark_of t) (events k) in
      let marks : before ++ mine (suc k) ≡ (before ++ mine k) ++ last = ap (λ z. before ++ z) (in_turn_next (λ j. delivered (answers (lets j)) (mark_of t) (events j)) k) ∙ sym (append_assoc before (mine k) last) in
      let made-are : entries 0 last ≡ delivered (answers (hears k)) (entry_of t) (events k) =
      made_entries (answers (lets k)) t (events k)
      ∙ (delivered_same (answers (lets k)) (answers (heard_by (config_after J (entries 0 (take (get_or at k 0) later))) (sites_of p))) (entry_of t) (sites_of p) (events k) (proper k h) (λ e u x l. (lets_is k h).answers_are e x u l)
      ∙ ap (λ f. delivered (answers f) (entry_of t) (events k)) (hears_is k h)) in
      ap (λ z. entries 0 (before ++ mine k) ++ z) (sym made-are) ∙ (sym (last_entries 0 (before ++ mine k) last (made_none (answers (lets k)) t (events k))) ∙ ap (entries 0) (sym marks))

  there_more : (k : ℕ) → k < length at → steps_one p bound t (slice_get (there k).threads t) (there k) ≡ there (suc k)
  there_more k h =
      let go = may bound (then k) (goes_at p q.state (length at) k goes-on h) (omega arith) in
      ap (λ o. steps_one p bound t o (there k)) (set_at threads t q (then k) there-is)
      ∙ (steps_one_at p bound t (then k) (there k) go
      ∙ (λ i. record { journal = J; history = history_more k h i; threads = (ap (λ z. set (set threads t (then k)) t z) (then_more k h) ∙ set_again threads t (then k) (then (suc k))) i; made = calls }))

  then_none : then 0 ≡ q
  then_none =
      let e : q.steps + 0 ≡ q.steps = omega arith in
      let b = ap (λ z. q.printed ++ z) (printed_none p q.state) ∙ append-nil q.printed in
      let c = ap (λ z. q.records ++ z) (in_turn_zero (λ j. records_in (lets j) (q.steps + j) (events j))) ∙ append-nil q.records in
      let d = ap (λ z. q.disables ++ z) (in_turn_zero (λ j. disables_in (lets j) (q.steps + j) (events j))) ∙ append-nil q.disables in
      λ i. record { state = after_steps_none p q.state i; printed = b i; records = c i; disables = d i; steps = e i }

  there_none : there 0 ≡ record { journal = J; history = entries 0 before; threads = threads; made = calls }
  there_none =
      let a : before ++ mine 0 ≡ before = ap (λ z. before ++ z) (in_turn_zero (λ j. delivered (answers (lets j)) (mark_of t) (events j))) ∙ append-nil before in
      λ i. record { journal = J; history = entries 0 (a i); threads = (ap (λ z. set threads t z) then_none ∙ set_same threads t q there-is) i; made = calls }

  pub turns : (k : ℕ) → k ≤ length at → turn p bound t k (record { journal = J; history = entries 0 before; threads = threads; made = calls }) ≡ there k
  turns zero h = turn_none p bound t (record { journal = J; history = entries 0 before; threads = threads; made = calls }) ∙ sym there_none
  turns (suc k) h = let w : World = record { journal = J; history = entries 0 before; threads = threads; made = calls } in
      turn_more p bound t k w ∙ (ap (λ z. steps_one p bound t (slice_get z.threads t) z) (turns k (omega arith)) ∙ there_more k (omega arith))
