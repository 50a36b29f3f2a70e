-- A thread's reading goes on by each part of a round.
use Rattle.std.proofs.Common.{◌≡◌, ℕ, ◌+◌, false, List, [], ◌∷◌, ◌++◌, length, take, get_or, sym, refl, ap, ◌∙◌, subst, length-append}
use Rattle.std.proofs.lemmas.List.{take-append-le}
use Rattle.mon_code.specs.Programs.{Parts}
use Rattle.mon_words.specs.History.{after, offs, Begins, Still, UpTo}
use Rattle.mon_words.specs.Told.{Told, Owns}
use Rattle.mon_words.specs.declared.history.Board.{Board}
use Rattle.mon_words.specs.declared.history.Mark.{Mark}
use Rattle.mon_words.proofs.Histories.{still-zero}
use Rattle.mon_recorders.specs.declared.happening.Happening.{Happening}
use Rattle.mon_recorders.specs.declared.record.Record.{Record}
use Rattle.mon_recorders.specs.declared.record.Disabled.{Disabled}
use Rattle.mon_recorders.specs.Readings.{Between, Span}
use Rattle.mon_recorders.specs.Boards.{reader}
use Rattle.mon_recorders.proofs.Spans.{in_turn_none, in_turn_same, turn_join, get_front, get_back, between_get}
use Rattle.mon_machine.specs.State.{State}
use Rattle.mon_machine.specs.Step.{step}
use Rattle.mon_machine.specs.Run.{after_steps, printed_by, Goes}
use Rattle.mon_machine.specs.Advances.{Progress, Stays, Ran, nothing_done, events_from, loads_of, loads_by, board_at}
use Rattle.mon_machine.proofs.Runs.{after_steps_none, after_steps_sum, goes_none, goes_sum}
use Rattle.mon_machine.proofs.Printed.{printed_none, runs_add_up}
use Rattle.mon_history.specs.Readings.{Reads}
use Rattle.mon_forms.specs.declared.plan.Start.{Start}
use Rattle.mon_run.specs.Reports.{begins}
use Rattle.mon_run.specs.Rounds.{Reading}
use Rattle.mon_run.proofs.Reading.{offs-append, reads_none, reads_on, reads_more}

-- the loads of steps that read in a front of a history are those that they make in the whole
pub loads_front : (p : Parts) (s : State) (first : Board) (seen later more : List Mark) (at : List ℕ) → later ≡ seen ++ more → Between 0 at (length seen) → loads_by p s first later at (length at) ≡ loads_by p s first seen at (length at)
loads_front p s first seen later more at e between = in_turn_same _ _ (length at)
    (λ k h. ap (λ (w : List Mark). loads_of p (after_steps p s k) (after first w) (get_or at k 0)) (ap (take (get_or at k 0)) e ∙ take-append-le (get_or at k 0) seen more (between_get 0 at (length seen) k between h)))

-- and of more steps behind them
loads_join : (p : Parts) (s : State) (first : Board) (seen later more : List Mark) (at bt : List ℕ) → later ≡ seen ++ more → Between 0 at (length seen)
    → loads_by p s first later (at ++ bt) (length (at ++ bt)) ≡ loads_by p s first seen at (length at) ++ loads_by p (after_steps p s (length at)) first later bt (length bt)
loads_join p s first seen later more at bt e between =
    turn_join _ _ _ (length at) (length bt) (length (at ++ bt)) (length-append at bt)
    (λ k h. ap (λ j. loads_of p (after_steps p s k) (board_at first later j) j) (get_front at bt k h)
    ∙ ap (λ (w : List Mark). loads_of p (after_steps p s k) (after first w) (get_or at k 0)) (ap (take (get_or at k 0)) e ∙ take-append-le (get_or at k 0) seen more (between_get 0 at (length seen) k between h)))
    (λ k h. ap (λ j. loads_of p (after_steps p s (length at + k)) (board_at first later j) j) (get_back at bt k)
    ∙ ap (λ (x : State). loads_of p x (board_at first later (get_or bt k 0)) (get_or bt k 0)) (after_steps_sum p s (length at) k))

-- the thread has begun
pub begun_reading : (p : Parts) (s : Start) (a : Told) → Owns a → offs a.number a.seen ≡ [] → UpTo a.number 0 a.seen → a.tally.loads ≡ [] → Reading p s [] a (nothing_done (begins p s))
begun_reading p s a owns bare up none = record {
  owns = owns;
  steps = refl;
  goes = goes_none p (begins p s);
  state = sym (after_steps_none p (begins p s));
  printed = sym (printed_none p (begins p s));
  reads = reads_on a.number a.first (events_from p (begins p s)) [] [] a.seen [] [] (reads_none a.number a.first (events_from p (begins p s))) bare (still-zero 0 a.number a.seen up);
  loads = none ∙ sym (in_turn_none _);
}

-- it reads a longer history, where it has no further mark, and each further board stopped it where it is
module _ (p : Parts) (s : Start) (at : List ℕ) (a b : Told) (q : Progress) (r : Reading p s at a q) (count : a.count ≡ q.steps)
    (grown : Begins a.seen b.seen) (own : offs a.number b.seen ≡ a.own) (still : Still (length a.seen) a.number a.count b.seen)
    (number : b.number ≡ a.number) (first : b.first ≡ a.first) (owns : b.own ≡ a.own) (loads : b.tally.loads ≡ a.tally.loads) where
  abbrev rest : List Mark
  rest = grown.more

  bare : offs a.number rest ≡ []
  bare = cancel_front (offs a.number a.seen) (offs a.number rest) (sym (offs-append a.number a.seen rest) ∙ (ap (offs a.number) (sym grown.is) ∙ (own ∙ sym r.owns)))
    where
      cancel_front : (xs ys : List Mark) → xs ++ ys ≡ xs → ys ≡ []
      cancel_front [] ys e = e
      cancel_front (x ∷ xs) ys e = let t : xs ++ ys ≡ xs = cc in cancel_front xs ys t

  here : Reads a.number a.first (events_from p (begins p s)) at (a.seen ++ rest) q.records q.disables
  here = reads_on a.number a.first (events_from p (begins p s)) at a.seen rest q.records q.disables r.reads bare
      (subst (λ (z : ℕ × List Mark). Still (length a.seen) a.number z.0 z.1) (λ i. ((count ∙ r.steps) i, grown.is i)) still)

  pub enters : Reading p s at b q
  enters = record {
    owns = ap (λ n. offs n b.seen) number ∙ (own ∙ sym owns);
    steps = r.steps;
    goes = r.goes;
    state = r.state;
    printed = r.printed;
    reads = subst (λ (z : (ℕ × Board) × List Mark). Reads z.0.0 z.0.1 (events_from p (begins p s)) at z.1 q.records q.disables) (λ i. ((sym number i, sym first i), sym grown.is i)) here;
    loads = loads ∙ (r.loads ∙ (sym (loads_front p (begins p s) a.first a.seen b.seen rest at grown.is r.reads.span.between) ∙ ap (λ (z : Board). loads_by p (begins p s) z b.seen at (length at)) (sym first)));
  }

-- it advances
module _ (p : Parts) (s : Start) (at bt : List ℕ) (a b : Told) (q u : Progress) (r : Reading p s at a q) (stays : Stays a b) (ran : Ran p bt a b q u) where
  long : length (at ++ bt) ≡ length at + length bt
  long = length-append at bt

  there : (k : ℕ) → after_steps p (begins p s) (length at + k) ≡ after_steps p q.state k
  there k = after_steps_sum p (begins p s) (length at) k ∙ ap (λ (x : State). after_steps p x k) (sym r.state)

  same : events_from p q.state ≡ (λ k. events_from p (begins p s) (length at + k))
  same = λ i k. (step p (sym (there k) i)).events

  span : Span (reader a.number a.first) (λ k. events_from p (begins p s) (length at + k)) (length at) bt a.seen b.seen ran.records ran.disables
  span = subst (λ (y : (ℕ → List Happening) × ℕ). Span (reader a.number a.first) y.0 y.1 bt a.seen b.seen ran.records ran.disables) (λ i. (same i, r.steps i)) ran.span

  reads : Reads a.number a.first (events_from p (begins p s)) (at ++ bt) b.seen (q.records ++ ran.records) (q.disables ++ ran.disables)
  reads = reads_more a.number a.first (events_from p (begins p s)) at bt a.seen b.seen q.records ran.records q.disables ran.disables r.reads span stays.quiet

  all_loads : b.tally.loads ≡ loads_by p (begins p s) a.first b.seen (at ++ bt) (length (at ++ bt))
  all_loads = ran.loads
      ∙ ((λ i. r.loads i ++ loads_by p (r.state i) a.first b.seen bt (length bt))
      ∙ sym (loads_join p (begins p s) a.first a.seen b.seen ran.span.more at bt ran.span.grown r.reads.span.between))

  pub advances : Reading p s (at ++ bt) b u
  advances = record {
    owns = stays.owns r.owns;
    steps = ran.steps ∙ (ap (λ k. k + length bt) r.steps ∙ sym long);
    goes = subst (λ (k : ℕ). Goes p (begins p s) k) (sym long) (goes_sum p (begins p s) (length at) (length bt) r.goes (subst (λ (x : State). Goes p x (length bt)) r.state ran.goes));
    state = ran.state ∙ (sym (there (length bt)) ∙ ap (λ (k : ℕ). after_steps p (begins p s) k) (sym long));
    printed = ran.printed ∙ ((λ i. r.printed i ++ printed_by p (r.state i) (length bt)) ∙ (sym (runs_add_up p (begins p s) (length at) (length bt)).printed ∙ ap (λ (k : ℕ). printed_by p (begins p s) k) (sym long)));
    reads = subst (λ (z : (ℕ × Board) × (List Record × List Disabled)). Reads z.0.0 z.0.1 (events_from p (begins p s)) (at ++ bt) b.seen z.1.0 z.1.1)
        (λ i. ((sym ran.number i, sym ran.first i), (sym ran.records_are i, sym ran.disables_are i))) reads;
    loads = all_loads ∙ ap (λ (z : Board). loads_by p (begins p s) z b.seen (at ++ bt) (length (at ++ bt))) (sym ran.first);
  }

-- it leaves
pub leaves : (p : Parts) (s : Start) (at : List ℕ) (a b : Told) (q : Progress) (steps : ℕ) → Reading p s at a q → b ≡ record a { attached = false; count = steps } → Reading p s at b q
leaves p s at a b q steps r is = subst (λ (z : Told). Reading p s at z q) (sym is) record { owns = r.owns; steps = r.steps; goes = r.goes; state = r.state; printed = r.printed; reads = r.reads; loads = r.loads }
