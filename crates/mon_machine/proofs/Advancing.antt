-- Advances, step by step.
use Rattle.std.proofs.Common.{◌≡◌, ℕ, zero, suc, ◌+◌, ◌<◌, ◌≤◌, Bool, true, false, List, [], ◌∷◌, ◌++◌, length, take, get_or, refl, sym, ap, subst, ◌∙◌, arith, append_assoc, append-nil, length-append, add-one}
use Rattle.std.specs.Prelude.{nat_lt, None, Result}
use Rattle.std.proofs.lemmas.List.{take-append-le}
use Rattle.std.proofs.lemmas.Bool.Decides.{nat_tests}
use Rattle.mon_code.specs.Programs.{Parts}
use Rattle.mon_words.specs.History.{after, offs, puts}
use Rattle.mon_words.specs.Tallies.{polled_once}
use Rattle.mon_words.specs.Told.{Told, Owns, Grows, Polls, Leaves, Enters, Continues}
use Rattle.mon_words.specs.declared.handle.WorldStopped.{WorldStopped}
use Rattle.mon_words.specs.declared.history.Board.{Board}
use Rattle.mon_words.specs.declared.history.Mark.{Mark}
use Rattle.mon_words.specs.declared.tally.Load.{Load}
use Rattle.mon_words.specs.declared.tally.Retirement.{Retirement}
use Rattle.mon_words.proofs.Histories.{begins_all, begins_trans}
use Rattle.mon_words.proofs.Continuing.{continues_stay}
use Rattle.mon_recorders.specs.declared.happening.Happening.{Happening}
use Rattle.mon_recorders.specs.declared.record.Record.{Record}
use Rattle.mon_recorders.specs.declared.record.Disabled.{Disabled}
use Rattle.mon_recorders.specs.Readings.{Between, Span, OneStep, entries_by}
use Rattle.mon_recorders.specs.Boards.{reader}
use Rattle.mon_recorders.proofs.Spans.{in_turn_none, turn_more, turn_join, get_front, get_last, get_back, between_get, span_none, span_more, span_append}
use Rattle.mon_machine.specs.State.{State, goes}
use Rattle.mon_machine.specs.Step.{step}
use Rattle.mon_machine.specs.Run.{after_steps, printed_by, Goes}
use Rattle.mon_machine.specs.Advances.{Progress, instruction_due, loads_of, board_at, events_from, loads_by, RanStep, Ran, Stays, Pauses, polls_once, polls_of, is_asked, Polled, PolledOnce, Advanced}
use Rattle.mon_machine.specs.AdvanceLaws.{StepsAddUp, StayingAddsUp, PausesAddUp, RunsJoin, RunsContinue}
use Rattle.mon_machine.proofs.Runs.{after_steps_none, after_steps_sum, one_more, goes_none, goes_one_more, goes_sum}
use Rattle.mon_machine.proofs.Printed.{printed_none, printed_last, runs_add_up}

-- ---- what is told within a stay

stays_rest : (a b : Told) (s o : List Mark) (p q : ℕ) (l : List Load) (r : List Retirement) (n : ℕ) → b ≡ record a { seen = s; own = o; tally = record a.tally { polls = p; polled = q; loads = l; retirements = r; disables = n } }
    → b ≡ record a { seen = b.seen; own = b.own; tally = record a.tally { polls = b.tally.polls; polled = b.tally.polled; loads = b.tally.loads; retirements = b.tally.retirements; disables = b.tally.disables } }
stays_rest a b s o p q l r n e = e
    ∙ (λ i. let t : Told = sym e i in record a { seen = t.seen; own = t.own; tally = record a.tally { polls = t.tally.polls; polled = t.tally.polled; loads = t.tally.loads; retirements = t.tally.retirements; disables = t.tally.disables } })

pub stays_refl : (a : Told) → Stays a a
stays_refl a = record { begins = begins_all a.seen; quiet = refl; owns = λ h. h; rest = refl }

pub stays_trans : (a b c : Told) → Stays a b → Stays b c → Stays a c
stays_trans a b c h k = record {
  begins = begins_trans a.seen b.seen c.seen h.begins k.begins;
  quiet = k.quiet ∙ h.quiet;
  owns = λ o. k.owns (h.owns o);
  rest = k.rest
      ∙ ap (λ (t : Told).
      let s : Told = record t { seen = c.seen; own = c.own; tally = record t.tally { polls = c.tally.polls; polled = c.tally.polled; loads = c.tally.loads; retirements = c.tally.retirements; disables = c.tally.disables } } in s) h.rest;
}

pub stays_grows : (a b : Told) (marks : List Mark) → Grows a b marks → Stays a b
stays_grows a b marks g = record {
  begins = g.begins;
  quiet = g.quiet;
  owns = g.owns;
  rest = stays_rest a b b.seen b.own a.tally.polls a.tally.polled b.tally.loads b.tally.retirements b.tally.disables g.rest;
}

pub stays_poll : (a b : Told) (answer : Bool) → Polls a answer b → Stays a b
stays_poll a b answer p =
    let seen : b.seen ≡ a.seen = ap (λ (t : Told). t.seen) p.rest in
    record {
      begins = record { more = []; is = seen ∙ sym (append-nil a.seen) };
      quiet = ap puts seen;
      owns = λ o. p.owns;
      rest = stays_rest a b a.seen a.own (polled_once a.tally answer).polls (polled_once a.tally answer).polled a.tally.loads a.tally.retirements a.tally.disables p.rest;
    }

pub staying : StayingAddsUp
staying = record { none = stays_refl; both = stays_trans; grows = stays_grows; poll = stays_poll }

-- ---- and between two

pauses_refl : (a : Told) → Pauses a a
pauses_refl a = record { number = refl; first = refl; begins = begins_all a.seen; own = refl; loads = refl; polls = refl; polled = refl }

pauses_trans : (a b c : Told) → Pauses a b → Pauses b c → Pauses a c
pauses_trans a b c h k = record {
  number = k.number ∙ h.number;
  first = k.first ∙ h.first;
  begins = begins_trans a.seen b.seen c.seen h.begins k.begins;
  own = ap (λ n. offs n c.seen) (sym h.number) ∙ (k.own ∙ (ap (λ n. offs n b.seen) h.number ∙ h.own));
  loads = k.loads ∙ h.loads;
  polls = k.polls ∙ h.polls;
  polled = k.polled ∙ h.polled;
}

pauses_leave : (a b : Told) (steps : ℕ) → Leaves a steps b → Pauses a b
pauses_leave a b steps l = record {
  number = ap (λ (t : Told). t.number) l.rest;
  first = ap (λ (t : Told). t.first) l.rest;
  begins = record { more = []; is = ap (λ (t : Told). t.seen) l.rest ∙ sym (append-nil a.seen) };
  own = ap (λ (t : Told). offs a.number t.seen) l.rest;
  loads = ap (λ (t : Told). t.tally.loads) l.rest;
  polls = ap (λ (t : Told). t.tally.polls) l.rest;
  polled = ap (λ (t : Told). t.tally.polled) l.rest;
}

pauses_enter : (a b : Told) (answer : Result (Unit {0}) WorldStopped) → Owns a → Enters a answer b → Pauses a b
pauses_enter a b answer own e = record {
  number = ap (λ (t : Told). t.number) e.rest;
  first = ap (λ (t : Told). t.first) e.rest;
  begins = e.begins;
  own = e.own ∙ sym own;
  loads = ap (λ (t : Told). t.tally.loads) e.rest;
  polls = ap (λ (t : Told). t.tally.polls) e.rest;
  polled = ap (λ (t : Told). t.tally.polled) e.rest;
}

pub pausing : PausesAddUp
pausing = record { none = pauses_refl; both = pauses_trans; leave = pauses_leave; enter = pauses_enter }

-- ---- a step more

pub ran_none : (p : Parts) (a : Told) (x : Progress) → Ran p [] a a x x
ran_none p a x = record {
  number = refl;
  first = refl;
  goes = goes_none p x.state;
  state = sym (after_steps_none p x.state);
  printed = sym (ap (λ z. x.printed ++ z) (printed_none p x.state) ∙ append-nil x.printed);
  steps = omega arith;
  records = [];
  disables = [];
  records_are = sym (append-nil x.records);
  disables_are = sym (append-nil x.disables);
  span = span_none (reader a.number a.first) (events_from p x.state) x.steps a.seen;
  loads = sym (ap (λ z. a.tally.loads ++ z) (in_turn_none _) ∙ append-nil a.tally.loads);
}

-- a history that went on shows the same up to a position
front_same : (seen later more : List Mark) (at : ℕ) → later ≡ seen ++ more → at ≤ length seen → take at later ≡ take at seen
front_same seen later more at e h = ap (take at) e ∙ take-append-le at seen more h

loads_more : (p : Parts) (s : State) (first : Board) (seen later more : List Mark) (at : List ℕ) (next low : ℕ) → later ≡ seen ++ more → Between low at (length seen)
    → loads_by p s first later (at ++ next ∷ []) (length (at ++ next ∷ [])) ≡ loads_by p s first seen at (length at) ++ loads_of p (after_steps p s (length at)) (board_at first later next) next
loads_more p s first seen later more at next low e between =
    turn_more _ _ (length at) (length (at ++ next ∷ [])) (loads_of p (after_steps p s (length at)) (board_at first later next) next) (length-append at (next ∷ []))
    (λ k h. ap (λ j. loads_of p (after_steps p s k) (board_at first later j) j) (get_front at (next ∷ []) k h)
    ∙ ap (λ (w : List Mark). loads_of p (after_steps p s k) (after first w) (get_or at k 0)) (front_same seen later more (get_or at k 0) e (between_get low at (length seen) k between h)))
    (ap (λ j. loads_of p (after_steps p s (length at)) (board_at first later j) j) (get_last at next))

pub ran_more : (p : Parts) (at : List ℕ) (next : ℕ) (a b c : Told) (old mid new : Progress) → Ran p at a b old mid → Stays b c → RanStep p next b c mid new → Ran p (at ++ next ∷ []) a c old new
ran_more p at next a b c old mid new r stays s =
    let n : ℕ = length at in
    let long : length (at ++ next ∷ []) ≡ n + 1 = length-append at (next ∷ []) in
    let there : State = after_steps p old.state n in
    let one : OneStep (reader a.number a.first) (step p there).events (old.steps + n) next b.seen c.seen s.records s.disables
    = subst (λ (f : Board). OneStep (reader a.number f) (step p there).events (old.steps + n) next b.seen c.seen s.records s.disables) r.first
    (subst (λ (t : ℕ). OneStep (reader t b.first) (step p there).events (old.steps + n) next b.seen c.seen s.records s.disables) r.number
    (subst (λ (i : ℕ). OneStep (reader b.number b.first) (step p there).events i next b.seen c.seen s.records s.disables) r.steps
    (subst (λ (x : State). OneStep (reader b.number b.first) (step p x).events mid.steps next b.seen c.seen s.records s.disables) r.state s.reads))) in
    let loaded : c.tally.loads ≡ b.tally.loads ++ loads_of p there (board_at a.first c.seen next) next
    = s.loads ∙ (λ i. b.tally.loads ++ loads_of p (r.state i) (board_at (r.first i) c.seen next) next) in
    record {
      number = ap (λ (t : Told). t.number) stays.rest ∙ r.number;
      first = ap (λ (t : Told). t.first) stays.rest ∙ r.first;
      goes = subst (λ (k : ℕ). Goes p old.state k) (sym long) (goes_one_more p old.state n r.goes (subst (λ (x : State). goes x.mode ≡ true) r.state s.goes));
      state = s.state ∙ (ap (λ (x : State). (step p x).after) r.state ∙ (sym (one_more p old.state n) ∙ ap (λ (k : ℕ). after_steps p old.state k) (sym long)));
      printed = s.printed
          ∙ ((λ i. r.printed i ++ (step p (r.state i)).printed)
          ∙ (append_assoc old.printed (printed_by p old.state n) (step p there).printed
          ∙ (ap (λ (z : List (List ℕ)). old.printed ++ z) (sym (printed_last p old.state n)) ∙ ap (λ (k : ℕ). old.printed ++ printed_by p old.state k) (sym long))));
      steps = omega (arith, s.steps, r.steps, long);
      records = r.records ++ s.records;
      disables = r.disables ++ s.disables;
      records_are = s.records_are ∙ (ap (λ (z : List Record). z ++ s.records) r.records_are ∙ append_assoc old.records r.records s.records);
      disables_are = s.disables_are ∙ (ap (λ (z : List Disabled). z ++ s.disables) r.disables_are ∙ append_assoc old.disables r.disables s.disables);
      span = span_more (reader a.number a.first) (events_from p old.state) old.steps at a.seen b.seen c.seen r.records r.disables next s.records s.disables r.span one;
      loads = loaded
          ∙ (ap (λ (z : List Load). z ++ loads_of p there (board_at a.first c.seen next) next) r.loads
          ∙ (append_assoc a.tally.loads (loads_by p old.state a.first b.seen at n) (loads_of p there (board_at a.first c.seen next) next)
          ∙ ap (λ (z : List Load). a.tally.loads ++ z) (sym (loads_more p old.state a.first b.seen c.seen s.reads.more at next (length a.seen) s.reads.grown r.span.between))));
    }

-- ---- polls

pub polled_none : (p : Parts) (s : State) (a : Told) → Polled p s 0 false a a
unfolding polls_of
polled_none p s a = record { polls = omega arith; polled = omega arith }

polls_more : (p : Parts) (s : State) (n : ℕ) → polls_of p s (n + 1) ≡ polls_of p s n + polls_once (instruction_due p (after_steps p s n))
unfolding polls_of
polls_more p s n = rw add-one refl

pub polled_more : (p : Parts) (s : State) (n : ℕ) (a b c : Told) → Polled p s n false a b → PolledOnce p (after_steps p s n) b c → Polled p s (n + 1) false a c
polled_more p s n a b c h k = record { polls = omega (arith, h.polls, k.polls, polls_more p s n); polled = omega (arith, h.polled, k.polled) }

polls_none : (p : Parts) (s : State) → polls_of p s 0 ≡ 0
unfolding polls_of
polls_none p s = refl

polls_last : (p : Parts) (s : State) (n : ℕ) → polls_of p s (suc n) ≡ polls_of p s n + polls_once (instruction_due p (after_steps p s n))
unfolding polls_of
polls_last p s n = refl

polls_sum : (p : Parts) (s : State) (m n : ℕ) → polls_of p s (m + n) ≡ polls_of p s m + polls_of p (after_steps p s m) n
polls_sum p s m zero =
    let e : m + zero ≡ m = omega arith in
    ap (λ (k : ℕ). polls_of p s k) e ∙ omega (arith, polls_none p (after_steps p s m))
polls_sum p s m (suc n) =
    let e : m + suc n ≡ suc (m + n) = omega arith in
    let there : after_steps p s (m + n) ≡ after_steps p (after_steps p s m) n = after_steps_sum p s m n in
    let last : polls_once (instruction_due p (after_steps p s (m + n))) ≡ polls_once (instruction_due p (after_steps p (after_steps p s m) n)) = ap (λ (x : State). polls_once (instruction_due p x)) there in
    ap (λ (k : ℕ). polls_of p s k) e ∙ omega (arith, polls_last p s (m + n), polls_sum p s m n, last, polls_last p (after_steps p s m) n)

pub steps_add_up : StepsAddUp
steps_add_up = record { none = ran_none; more = ran_more; no_polls = polled_none; more_polls = polled_more }

-- ---- two runs

loads_join : (p : Parts) (s : State) (first : Board) (seen later more : List Mark) (at bt : List ℕ) (low : ℕ) → later ≡ seen ++ more → Between low at (length seen)
    → loads_by p s first later (at ++ bt) (length (at ++ bt)) ≡ loads_by p s first seen at (length at) ++ loads_by p (after_steps p s (length at)) first later bt (length bt)
loads_join p s first seen later more at bt low e between =
    turn_join _ _ _ (length at) (length bt) (length (at ++ bt)) (length-append at bt)
    (λ k h. ap (λ j. loads_of p (after_steps p s k) (board_at first later j) j) (get_front at bt k h)
    ∙ ap (λ (w : List Mark). loads_of p (after_steps p s k) (after first w) (get_or at k 0)) (front_same seen later more (get_or at k 0) e (between_get low at (length seen) k between h)))
    (λ k h. ap (λ j. loads_of p (after_steps p s (length at + k)) (board_at first later j) j) (get_back at bt k)
    ∙ ap (λ (x : State). loads_of p x (board_at first later (get_or bt k 0)) (get_or bt k 0)) (after_steps_sum p s (length at) k))

pub ran_join : (p : Parts) (at bt : List ℕ) (a b c d : Told) (old mid new : Progress) → Ran p at a b old mid → Pauses b c → Ran p bt c d mid new → Ran p (at ++ bt) a d old new
ran_join p at bt a b c d old mid new r pause s =
    let n : ℕ = length at in
    let m : ℕ = length bt in
    let long : length (at ++ bt) ≡ n + m = length-append at bt in
    let there : State = after_steps p old.state n in
    let number : c.number ≡ a.number = pause.number ∙ r.number in
    let first : c.first ≡ a.first = pause.first ∙ r.first in
    let R = reader a.number a.first in
    let events : events_from p there ≡ (λ k. events_from p old.state (n + k)) = λ i k. (step p (sym (after_steps_sum p old.state n k) i)).events in
    let span : Span R (λ k. events_from p old.state (n + k)) (old.steps + n) bt c.seen d.seen s.records s.disables
    = subst (λ (f : ℕ → List Happening). Span R f (old.steps + n) bt c.seen d.seen s.records s.disables) events
    (subst (λ (f : Board). Span (reader a.number f) (events_from p there) (old.steps + n) bt c.seen d.seen s.records s.disables) first
    (subst (λ (t : ℕ). Span (reader t c.first) (events_from p there) (old.steps + n) bt c.seen d.seen s.records s.disables) number
    (subst (λ (i : ℕ). Span (reader c.number c.first) (events_from p there) i bt c.seen d.seen s.records s.disables) r.steps
    (subst (λ (x : State). Span (reader c.number c.first) (events_from p x) mid.steps bt c.seen d.seen s.records s.disables) r.state s.span)))) in
    let own : offs a.number c.seen ≡ offs a.number b.seen = subst (λ (t : ℕ). offs t c.seen ≡ offs t b.seen) r.number pause.own in
    let grown : d.seen ≡ b.seen ++ (pause.begins.more ++ s.span.more) = s.span.grown ∙ (ap (λ (z : List Mark). z ++ s.span.more) pause.begins.is ∙ append_assoc b.seen pause.begins.more s.span.more) in
    let loaded : d.tally.loads ≡ b.tally.loads ++ loads_by p there a.first d.seen bt m
    = s.loads ∙ (λ i. pause.loads i ++ loads_by p (r.state i) (first i) d.seen bt m) in
    record {
      number = s.number ∙ number;
      first = s.first ∙ first;
      goes = subst (λ (k : ℕ). Goes p old.state k) (sym long) (goes_sum p old.state n m r.goes (subst (λ (x : State). Goes p x m) r.state s.goes));
      state = s.state ∙ (ap (λ (x : State). after_steps p x m) r.state ∙ (sym (after_steps_sum p old.state n m) ∙ ap (λ (k : ℕ). after_steps p old.state k) (sym long)));
      printed = s.printed
          ∙ ((λ i. r.printed i ++ printed_by p (r.state i) m)
          ∙ (append_assoc old.printed (printed_by p old.state n) (printed_by p there m)
          ∙ (ap (λ (z : List (List ℕ)). old.printed ++ z) (sym (runs_add_up p old.state n m).printed) ∙ ap (λ (k : ℕ). old.printed ++ printed_by p old.state k) (sym long))));
      steps = omega (arith, s.steps, r.steps, long);
      records = r.records ++ s.records;
      disables = r.disables ++ s.disables;
      records_are = s.records_are ∙ (ap (λ (z : List Record). z ++ s.records) r.records_are ∙ append_assoc old.records r.records s.records);
      disables_are = s.disables_are ∙ (ap (λ (z : List Disabled). z ++ s.disables) r.disables_are ∙ append_assoc old.disables r.disables s.disables);
      span = span_append R (events_from p old.state) old.steps at bt a.seen b.seen c.seen d.seen r.records s.records r.disables s.disables r.span pause.begins.more pause.begins.is own span;
      loads = loaded
          ∙ (ap (λ (z : List Load). z ++ loads_by p there a.first d.seen bt m) r.loads
          ∙ (append_assoc a.tally.loads (loads_by p old.state a.first b.seen at n) (loads_by p there a.first d.seen bt m)
          ∙ ap (λ (z : List Load). a.tally.loads ++ z) (sym (loads_join p old.state a.first b.seen d.seen (pause.begins.more ++ s.span.more) at bt (length a.seen) grown r.span.between))));
    }

pub polled_join : (p : Parts) (s : State) (m n : ℕ) (asked : Bool) (a b c d : Told) → Polled p s m false a b → Pauses b c → Polled p (after_steps p s m) n asked c d → Polled p s (m + n) asked a d
polled_join p s m n asked a b c d h pause k = record {
  polls = omega (arith, h.polls, pause.polls, k.polls, polls_sum p s m n);
  polled = omega (arith, h.polled, pause.polled, k.polled);
}

pub runs_join : RunsJoin
runs_join = record { ran = ran_join; polls = polled_join }

-- ---- what an advance does to a handle

pub runs_continue : RunsContinue
runs_continue p at a b old new own r stays =
    let marks : List Mark = entries_by (reader a.number a.first) b.seen at (events_from p old.state) (length at) in
    let from : Told = record a { tally = record a.tally { polls = b.tally.polls; polled = b.tally.polled } } in
    let added : b.own ≡ a.own ++ marks
    = sym (stays.owns own) ∙ (ap (λ (t : ℕ). offs t b.seen) r.number ∙ (r.span.own_all ∙ ap (λ (z : List Mark). z ++ marks) own)) in
    let grows : Grows from b marks = record { begins = stays.begins; quiet = stays.quiet; owns = stays.owns; own = added; rest = stays.rest } in
    let k : Continues from b marks = continues_stay from b marks grows in
    record { number = k.number; first = k.first; begins = k.begins; owns = k.owns; own = k.own; more = k.more; between = k.between; entries = k.entries; quiet = k.quiet }

-- ---- a whole advance

-- a poll reads nothing
pub ran_polled : (p : Parts) (at : List ℕ) (a b c : Told) (old new : Progress) (answer : Bool) → Ran p at a b old new → Polls b answer c → Ran p at a c old new
ran_polled p at a b c old new answer r poll = subst (λ (t : Told). Ran p at a t old new) (sym poll.rest) (record {
  number = r.number;
  first = r.first;
  goes = r.goes;
  state = r.state;
  printed = r.printed;
  steps = r.steps;
  records = r.records;
  disables = r.disables;
  records_are = r.records_are;
  disables_are = r.disables_are;
  span = r.span;
  loads = r.loads;
})

-- so that a step may be told from before its poll
pub step_polled : (p : Parts) (at : ℕ) (a b c : Told) (old new : Progress) (answer : Bool) → Polls a answer b → RanStep p at b c old new → RanStep p at a c old new
step_polled p at a b c old new answer poll s =
    let t : RanStep p at (record a { tally = polled_once a.tally answer }) c old new = subst (λ (t : Told). RanStep p at t c old new) poll.rest s in
    record {
      goes = t.goes;
      state = t.state;
      printed = t.printed;
      steps = t.steps;
      records = t.records;
      disables = t.disables;
      records_are = t.records_are;
      disables_are = t.disables_are;
      reads = t.reads;
      unwinds = t.unwinds;
      loads = t.loads;
    }

not_less : (m n : ℕ) → n ≡ m + 0 → nat_lt m n ≡ false
not_less m n e = grind (arith, nat_tests)

less : (m n : ℕ) → n ≡ m + 1 → nat_lt m n ≡ true
less m n e = grind (arith, nat_tests)

-- no poll was answered by yes
pub not_asked : (p : Parts) (s : State) (n : ℕ) (a b : Told) → Polled p s n false a b → is_asked a b ≡ false
not_asked p s n a b h = not_less a.tally.polled b.tally.polled h.polled

-- a thread that was not asked, which did all steps or ended
pub advanced : (p : Parts) (steps : ℕ) (at : List ℕ) (a b : Told) (old new : Progress) → Ran p at a b old new → Polled p old.state (length at) false a b → length at ≤ steps
    → (instruction_due p old.state ≡ None → get_or at 0 (length a.seen) ≡ length a.seen) → (goes new.state.mode ≡ true → length at ≡ steps) → Advanced p steps a b old new
advanced p steps at a b old new r polls within unwinds all =
    let no : is_asked a b ≡ false = not_asked p old.state (length at) a b polls in
    record {
      at = at;
      ran = r;
      within = within;
      unwinds = unwinds;
      polls = subst (λ (x : Bool). Polled p old.state (length at) x a b) (sym no) polls;
      asked = λ e. let h : true ≡ false = sym e ∙ no in absurd (cc);
      spent = λ e. all;
    }

-- one that was asked before an instruction
pub advanced_asked : (p : Parts) (steps : ℕ) (at : List ℕ) (a b c : Told) (old new : Progress) → Ran p at a b old new → Polled p old.state (length at) false a b → Polls b true c → length at < steps
    → (instruction_due p old.state ≡ None → get_or at 0 (length a.seen) ≡ length a.seen) → goes new.state.mode ≡ true → polls_once (instruction_due p new.state) ≡ 1 → Advanced p steps a c old new
advanced_asked p steps at a b c old new r polls poll within unwinds goes safe =
    let count : c.tally.polls ≡ b.tally.polls + 1 = ap (λ (t : Told). t.tally.polls) poll.rest in
    let yes : c.tally.polled ≡ b.tally.polled + 1 = ap (λ (t : Told). t.tally.polled) poll.rest in
    let asked : is_asked a c ≡ true = less a.tally.polled c.tally.polled (omega (arith, yes, polls.polled)) in
    record {
      at = at;
      ran = ran_polled p at a b c old new true r poll;
      within = omega (arith, within);
      unwinds = unwinds;
      polls = subst (λ (x : Bool). Polled p old.state (length at) x a c) (sym asked) (record { polls = omega (arith, count, polls.polls); polled = omega (arith, yes, polls.polled) });
      asked = λ e. (within, goes, safe);
      spent = λ e. let h : true ≡ false = sym asked ∙ e in absurd (cc);
    }

-- the first step's position stays the first
pub first_more : (a : Told) (at : List ℕ) (next : ℕ) → ((at ≡ []) → next ≡ length a.seen) → get_or at 0 (length a.seen) ≡ length a.seen → get_or (at ++ next ∷ []) 0 (length a.seen) ≡ length a.seen
first_more a [] next none e = none refl
first_more a (x ∷ at) next none e = e
