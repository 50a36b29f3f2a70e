-- A tool that keeps the LINE events of a run.
use Rattle.std.proofs.Common.{◌≡◌, ◌≢◌, ℕ, zero, suc, ◌+◌, ◌^◌, ◌<◌, ◌≤◌, ◌==◌, Bool, true, false, ◌&&◌, cond, List, [], ◌∷◌, ◌++◌, length, take, get_or, refl, sym, ap, subst, ◌∙◌, arith, append-nil, add-one}
use Rattle.std.specs.Prelude.{Option, Some, None, slice_get, if◌then◌else◌}
use Rattle.std.specs.List.{AllByRecursion}
use Rattle.std.proofs.lemmas.Nat.Bits.{bit_at-pow_other}
use Rattle.std.proofs.lemmas.Option.{same_Some, none-some}
use Rattle.std.proofs.lemmas.Bool.Decides.{nat_tests}
use Rattle.mon_events.specs.Events.{place, rank}
use Rattle.mon_events.specs.declared.event.Event.{Event}
use Rattle.mon_events.specs.declared.event.Slot.{Slot}
use Rattle.mon_code.specs.declared.program.Code.{Code}
use Rattle.mon_code.specs.declared.program.Location.{Location}
use Rattle.mon_code.specs.Programs.{Parts, location_at}
use Rattle.mon_frames.specs.declared.call.Call.{Call}
use Rattle.mon_words.specs.Words.{is_bit, is_enabled, is_called, is_once}
use Rattle.mon_words.specs.History.{after, cell_at, offs}
use Rattle.mon_words.specs.Told.{Told}
use Rattle.mon_words.specs.declared.history.Board.{Board}
use Rattle.mon_words.specs.declared.history.Mark.{Mark}
use Rattle.mon_words.specs.declared.history.Mark.TheVariants.{Off, Put}
use Rattle.mon_recorders.specs.declared.happening.Happening.{Happening}
use Rattle.mon_recorders.specs.declared.happening.Kind.{Kind}
use Rattle.mon_recorders.specs.declared.happening.Kind.TheVariants.{Local, Global, Ancillary}
use Rattle.mon_recorders.specs.Happenings.{delivered, answers, record_of, disabled_of, records_in, disables_in, is_local_kind}
use Rattle.mon_recorders.specs.Readings.{in_turn, Reader, entries_by}
use Rattle.mon_recorders.specs.Boards.{is_enabled_by, let_through, reader, mark_of, IsAt, AreAt}
use Rattle.mon_recorders.proofs.Folds.{for_tools_same, for_tools_never}
use Rattle.mon_recorders.proofs.Spans.{in_turn_none, in_turn_more, in_turn_same}
use Rattle.mon_machine.specs.declared.mode.Mode.{Mode}
use Rattle.mon_machine.specs.State.{State, start}
use Rattle.mon_machine.specs.Step.{step}
use Rattle.mon_machine.specs.Run.{after_steps, heard, is_line}
use Rattle.mon_machine.specs.Serial.{wants_line, line_records, WantsLine, HasLineWants}
use Rattle.mon_machine.specs.Laws.{MarksLine, is_line_kind}
use Rattle.mon_machine.specs.Advances.{Progress, nothing_done, Due, due_at, due_in, due_in_top, unpolled, due_in_mode, instruction_due, events_from, Ran}
use Rattle.mon_machine.specs.AdvanceLaws.{StandAt, KeepsLines, KeptLines, LinesAreKept}
use Rattle.mon_machine.proofs.Bare.{no_bit}
use Rattle.mon_machine.proofs.BareAdvances.{wanted_none, turns_none}
use Rattle.mon_machine.proofs.Calls.{line_marks}
use Rattle.mon_machine.proofs.Heard.{line_enabled, bit_is, line_records_none, line_records_more, line_records_sum}
use Rattle.mon_machine.proofs.Locating.{events_stand}

-- ---- the instruction that is due stands at a location of the program

record Found (p : Parts) (tool : ℕ) (b : Board) (location : ℕ) : Type 0 where
  at : Location
  wants : WantsLine tool b location at

module _ (p : Parts) (tool : ℕ) (b : Board) (wants : HasLineWants p tool b) where
  found_at : (k i : ℕ) (c : Code) (l : Option Location) (due : Due) → slice_get p.codes k ≡ Some c → location_at c i ≡ l → due_at (c.first + i) l ≡ Some due → Found p tool b due.location
  found_at k i c None due found is e = absurd (none-some due e)
  found_at k i c (Some l) due found is e =
      let same : c.first + i ≡ due.location = ap (λ (d : Due). d.location) (same_Some _ due e) in
      record { at = l; wants = subst (λ (n : ℕ). WantsLine tool b n l) same (wants.cells k i c l found is) }

  found_in : (k i : ℕ) (c : Option Code) (due : Due) → slice_get p.codes k ≡ c → due_in c i ≡ Some due → Found p tool b due.location
  found_in k i None due found e = absurd (none-some due e)
  found_in k i (Some c) due found e = found_at k i c (location_at c i) due found refl e

  found_top : (calls : List Call) (due : Due) → due_in_top p calls ≡ Some due → Found p tool b due.location
  found_top [] due e = absurd (none-some due e)
  found_top (call ∷ calls) due e = found_in call.frame.code call.frame.index (slice_get p.codes call.frame.code) due refl e

  found_unpolled : (due due' : Option Due) (d : Due) → ((e : Due) → due ≡ Some e → Found p tool b e.location) → unpolled due ≡ due' → due' ≡ Some d → Found p tool b d.location
  found_unpolled None due' d each is e = absurd (none-some d (is ∙ e))
  found_unpolled (Some x) due' d each is e =
      let same : x.location ≡ d.location = ap (λ (y : Due). y.location) (same_Some (record x { is_safe = false }) d (is ∙ e)) in
      subst (λ (n : ℕ). Found p tool b n) same (each x refl)

  found_mode : (calls : List Call) (mode : Mode) (due : Due) → due_in_mode p calls mode ≡ Some due → Found p tool b due.location
  found_mode calls Mode.Run due e = found_top calls due e
  found_mode calls (Mode.Unwind x) due e = absurd (none-some due e)
  found_mode calls (Mode.Finish a) due e = found_unpolled (due_in_top p calls) (unpolled (due_in_top p calls)) due (found_top calls) refl e
  found_mode calls (Mode.Ended outcome) due e = absurd (none-some due e)
  found_mode calls Mode.Stuck due e = absurd (none-some due e)

  found : (s : State) (due : Due) → instruction_due p s ≡ Some due → Found p tool b due.location
  unfolding instruction_due
  found s due e = found_mode s.frames.calls s.mode due e

-- ---- of the events of a step it is let through what the tool wants

pow_other : (tool k : ℕ) → tool < k → is_bit (2 ^ tool) k ≡ false
pow_other tool k h = let o : k ≢ tool = λ e. absurd (omega (arith, e)) in bit_is (2 ^ tool) k 0 (bit_at-pow_other tool k o)

want_other : (tool want : ℕ) (marked : Bool) (k : ℕ) → want ≡ (if marked then 2 ^ tool else 0) → tool < k → is_bit want k ≡ false
want_other tool want true k e h = ap (λ (n : ℕ). is_bit n k) e ∙ pow_other tool k h
want_other tool want false k e h = no_bit want k e

module _ (p : Parts) (tool : ℕ) (b : Board) (keeps : KeepsLines p tool b) where
  slot_other : (location : ℕ) (slot : Slot) (t : ℕ) → Found p tool b location → tool < place slot t → is_enabled (cell_at b location) slot t ≡ false
  slot_other location slot t f h = ap (λ (x : Bool). x && is_bit (cell_at b location).live (place slot t)) (want_other tool (cell_at b location).want f.at.is_marked (place slot t) f.wants.want h)

  enabled_local : (location : ℕ) (slot : Slot) (t : ℕ) → (slot ≡ Slot.Line → is_enabled (cell_at b location) Slot.Line t ≡ (t == tool)) → Found p tool b location → is_enabled (cell_at b location) slot t ≡ wants_line tool (Local location slot) t
  enabled_local location Slot.Line t same f = same refl
  enabled_local location Slot.Instruction t same f = slot_other location Slot.Instruction t f (omega (arith, keeps.wants.within))
  enabled_local location Slot.Main t same f = slot_other location Slot.Main t f (omega (arith, keeps.wants.within))
  enabled_local location Slot.Spare t same f = slot_other location Slot.Spare t f (omega (arith, keeps.wants.within))

  enabled_at : (location : ℕ) (kind : Kind) (t : ℕ) (e : Event) → IsAt location kind → ((l : ℕ) → kind ≡ Local l Slot.Line → is_enabled (cell_at b l) Slot.Line t ≡ (t == tool)) → Found p tool b location → is_enabled_by (cell_at b) b.global kind t e ≡ wants_line tool kind t
  enabled_at location (Local l s) t e at same f = enabled_local l s t (λ is. same l (ap (Local l) is)) (subst (λ (n : ℕ). Found p tool b n) (sym at) f)
  enabled_at location (Ancillary l) t e at same f = slot_other l Slot.Main t (subst (λ (n : ℕ). Found p tool b n) (sym at) f) (omega (arith, keeps.wants.within))
  enabled_at location Global t e at same f = wanted_none b.global (rank e) t keeps.global

  enabled_global : (kind : Kind) (t : ℕ) (e : Event) → kind ≡ Global → is_enabled_by (cell_at b) b.global kind t e ≡ wants_line tool kind t
  enabled_global kind t e is = subst (λ (k : Kind). is_enabled_by (cell_at b) b.global k t e ≡ wants_line tool k t) (sym is) (wanted_none b.global (rank e) t keeps.global)

  line_tool : (kind : Kind) (t : ℕ) → wants_line tool kind t ≡ true → (is_line_kind kind ≡ true) × (t ≡ tool)
  line_tool (Local l s) t e = pick (is_line s) refl e
    where
      pick : (x : Bool) → is_line s ≡ x → (x && t == tool) ≡ true → (is_line s ≡ true) × (t ≡ tool)
      pick true is h = (is, grind (arith, nat_tests))
      pick false is h = absurd (cc)
  line_tool Global t e = absurd (cc)
  line_tool (Ancillary l) t e = absurd (cc)

  -- an event of one kind is let through to the tool, and not answered
  one : (e : Happening) (t : ℕ) → MarksLine p e → is_enabled_by (cell_at b) b.global e.kind t e.event ≡ wants_line tool e.kind t
      → ((let_through b).hears t e ≡ wants_line tool e.kind t) × (answers (let_through b) t e ≡ false)
  one e t marks same = pick (wants_line tool e.kind t) refl
    where
      called : ℕ → Event → Bool
      called k v = is_called (get_or b.callbacks k 0) v

      once : ℕ → Event → Bool
      once k v = is_once (get_or b.callbacks k 0) v

      pick : (x : Bool) → wants_line tool e.kind t ≡ x → ((let_through b).hears t e ≡ wants_line tool e.kind t) × (answers (let_through b) t e ≡ false)
      pick false is =
          let off : is_enabled_by (cell_at b) b.global e.kind t e.event ≡ false = same ∙ is in
          let none : (let_through b).hears t e ≡ false = ap (λ (x : Bool). x && is_called (get_or b.callbacks t 0) e.event) off in
          (none ∙ sym is, ap (λ (x : Bool). x && (let_through b).once t e) none)
      pick true is =
          let on : is_enabled_by (cell_at b) b.global e.kind t e.event ≡ true = same ∙ is in
          let line = line_tool e.kind t is in
          let event : e.event ≡ Event.Line = marks.alone line.0 in
          let call : is_called (get_or b.callbacks t 0) e.event ≡ true = (λ i. is_called (get_or b.callbacks (line.1 i) 0) (event i)) ∙ keeps.called in
          let keep : is_once (get_or b.callbacks t 0) e.event ≡ false = (λ i. is_once (get_or b.callbacks (line.1 i) 0) (event i)) ∙ keeps.kept in
          let hears : (let_through b).hears t e ≡ true = λ i. on i && call i in
          (hears ∙ sym is, both (is_local_kind e.kind) ((let_through b).hears t e) (is_once (get_or b.callbacks t 0) e.event) keep)
        where
          both : (l h o : Bool) → o ≡ false → (h && (l && o)) ≡ false
          both true true o f = f
          both true false o f = refl
          both false true o f = refl
          both false false o f = refl

  Lets : Happening → Type 0
  Lets e = (t : ℕ) → t < 6 → ((let_through b).hears t e ≡ wants_line tool e.kind t) × (answers (let_through b) t e ≡ false)

  lets_at : (location : ℕ) (es : List Happening) → AreAt location es → AllByRecursion (MarksLine p) es → Found p tool b location → AllByRecursion Lets es
  unfolding Lets
  lets_at location [] at marks f = tt
  lets_at location (e ∷ es) at marks f = (λ t l. one e t marks.0 (enabled_at location e.kind t e.event at.0 (λ n is. line_enabled p tool b e keeps.wants marks.0 n t l is) f), lets_at location es at.1 marks.1 f)

  lets_global : (es : List Happening) → StandAt None es → AllByRecursion (MarksLine p) es → AllByRecursion Lets es
  unfolding Lets
  lets_global [] at marks = tt
  lets_global (e ∷ es) at marks = (λ t l. one e t marks.0 (enabled_global e.kind t e.event at.0), lets_global es at.1 marks.1)

  lets : (s : State) → AllByRecursion (MarksLine p) (step p s).events → AllByRecursion Lets (step p s).events
  lets s marks = pick (instruction_due p s) refl (events_stand p s)
    where
      pick : (due : Option Due) → instruction_due p s ≡ due → StandAt due (step p s).events → AllByRecursion Lets (step p s).events
      pick None e at = lets_global (step p s).events at marks
      pick (Some due) e at = lets_at due.location (step p s).events at marks (found p tool b keeps.wants s due e)

  records_kept : (i : ℕ) (es : List Happening) → AllByRecursion Lets es → records_in (let_through b) i es ≡ heard (wants_line tool) i es
  unfolding Lets
  records_kept i [] l = refl
  records_kept i (e ∷ es) l =
      let x = for_tools_same (λ t. (let_through b).hears t e) (wants_line tool e.kind) (record_of i e) 6 (λ t h. (l.0 t h).0) in
      let y = records_kept i es l.1 in
      λ j. x j ++ y j

  none_answered : {A : Type 0} (make : Happening → ℕ → A) (es : List Happening) → AllByRecursion Lets es → delivered (answers (let_through b)) make es ≡ []
  unfolding Lets
  none_answered make [] l = refl
  none_answered make (e ∷ es) l =
      let x = for_tools_same (λ t. answers (let_through b) t e) (λ t. false) (make e) 6 (λ t h. (l.0 t h).1) ∙ for_tools_never (λ t. false) (make e) 6 (λ t h. refl) in
      let y = none_answered make es l.1 in
      λ j. x j ++ y j

-- ---- a history of a thread's own marks

offs_fewer : (t : ℕ) (log : List Mark) → length (offs t log) ≤ length log
offs_fewer t [] = omega arith
offs_fewer t (Off u l k ∷ ms) = pick (u == t) (offs_fewer t ms)
  where
    pick : (x : Bool) → length (offs t ms) ≤ length ms → length (cond x (Off u l k ∷ offs t ms) (offs t ms)) ≤ suc (length ms)
    pick true h = omega (arith, h)
    pick false h = omega (arith, h)
offs_fewer t (Put stops c ∷ ms) = let h = offs_fewer t ms in omega (arith, h)

not_longer : (t : ℕ) (m : Mark) (ms : List Mark) → offs t ms ≡ m ∷ ms → ⊥
not_longer t m ms e = let a : length (offs t ms) ≡ suc (length ms) = ap length e in let b = offs_fewer t ms in absurd (omega (arith, a, b))

own_front : (t n : ℕ) (log : List Mark) → offs t log ≡ log → offs t (take n log) ≡ take n log
own_front t zero log e = refl
own_front t (suc n) [] e = refl
own_front t (suc n) (Put stops c ∷ ms) e = absurd (not_longer t (Put stops c) ms e)
own_front t (suc n) (Off u l k ∷ ms) e = pick (u == t) e (own_front t n ms)
  where
    pick : (x : Bool) → cond x (Off u l k ∷ offs t ms) (offs t ms) ≡ Off u l k ∷ ms → (offs t ms ≡ ms → offs t (take n ms) ≡ take n ms) → cond x (Off u l k ∷ offs t (take n ms)) (offs t (take n ms)) ≡ Off u l k ∷ take n ms
    pick true h rest = let tail : offs t ms ≡ ms = cc in ap (λ z. Off u l k ∷ z) (rest tail)
    pick false h rest = absurd (not_longer t (Off u l k) ms h)

-- ---- the whole run

lines_in_turn : (p : Parts) (tool i : ℕ) (s : State) (n : ℕ) → in_turn (λ k. heard (wants_line tool) (i + k) (events_from p s k)) n ≡ line_records p tool i s n
lines_in_turn p tool i s zero = in_turn_none _ ∙ sym (line_records_none p tool i s)
lines_in_turn p tool i s (suc n) =
    let there : State = after_steps p s n in
    let here = heard (wants_line tool) (i + n) (step p there).events in
    let last : line_records p tool (i + n) there 1 ≡ here
    = line_records_more p tool (i + n) there 0 ∙ (ap (λ z. here ++ z) (line_records_none p tool (i + n + 1) (step p there).after) ∙ append-nil here) in
    let sum : line_records p tool i s (n + 1) ≡ line_records p tool i s n ++ here = line_records_sum p tool i s n 1 ∙ ap (λ z. line_records p tool i s n ++ z) last in
    ap (in_turn (λ k. heard (wants_line tool) (i + k) (events_from p s k))) (sym (add-one n))
    ∙ (in_turn_more _ n ∙ (ap (λ z. z ++ here) (lines_in_turn p tool i s n) ∙ (sym sum ∙ ap (λ k. line_records p tool i s k) (add-one n))))

module _ (p : Parts) (tool : ℕ) (at : List ℕ) (a b : Told) (s : State) (new : Progress) (keeps : KeepsLines p tool a.first) (empty : a.seen ≡ []) (own : offs a.number b.seen ≡ b.seen)
    (r : Ran p at a b (nothing_done s) new) (marks : (k : ℕ) → AllByRecursion (MarksLine p) (events_from p s k)) where
  R : Reader Mark
  R = reader a.number a.first

  none_before : offs a.number a.seen ≡ []
  none_before = ap (offs a.number) empty

  lets_k : (k : ℕ) → AllByRecursion (Lets p tool a.first keeps) (events_from p s k)
  lets_k k = lets p tool a.first keeps (after_steps p s k) (marks k)

  -- where nothing was answered before, the first board stands
  front : (k : ℕ) → k < length at → entries_by R b.seen at (events_from p s) k ≡ [] → take (get_or at k 0) b.seen ≡ []
  unfolding R
  front k h none = sym (own_front a.number (get_or at k 0) b.seen own) ∙ (r.span.own_read k h ∙ (λ i. none_before i ++ none i))

  no_entries : (k : ℕ) → k ≤ length at → entries_by R b.seen at (events_from p s) k ≡ []
  unfolding R
  no_entries zero h = in_turn_none _
  no_entries (suc k) h =
      let before = no_entries k (omega arith) in
      let w : take (get_or at k 0) b.seen ≡ [] = front k (omega arith) before in
      let here : delivered (answers (let_through (after a.first (take (get_or at k 0) b.seen)))) (mark_of a.number) (events_from p s k) ≡ []
      = ap (λ (m : List Mark). delivered (answers (let_through (after a.first m))) (mark_of a.number) (events_from p s k)) w ∙ none_answered p tool a.first keeps (mark_of a.number) (events_from p s k) (lets_k k) in
      ap (λ n. entries_by R b.seen at (events_from p s) n) (sym (add-one k)) ∙ (in_turn_more _ k ∙ (λ i. before i ++ here i))

  read : (k : ℕ) → k < length at → take (get_or at k 0) b.seen ≡ []
  read k h = front k h (no_entries k (omega (arith, h)))

  pub kept : KeptLines p tool (length at) b s new
  unfolding R
  kept = record {
    seen = sym own ∙ (r.span.own_all ∙ (let e = no_entries (length at) (omega arith) in λ i. none_before i ++ e i));
    records = r.records_are
        ∙ (r.span.records_are
        ∙ (in_turn_same _ (λ k. heard (wants_line tool) (0 + k) (events_from p s k)) (length at)
        (λ k h. ap (λ (m : List Mark). records_in (let_through (after a.first m)) (0 + k) (events_from p s k)) (read k h) ∙ records_kept p tool a.first keeps (0 + k) (events_from p s k) (lets_k k))
        ∙ lines_in_turn p tool 0 s (length at)));
    disables = r.disables_are
        ∙ (r.span.disables_are
        ∙ turns_none _ (length at)
        (λ k h. ap (λ (m : List Mark). disables_in (let_through (after a.first m)) (0 + k) (events_from p s k)) (read k h) ∙ none_answered p tool a.first keeps (disabled_of (0 + k)) (events_from p s k) (lets_k k)));
  }

pub lines_are_kept : LinesAreKept
lines_are_kept p k c args call tool at a b old new keeps empty own begun r =
    kept p tool at a b (start c k args) new keeps empty own (subst (λ (x : Progress). Ran p at a b x new) begun r) (λ n. line_marks p k c args call n)
