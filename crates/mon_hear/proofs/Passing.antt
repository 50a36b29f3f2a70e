-- Steps of which nothing is heard, and steps without a location.
use Rattle.std.proofs.Common.{◌≡◌, ℕ, ◌<◌, Bool, true, false, ◌&&◌, ◌||◌, cond, IsTrue, List, [], ◌∷◌, ◌++◌, length, take, get_or, refl, sym, ap, ◌∙◌, subst, arith, append-nil}
use Rattle.mon_events.specs.declared.event.Event.{Event}
use Rattle.mon_events.specs.declared.event.Slot.{Slot}
use Rattle.mon_words.specs.Words.{cell_of, is_enabled, is_called, is_once, Quiet}
use Rattle.mon_words.specs.History.{after, offs, cell_at}
use Rattle.mon_words.specs.Told.{Told, Grows, Loads, Owns}
use Rattle.mon_words.specs.declared.tally.Load.{Load}
use Rattle.mon_words.specs.declared.history.Board.{Board}
use Rattle.mon_words.specs.declared.history.Mark.{Mark}
use Rattle.mon_recorders.specs.declared.happening.Happening.{Happening}
use Rattle.mon_recorders.specs.declared.happening.Kind.{Kind}
use Rattle.mon_recorders.specs.declared.record.Record.{Record}
use Rattle.mon_recorders.specs.declared.record.Disabled.{Disabled}
use Rattle.mon_recorders.specs.Happenings.{Filter, answers, delivered, for_tools, records_in, disables_in, is_global_kind, is_local_kind}
use Rattle.mon_recorders.specs.Boards.{let_through, mark_of, is_enabled_by, IsReadBy, AreReadBy, IsAt, AreAt}
use Rattle.mon_recorders.proofs.Folds.{for_tools_never}
use Rattle.mon_hear.specs.Words.{Agree, any_global, globals, any_enabled, callback_loads, global_load, loads}
use Rattle.mon_hear.specs.Hearing.{AreGlobal, UnwindingHeard, Heard, StepHeard, Retiring, LoadsOnce}
use Rattle.mon_hear.proofs.Agreeing.{hears_same}
use Rattle.mon_hear.proofs.Steps.{whole, begins_length, step_heard}

and_false : (x : Bool) → (x && false) ≡ false
and_false true = refl
and_false false = refl

or_none : (x y : Bool) → (x || y) ≡ false → (x ≡ false) × (y ≡ false)
or_none true y e = absurd (cc (e))
or_none false y e = (refl, e)

-- no test passes
pub never : {A : Type 0} (test : ℕ → Happening → Bool) (make : Happening → ℕ → A) (e : Happening) (es : List Happening) → ((t : ℕ) → t < 6 → test t e ≡ false) → delivered test make es ≡ [] → delivered test make (e ∷ es) ≡ []
never test make e es h k = let x = for_tools_never (λ t. test t e) (make e) 6 h in λ i. x i ++ k i

module _ (b : Board) (word location : ℕ) (here : cell_of word ≡ cell_at b location) (quiet : Quiet (cell_of word)) where
  one_quiet : (k : Kind) (t : ℕ) (e : Event) → t < 6 → IsAt location k → is_global_kind k ≡ false → is_enabled_by (cell_at b) b.global k t e ≡ false
  one_quiet (Kind.Local l s) t e h p g = ap (λ j. is_enabled (cell_at b j) s t) p ∙ (ap (λ c. is_enabled c s t) (sym here) ∙ quiet s t h)
  one_quiet (Kind.Ancillary l) t e h p g = ap (λ j. is_enabled (cell_at b j) Slot.Main t) p ∙ (ap (λ c. is_enabled c Slot.Main t) (sym here) ∙ quiet Slot.Main t h)
  one_quiet Kind.Global t e h p g = absurd (cc (g))

  unheard : (e : Happening) (t : ℕ) → t < 6 → IsAt location e.kind → is_global_kind e.kind ≡ false → (let_through b).hears t e ≡ false
  unheard e t h p g = ap (λ x. x && is_called (get_or b.callbacks t 0) e.event) (one_quiet e.kind t e.event h p g)

  nothing_heard : {A : Type 0} (make : Happening → ℕ → A) (es : List Happening) → AreAt location es → any_global es ≡ false → delivered (let_through b).hears make es ≡ []
  nothing_heard make [] p g = refl
  nothing_heard make (e ∷ es) p g = let n = or_none (is_global_kind e.kind) (any_global es) g in
      never (let_through b).hears make e es (λ t h. unheard e t h p.0 n.0) (nothing_heard make es p.1 n.1)

  nothing_answered : {A : Type 0} (make : Happening → ℕ → A) (es : List Happening) → AreAt location es → any_global es ≡ false → delivered (answers (let_through b)) make es ≡ []
  nothing_answered make [] p g = refl
  nothing_answered make (e ∷ es) p g = let n = or_none (is_global_kind e.kind) (any_global es) g in
      never (answers (let_through b)) make e es (λ t h. ap (λ x. x && (let_through b).once t e) (unheard e t h p.0 n.0)) (nothing_answered make es p.1 n.1)

  -- of the others nothing is heard
  only_globals : {A : Type 0} (test : ℕ → Happening → Bool) (make : Happening → ℕ → A) → ((e : Happening) (t : ℕ) → t < 6 → IsAt location e.kind → is_global_kind e.kind ≡ false → test t e ≡ false)
      → (es : List Happening) → AreAt location es → delivered test make es ≡ delivered test make (globals es)
  only_globals test make h [] p = refl
  only_globals test make h (e ∷ es) p = split (only_globals test make h es p.1) (is_global_kind e.kind) refl
    where
      split : delivered test make es ≡ delivered test make (globals es) → (x : Bool) → is_global_kind e.kind ≡ x → delivered test make (e ∷ es) ≡ delivered test make (cond x (e ∷ globals es) (globals es))
      split rest true g = ap (λ z. for_tools (λ t. test t e) (make e) 6 ++ z) rest
      split rest false g = let x = for_tools_never (λ t. test t e) (make e) 6 (λ t l. h e t l p.0 g) in λ i. x i ++ rest i

  not_enabled : (g' t : ℕ) (k : Kind) (e : Event) → t < 6 → is_global_kind k ≡ false → is_enabled_by (λ l. cell_of word) g' k t e ≡ false
  not_enabled g' t (Kind.Local l s) e h g = quiet s t h
  not_enabled g' t (Kind.Ancillary l) e h g = quiet Slot.Main t h
  not_enabled g' t Kind.Global e h g = absurd (cc (g))

  none_enabled : (g' t : ℕ) (es : List Happening) → t < 6 → any_global es ≡ false → any_enabled word g' t es ≡ false
  none_enabled g' t [] h g = refl
  none_enabled g' t (e ∷ es) h g = let n = or_none (is_global_kind e.kind) (any_global es) g in
      let x = not_enabled g' t e.kind e.event h n.0 in let y = none_enabled g' t es h n.1 in λ i. x i || y i

  no_loads : (g' : ℕ) (es : List Happening) → any_global es ≡ false → loads word g' es ≡ []
  no_loads g' es g = let x : global_load es ≡ [] = ap (λ z. cond z (Load.Global ∷ []) []) g in
      let y : callback_loads word g' es 6 ≡ [] = for_tools_never (λ t. any_enabled word g' t es) Load.Callbacks 6 (λ t h. none_enabled g' t es h g) in λ i. x i ++ y i

pub passed : (i location word : ℕ) (es : List Happening) (a c b : Told) (rs : List Record) (ds : List Disabled) → Owns a → Loads a location word c
    → cell_of word ≡ cell_at (after c.first c.seen) location → Quiet (cell_of word) → Grows c b [] → Retiring c b location word → b.tally.loads ≡ c.tally.loads → AreAt location es → any_global es ≡ false
    → StepHeard i location es a b rs rs ds ds
passed i location word es a c b rs ds own l here quiet g r loaded p n =
    let d : Board = after c.first c.seen in
    let h : Heard i es c b rs rs ds ds = record {
      grows = subst (λ (m : List Mark). Grows c b m) (sym (nothing_answered d word location here quiet (mark_of c.number) es p n)) g;
      records = sym (ap (λ z. rs ++ z) (nothing_heard d word location here quiet _ es p n) ∙ append-nil rs);
      disables = sym (ap (λ z. ds ++ z) (nothing_answered d word location here quiet _ es p n) ∙ append-nil ds);
    } in
    step_heard i location word es a c b rs rs ds ds own l h r (loaded ∙ sym (ap (λ z. c.tally.loads ++ z) (no_loads d word location here quiet d.global es n) ∙ append-nil c.tally.loads))

pub loads_once : (a c b : Told) (location word : ℕ) → Loads a location word c → b.tally.loads ≡ c.tally.loads → LoadsOnce a b location
loads_once a c b location word l e = record { at = length c.seen; loaded = e ∙ ap (λ (t : Told). t.tally.loads) l.rest }

-- global events
one_read : (b : Board) (word : ℕ) (k : Kind) → IsTrue (is_global_kind k) → IsReadBy b word k
one_read b word (Kind.Local l s) h = absurd (cc (h))
one_read b word (Kind.Ancillary l) h = absurd (cc (h))
one_read b word Kind.Global h = tt

pub global_read : (b : Board) (word : ℕ) (es : List Happening) → AreGlobal es → AreReadBy b word es
global_read b word [] h = tt
global_read b word (e ∷ es) h = (one_read b word e.kind h.0, global_read b word es h.1)

unanswered : (x y : Bool) (k : Kind) → IsTrue (is_global_kind k) → (x && (is_local_kind k && y)) ≡ false
unanswered x y (Kind.Local l s) h = absurd (cc (h))
unanswered x y (Kind.Ancillary l) h = absurd (cc (h))
unanswered x y Kind.Global h = and_false x

no_answer : {A : Type 0} (b : Board) (make : Happening → ℕ → A) (es : List Happening) → AreGlobal es → delivered (answers (let_through b)) make es ≡ []
no_answer b make [] h = refl
no_answer b make (e ∷ es) h = never (answers (let_through b)) make e es (λ t l. unanswered ((let_through b).hears t e) (is_once (get_or b.callbacks t 0) e.event) e.kind h.0) (no_answer b make es h.1)

pub unwinding : (i : ℕ) (es : List Happening) (g : Filter) (a b : Told) (old_records new_records : List Record) → Owns a → AreGlobal es
    → Agree (let_through (after a.first a.seen)) g es → Grows a b [] → new_records ≡ old_records ++ records_in g i es → UnwindingHeard i es a b old_records new_records
unwinding i es g a b old_records new_records own global agree grows records =
    let f : Filter = let_through (after a.first a.seen) in
    let t : take (length a.seen) b.seen ≡ a.seen = whole a.seen b.seen grows.begins in
    let same : f ≡ let_through (after a.first (take (length a.seen) b.seen)) = ap (λ (s : List Mark). let_through (after a.first s)) (sym t) in
    record {
      records = records_in f i es;
      records_are = records ∙ ap (λ z. old_records ++ z) (hears_same f g _ es agree);
      step = record {
        more = grows.begins.more;
        grown = grows.begins.is;
        low = omega arith;
        high = begins_length a.seen b.seen grows.begins;
        own_read = ap (offs a.number) t;
        own_all = ap (λ n. offs n b.seen) (sym (ap (λ (t : Told). t.number) grows.rest)) ∙ (grows.owns own ∙ (grows.own ∙ (append-nil a.own ∙ (sym own ∙ (sym (append-nil _) ∙ ap (λ z. offs a.number a.seen ++ z) (sym (no_answer (after a.first (take (length a.seen) b.seen)) (mark_of a.number) es global)))))));
        records_are = ap (λ (x : Filter). records_in x i es) same;
        disables_are = sym (no_answer (after a.first (take (length a.seen) b.seen)) _ es global);
      };
    }

-- at a location where nothing is enabled the global events stand for all
pub heard_quiet : (i location word : ℕ) (es gs : List Happening) (a b : Told) (rs rs2 : List Record) (ds ds2 : List Disabled) → cell_of word ≡ cell_at (after a.first a.seen) location → Quiet (cell_of word)
    → AreAt location es → globals es ≡ gs → Heard i gs a b rs rs2 ds ds2 → Heard i es a b rs rs2 ds ds2
heard_quiet i location word es gs a b rs rs2 ds ds2 here quiet p is h =
    let d : Board = after a.first a.seen in
    let f : Filter = let_through d in
    let u = unheard d word location here quiet in
    record {
      grows = subst (λ (m : List Mark). Grows a b m) (ap (delivered (answers f) (mark_of a.number)) (sym is) ∙ sym (only_globals d word location here quiet (answers f) (mark_of a.number) (λ e t l q n. ap (λ x. x && f.once t e) (u e t l q n)) es p)) h.grows;
      records = h.records ∙ ap (λ z. rs ++ z) (ap (records_in f i) (sym is) ∙ sym (only_globals d word location here quiet f.hears _ u es p));
      disables = h.disables ∙ ap (λ z. ds ++ z) (ap (disables_in f i) (sym is) ∙ sym (only_globals d word location here quiet (answers f) _ (λ e t l q n. ap (λ x. x && f.once t e) (u e t l q n)) es p));
    }

one_at : (location : ℕ) (k : Kind) → IsTrue (is_global_kind k) → IsAt location k
one_at location (Kind.Local l s) h = absurd (cc (h))
one_at location (Kind.Ancillary l) h = absurd (cc (h))
one_at location Kind.Global h = tt

pub global_at : (location : ℕ) (es : List Happening) → AreGlobal es → AreAt location es
global_at location [] h = tt
global_at location (e ∷ es) h = (one_at location e.kind h.0, global_at location es h.1)
