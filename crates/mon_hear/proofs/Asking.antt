-- Words that enable nothing.
use Rattle.std.proofs.Common.{◌≡◌, ℕ, ◌<◌, Bool, true, false, ◌&&◌, ◌||◌, not, eqb, eqb-true, IsTrue, List, [], ◌∷◌, ◌++◌, get_or, Option, Some, None, refl, sym, ap, ◌∙◌, subst, append-nil}
use Rattle.mon_events.specs.Events.{rank}
use Rattle.mon_events.specs.declared.event.Event.{Event}
use Rattle.mon_events.specs.declared.event.Slot.{Slot}
use Rattle.mon_words.specs.Words.{cell_of, is_enabled, is_wanted, is_called, Quiet}
use Rattle.mon_words.specs.History.{after, cell_at}
use Rattle.mon_words.specs.Told.{Told, Grows, Owns}
use Rattle.mon_words.proofs.Masks.{quiet as quiet_of}
use Rattle.mon_words.specs.declared.history.Board.{Board}
use Rattle.mon_words.specs.declared.tally.Load.{Load}
use Rattle.mon_recorders.specs.declared.happening.Happening.{Happening}
use Rattle.mon_recorders.specs.declared.happening.Kind.{Kind}
use Rattle.mon_recorders.specs.declared.record.Record.{Record}
use Rattle.mon_recorders.specs.Happenings.{Filter, answers, delivered, record_of, disabled_of, is_global_kind}
use Rattle.mon_recorders.specs.Boards.{let_through, mark_of, is_enabled_by, IsReadBy, AreReadBy}
use Rattle.mon_recorders.proofs.Folds.{for_tools_never}
use Rattle.mon_hear.specs.Words.{Agree, any_global, any_enabled}
use Rattle.mon_hear.specs.Hearing.{AreGlobal, Unheard, UnwindingHeard}
use Rattle.mon_hear.proofs.Bits.{no_bit}
use Rattle.mon_hear.proofs.Passing.{never, global_read, unwinding}

or_left : (x y : Bool) → IsTrue x → IsTrue (x || y)
or_left true y h = refl
or_left false y h = absurd (cc (h))

or_right : (x y : Bool) → IsTrue y → IsTrue (x || y)
or_right true y h = refl
or_right false y h = h

unwanted : (r : Option ℕ) (t : ℕ) → is_wanted 0 r t ≡ false
unwanted None t = refl
unwanted (Some r) t = no_bit _

module _ (word : ℕ) (quiet : Quiet (cell_of word)) where
  one : (b : Board) (k : Kind) (t : ℕ) (e : Event) → t < 6 → IsReadBy b word k → (IsTrue (is_global_kind k) → 0 ≡ b.global) → is_enabled_by (cell_at b) b.global k t e ≡ false
  one b (Kind.Local l s) t e h r g = ap (λ c. is_enabled c s t) (sym r) ∙ quiet s t h
  one b (Kind.Ancillary l) t e h r g = ap (λ c. is_enabled c Slot.Main t) (sym r) ∙ quiet Slot.Main t h
  one b Kind.Global t e h r g = ap (λ w. is_wanted w (rank e) t) (sym (g refl)) ∙ unwanted (rank e) t

  none : {A : Type 0} (b : Board) (make : Happening → ℕ → A) (es : List Happening) → AreReadBy b word es → (IsTrue (any_global es) → 0 ≡ b.global) → delivered (let_through b).hears make es ≡ []
  none b make [] r g = refl
  none b make (e ∷ es) r g = never (let_through b).hears make e es
      (λ t h. ap (λ x. x && is_called (get_or b.callbacks t 0) e.event) (one b e.kind t e.event h r.0 (λ p. g (or_left (is_global_kind e.kind) (any_global es) p))))
      (none b make es r.1 (λ p. g (or_right (is_global_kind e.kind) (any_global es) p)))

  no_answers : {A : Type 0} (b : Board) (make : Happening → ℕ → A) (es : List Happening) → AreReadBy b word es → (IsTrue (any_global es) → 0 ≡ b.global) → delivered (answers (let_through b)) make es ≡ []
  no_answers b make [] r g = refl
  no_answers b make (e ∷ es) r g = never (answers (let_through b)) make e es
      (λ t h. ap (λ x. (x && is_called (get_or b.callbacks t 0) e.event) && (let_through b).once t e) (one b e.kind t e.event h r.0 (λ p. g (or_left (is_global_kind e.kind) (any_global es) p))))
      (no_answers b make es r.1 (λ p. g (or_right (is_global_kind e.kind) (any_global es) p)))

  not_enabled : (k : Kind) (t : ℕ) (e : Event) → t < 6 → is_enabled_by (λ l. cell_of word) 0 k t e ≡ false
  not_enabled (Kind.Local l s) t e h = quiet s t h
  not_enabled (Kind.Ancillary l) t e h = quiet Slot.Main t h
  not_enabled Kind.Global t e h = unwanted (rank e) t

  none_enabled : (t : ℕ) (es : List Happening) → t < 6 → any_enabled word 0 t es ≡ false
  none_enabled t [] h = refl
  none_enabled t (e ∷ es) h = let x = not_enabled e.kind t e.event h in let y = none_enabled t es h in λ i. x i || y i

  pub nothing : (b : Board) (es : List Happening) → AreReadBy b word es → (IsTrue (any_global es) → 0 ≡ b.global) → Unheard b word 0 es
  nothing b es r g = record {
    records = λ i. none b (record_of i) es r g;
    disables = λ i. no_answers b (disabled_of i) es r g;
    marks = λ t. no_answers b (mark_of t) es r g;
    loads = for_tools_never (λ t. any_enabled word 0 t es) Load.Callbacks 6 (λ t h. none_enabled t es h);
  }

of_not : (x : Bool) → not x ≡ false → IsTrue x
of_not true e = refl
of_not false e = absurd (cc (e))

pub not_asked : (word global : ℕ) → Quiet (cell_of word) → not (eqb global 0) ≡ false → (b : Board) (es : List Happening) → AreReadBy b word es → (IsTrue (any_global es) → global ≡ b.global) → Unheard b word global es
not_asked word global quiet n b es r g = let e : global ≡ 0 = eqb-true global 0 (of_not (eqb global 0) n) in
    subst (λ z. Unheard b word z es) (sym e) (nothing word quiet b es r (λ p. sym e ∙ g p))

agree_itself : (f : Filter) (es : List Happening) → Agree f f es
agree_itself f [] = tt
agree_itself f (e ∷ es) = (λ t l. (refl, refl), agree_itself f es)

-- a global word that enables nothing
pub passed_unwinding : (i : ℕ) (es : List Happening) (a b : Told) (rs : List Record) → Owns a → AreGlobal es → 0 ≡ (after a.first a.seen).global → Grows a b [] → UnwindingHeard i es a b rs rs
passed_unwinding i es a b rs own global none grows =
    let d : Board = after a.first a.seen in
    let u : Unheard d 0 0 es = nothing 0 (quiet_of (cell_of 0) refl) d es (global_read d 0 es global) (λ p. none) in
    unwinding i es (let_through d) a b rs rs own global (agree_itself (let_through d) es) grows (sym (ap (λ z. rs ++ z) (u.records i) ∙ append-nil rs))
