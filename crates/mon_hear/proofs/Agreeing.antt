-- The words of a step let through what the board does.
use Rattle.std.proofs.Common.{◌≡◌, ℕ, ◌<◌, Bool, true, false, ◌&&◌, ◌||◌, IsTrue, List, [], ◌∷◌, ◌++◌, get_or, refl, sym, ap, ◌∙◌}
use Rattle.mon_events.specs.Events.{rank}
use Rattle.mon_events.specs.declared.event.Event.{Event}
use Rattle.mon_events.specs.declared.event.Slot.{Slot}
use Rattle.mon_words.specs.Words.{cell_of, is_enabled, is_wanted, is_called, is_once}
use Rattle.mon_words.specs.History.{cell_at}
use Rattle.mon_words.specs.declared.tally.Load.{Load}
use Rattle.mon_words.specs.declared.history.Board.{Board}
use Rattle.mon_recorders.specs.declared.happening.Happening.{Happening}
use Rattle.mon_recorders.specs.declared.happening.Kind.{Kind}
use Rattle.mon_recorders.specs.Happenings.{Filter, answers, delivered, is_global_kind, is_local_kind}
use Rattle.mon_recorders.specs.Boards.{is_enabled_by, let_through, IsReadBy, AreReadBy}
use Rattle.mon_recorders.proofs.Folds.{for_tools_same}
use Rattle.mon_hear.specs.declared.words.Words.{Words}
use Rattle.mon_hear.specs.Words.{filter, any_global, any_enabled, callback_loads, Agree}

and_same : (x y p q : Bool) → x ≡ y → (IsTrue y → p ≡ q) → (x && p) ≡ (y && q)
and_same x true p q e h = ap (λ z. z && p) e ∙ h refl
and_same x false p q e h = ap (λ z. z && p) e

left_true : (x y : Bool) → IsTrue (x && y) → IsTrue x
left_true true y h = refl
left_true false y h = h

pub or_left : (x y : Bool) → IsTrue x → IsTrue (x || y)
or_left true y h = refl
or_left false y h = absurd (cc (h))

pub or_right : (x y : Bool) → IsTrue y → IsTrue (x || y)
or_right true y h = refl
or_right false y h = h

pub enabled_same : (b : Board) (word global : ℕ) (k : Kind) (t : ℕ) (e : Event) → IsReadBy b word k → (IsTrue (is_global_kind k) → global ≡ b.global)
    → is_enabled_by (cell_at b) b.global k t e ≡ is_enabled_by (λ l. cell_of word) global k t e
enabled_same b word global (Kind.Local l s) t e r g = ap (λ c. is_enabled c s t) (sym r)
enabled_same b word global (Kind.Ancillary l) t e r g = ap (λ c. is_enabled c Slot.Main t) (sym r)
enabled_same b word global Kind.Global t e r g = ap (λ w. is_wanted w (rank e) t) (sym (g refl))

pub agree : (b : Board) (w : Words) (es : List Happening) → AreReadBy b w.word es → (IsTrue (any_global es) → w.global ≡ b.global)
    → ((t : ℕ) → t < 6 → IsTrue (any_enabled w.word w.global t es) → get_or w.callbacks t 0 ≡ get_or b.callbacks t 0) → Agree (let_through b) (filter w) es
agree b w [] r g h = tt
agree b w (e ∷ es) r g h = (here, agree b w es r.1 (λ t. g (or_right (is_global_kind e.kind) (any_global es) t)) (λ t l y. h t l (or_right (is_enabled_by (λ l. cell_of w.word) w.global e.kind t e.event) (any_enabled w.word w.global t es) y)))
  where
    here : (t : ℕ) → t < 6 → ((let_through b).hears t e ≡ (filter w).hears t e) × (answers (let_through b) t e ≡ answers (filter w) t e)
    here t l =
        let x : Bool = is_enabled_by (cell_at b) b.global e.kind t e.event in
        let y : Bool = is_enabled_by (λ l. cell_of w.word) w.global e.kind t e.event in
        let s : x ≡ y = enabled_same b w.word w.global e.kind t e.event r.0 (λ p. g (or_left (is_global_kind e.kind) (any_global es) p)) in
        let c : IsTrue y → get_or b.callbacks t 0 ≡ get_or w.callbacks t 0 = λ p. sym (h t l (or_left y (any_enabled w.word w.global t es) p)) in
        let heard : (let_through b).hears t e ≡ (filter w).hears t e = and_same x y (is_called (get_or b.callbacks t 0) e.event) (is_called (get_or w.callbacks t 0) e.event) s (λ p. ap (λ z. is_called z e.event) (c p)) in (
          heard,
          and_same ((let_through b).hears t e) ((filter w).hears t e) (is_local_kind e.kind && is_once (get_or b.callbacks t 0) e.event) (is_local_kind e.kind && is_once (get_or w.callbacks t 0) e.event) heard
              (λ p. ap (λ z. is_local_kind e.kind && is_once z e.event) (c (left_true y (is_called (get_or w.callbacks t 0) e.event) p))),
        )

pub hears_same : {A : Type 0} (f g : Filter) (make : Happening → ℕ → A) (es : List Happening) → Agree f g es → delivered g.hears make es ≡ delivered f.hears make es
hears_same f g make [] a = refl
hears_same f g make (e ∷ es) a =
    let x = for_tools_same (λ t. g.hears t e) (λ t. f.hears t e) (make e) 6 (λ t l. sym (a.0 t l).0) in
    let y = hears_same f g make es a.1 in λ i. x i ++ y i

pub answers_same : {A : Type 0} (f g : Filter) (make : Happening → ℕ → A) (es : List Happening) → Agree f g es → delivered (answers g) make es ≡ delivered (answers f) make es
answers_same f g make [] a = refl
answers_same f g make (e ∷ es) a =
    let x = for_tools_same (λ t. answers g t e) (λ t. answers f t e) (make e) 6 (λ t l. sym (a.0 t l).1) in
    let y = answers_same f g make es a.1 in λ i. x i ++ y i

-- the loads do not hang on a global word that no event asks for
one_enabled : (word g h : ℕ) (k : Kind) (t : ℕ) (e : Event) → (IsTrue (is_global_kind k) → g ≡ h) → is_enabled_by (λ l. cell_of word) g k t e ≡ is_enabled_by (λ l. cell_of word) h k t e
one_enabled word g h (Kind.Local l s) t e s' = refl
one_enabled word g h (Kind.Ancillary l) t e s' = refl
one_enabled word g h Kind.Global t e s' = ap (λ w. is_wanted w (rank e) t) (s' refl)

any_same : (word g h t : ℕ) (es : List Happening) → (IsTrue (any_global es) → g ≡ h) → any_enabled word g t es ≡ any_enabled word h t es
any_same word g h t [] s = refl
any_same word g h t (e ∷ es) s =
    let x = one_enabled word g h e.kind t e.event (λ p. s (or_left (is_global_kind e.kind) (any_global es) p)) in
    let y = any_same word g h t es (λ p. s (or_right (is_global_kind e.kind) (any_global es) p)) in λ i. x i || y i

pub loads_same : (word g h : ℕ) (es : List Happening) → (IsTrue (any_global es) → g ≡ h) → callback_loads word g es 6 ≡ callback_loads word h es 6
loads_same word g h es s = for_tools_same (λ t. any_enabled word g t es) (λ t. any_enabled word h t es) Load.Callbacks 6 (λ t l. any_same word g h t es s)
