-- The words of a configuration let through what the configuration lets through.
use Rattle.std.proofs.Common.{◌≡◌, ℕ, zero, suc, ◌+◌, ◌*◌, ◌/◌, ◌%◌, ◌<◌, ◌≤◌, Bool, true, false, not, ◌&&◌, cond, List, [], ◌∷◌, ◌++◌, length, take, get_or, Some, is_some, sym, refl, ap, ◌∙◌, arith}
use Rattle.mon_events.specs.Events.{bit, place, is_local, event_at, rank}
use Rattle.mon_events.specs.declared.event.Event.{Event}
use Rattle.mon_events.specs.declared.event.Slot.{Slot}
use Rattle.mon_events.proofs.Bits.{packed_bit}
use Rattle.mon_events.proofs.Listed.{bit_lt, event_back}
use Rattle.mon_code.specs.declared.site.Site.{Site}
use Rattle.mon_code.specs.Sites.{site_at, slot_event}
use Rattle.mon_words.specs.Words.{is_bit, is_enabled, is_wanted, differ}
use Rattle.mon_words.specs.History.{cell_at, after}
use Rattle.mon_words.specs.declared.history.Board.{Board}
use Rattle.mon_recorders.specs.declared.happening.Happening.{Happening}
use Rattle.mon_recorders.specs.declared.happening.Kind.{Kind}
use Rattle.mon_recorders.specs.Happenings.{delivered, answers, record_of, disabled_of, is_local_kind}
use Rattle.mon_recorders.specs.Boards.{let_through, is_enabled_by}
use Rattle.mon_recorders.specs.Proper.{IsProperAt, IsProper, AreProper}
use Rattle.mon_recorders.proofs.Folds.{for_tools_same}
use Rattle.mon_words.specs.Words as word
use Rattle.mon_history.specs.declared.calls.Policy.{Policy}
use Rattle.mon_history.specs.Configuration.{Configuration, wanted}
use Rattle.mon_history.specs.Histories.{config_after, entries}
use Rattle.mon_history.specs.Heard.{is_called, is_once, enables_at, hears, once, heard_by}
use Rattle.mon_history.specs.Stands.{global_event, wanted_one, policy_bit, callbacks, BoardOf}
use Rattle.mon_history.specs.Laws.{LetThrough}
use Rattle.mon_history.proofs.Boards.{boards}

pub delivered_same : {A : Type 0} (f g : ℕ → Happening → Bool) (make : Happening → ℕ → A) (sites : List Site) (es : List Happening) → AreProper sites es
    → ((e : Happening) → IsProper sites e → (t : ℕ) → t < 6 → f t e ≡ g t e) → delivered f make es ≡ delivered g make es
delivered_same f g make sites [] p h = refl
delivered_same f g make sites (e ∷ es) p h = let a = for_tools_same (λ t. f t e) (λ t. g t e) (make e) 6 (h e p.0) in let b = delivered_same f g make sites es p.1 h in λ i. a i ++ b i

digit : (f : Event → Policy) (e : Event) (k j : ℕ) → k ≡ 2 * bit e + j → j < 2 → policy_bit (f (event_at (k / 2))) (k % 2) ≡ policy_bit (f e) j
digit f e k j is low =
    let a : k / 2 ≡ bit e = omega arith in let b : k % 2 ≡ j = omega arith in
    let c : event_at (k / 2) ≡ e = ap event_at a ∙ event_back e in λ i. policy_bit (f (c i)) (b i)

called : (p : Policy) → differ (policy_bit p 0) (policy_bit p 1) ≡ is_called p
called Policy.Nothing = refl
called Policy.Keep = refl
called Policy.Once = refl

asked : (p : Policy) → (not (policy_bit p 0) && policy_bit p 1) ≡ is_once p
asked Policy.Nothing = refl
asked Policy.Keep = refl
asked Policy.Once = refl

module _ (sites : List Site) (C : Configuration) (b : Board) (o : BoardOf sites C b) where
  bit_same : (t : ℕ) (e : Event) (j : ℕ) → t < 6 → j < 2 → is_bit (get_or b.callbacks t 0) (2 * bit e + j) ≡ policy_bit (C.calls t e) j
  bit_same t e j h low =
      let l = bit_lt e in
      ap (λ z. is_bit z (2 * bit e + j)) (o.callbacks_are t h) ∙ (packed_bit (λ k. policy_bit (C.calls t (event_at (k / 2))) (k % 2)) 34 (2 * bit e + j) (omega arith) ∙ digit (C.calls t) e (2 * bit e + j) j (omega arith) low)

  first_same : (t : ℕ) (e : Event) → t < 6 → is_bit (get_or b.callbacks t 0) (2 * bit e) ≡ policy_bit (C.calls t e) 0
  first_same t e h = let z : 2 * bit e ≡ 2 * bit e + 0 = omega arith in ap (is_bit (get_or b.callbacks t 0)) z ∙ bit_same t e 0 h (omega arith)

  called_same : (t : ℕ) (e : Event) → t < 6 → word.is_called (get_or b.callbacks t 0) e ≡ is_called (C.calls t e)
  called_same t e h = let x = first_same t e h in let y = bit_same t e 1 h (omega arith) in (λ i. differ (x i) (y i)) ∙ called (C.calls t e)

  once_same : (t : ℕ) (e : Event) → t < 6 → is_local e ≡ true → word.is_once (get_or b.callbacks t 0) e ≡ is_once (C.calls t e)
  once_same t e h l = let x = first_same t e h in let y = bit_same t e 1 h (omega arith) in (λ i. l i && (not (x i) && y i)) ∙ asked (C.calls t e)

  global_at : (j t : ℕ) → j < 5 → t < 6 → is_bit b.global (6 * j + t) ≡ C.wants t (global_event j)
  global_at j t l h = ap (λ z. is_bit z (6 * j + t)) o.global_is ∙ (packed_bit (λ k. C.wants (k % 6) (global_event (k / 6))) 30 (6 * j + t) (omega arith)
      ∙ (let x : (6 * j + t) % 6 ≡ t = omega arith in let y : (6 * j + t) / 6 ≡ j = omega arith in λ i. C.wants (x i) (global_event (y i))))

  global_same : (t : ℕ) (e : Event) → t < 6 → is_some (rank e) ≡ true → is_wanted b.global (rank e) t ≡ C.wants t e
  global_same t Event.Raise h p = global_at 0 t (omega arith) h
  global_same t Event.Reraise h p = global_at 1 t (omega arith) h
  global_same t Event.ExceptionHandled h p = global_at 2 t (omega arith) h
  global_same t Event.PyUnwind h p = global_at 3 t (omega arith) h
  global_same t Event.PyThrow h p = global_at 4 t (omega arith) h
  global_same t _ h p = absurd (cc)

  -- both bits of a place that has an event
  bits_same : (l : ℕ) (s : Slot) (t : ℕ) (e : Event) → l < length sites → t < 6 → slot_event (site_at sites l) s ≡ Some e → is_enabled (cell_at b l) s t ≡ (wanted C t (site_at sites l).code e && not (C.off l s t))
  bits_same l s t e low h is =
      let x : is_bit (cell_at b l).want (place s t) ≡ wanted C t (site_at sites l).code e = o.wants l s t low h ∙ ap (wanted_one C t (site_at sites l).code) is in
      let y = o.lives l s t low h in λ i. x i && y i

  enabled_same : (k : Kind) (e : Happening) (t : ℕ) → t < 6 → IsProperAt k sites e → is_enabled_by (cell_at b) b.global k t e.event ≡ enables_at k C sites t e
  enabled_same (Kind.Local l s) e t h p = bits_same l s t e.event p.within h p.event ∙ ap (λ c. wanted C t c e.event && not (C.off l s t)) p.code
  enabled_same (Kind.Ancillary l) e t h p = bits_same l Slot.Main t Event.Call p.within h p.call
  enabled_same Kind.Global e t h p = global_same t e.event h p

  pub hears_same : (e : Happening) → IsProper sites e → (t : ℕ) → t < 6 → (let_through b).hears t e ≡ (heard_by C sites).hears t e
  hears_same e p t h = let x = enabled_same e.kind e t h p in let y = called_same t e.event h in λ i. x i && y i

  asks_same : (k : Kind) (e : Happening) (t : ℕ) → t < 6 → IsProperAt k sites e → (is_local_kind k && word.is_once (get_or b.callbacks t 0) e.event) ≡ (is_local_kind k && is_once (C.calls t e.event))
  asks_same (Kind.Local l s) e t h p = once_same t e.event h p.local
  asks_same (Kind.Ancillary l) e t h p = refl
  asks_same Kind.Global e t h p = refl

  pub answers_same : (e : Happening) → IsProper sites e → (t : ℕ) → t < 6 → answers (let_through b) t e ≡ answers (heard_by C sites) t e
  answers_same e p t h = let x = hears_same e p t h in let y = asks_same e.kind e t h p in λ i. x i && y i

pub lets_through : LetThrough
lets_through sites J first W p s low =
    let C : Configuration = config_after J (entries 0 (take p W)) in let b : Board = after first (take p W) in let o = boards sites J first W s p low in record {
      hears = λ e t q h. hears_same sites C b o e q t h;
      answers_are = λ e t q h. answers_same sites C b o e q t h;
      records = λ i es q. delivered_same (let_through b).hears (heard_by C sites).hears (record_of i) sites es q (hears_same sites C b o);
      disables = λ i es q. delivered_same (answers (let_through b)) (answers (heard_by C sites)) (disabled_of i) sites es q (answers_same sites C b o);
    }
