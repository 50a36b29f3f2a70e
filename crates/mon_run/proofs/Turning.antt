-- Turns of a thread, step by step.
use Rattle.std.proofs.Common.{◌≡◌, ℕ, zero, suc, ◌+◌, ◌<◌, true, false, ◌&&◌, List, [], ◌∷◌, length, get_or, set, cond, Some, Result, Ok, Err, OnOk, slice_get, sym, refl, ap, ◌∙◌, subst, arith, lt-ltb}
use Rattle.mon_code.specs.Programs.{Parts}
use Rattle.mon_code.specs.Sites.{sites_of}
use Rattle.mon_recorders.specs.Happenings.{Filter}
use Rattle.mon_machine.specs.State.{goes}
use Rattle.mon_machine.specs.Advances.{Progress}
use Rattle.mon_history.specs.Heard.{heard_by}
use Rattle.mon_history.specs.Histories.{config_after}
use Rattle.mon_run.specs.Serial.{World, may_step, steps_by, steps_one, turn}

pub turn_none : (p : Parts) (bound t : ℕ) (w : World) → turn p bound t 0 w ≡ w
unfolding turn
turn_none p bound t w = refl

pub turn_more : (p : Parts) (bound t n : ℕ) (w : World) → turn p bound t (suc n) w ≡ steps_one p bound t (slice_get (turn p bound t n w).threads t) (turn p bound t n w)
unfolding turn
turn_more p bound t n w = refl

-- what a step of a thread hears
abbrev pub heard_in : Parts → World → Filter
heard_in p w = heard_by (config_after w.journal w.history) (sites_of p)

-- a thread that cannot step stays
stays_one : (p : Parts) (bound t : ℕ) (q : Progress) (w : World) → may_step bound q ≡ false → steps_one p bound t (Some q) w ≡ w
stays_one p bound t q w e = ap (λ b. cond b (steps_by p t (heard_in p w) q w) w) e

pub turn_idle : (p : Parts) (bound t k : ℕ) (q : Progress) (w : World) → slice_get w.threads t ≡ Some q → may_step bound q ≡ false → turn p bound t k w ≡ w
turn_idle p bound t zero q w at e = turn_none p bound t w
turn_idle p bound t (suc k) q w at e = let i = turn_idle p bound t k q w at e in
    turn_more p bound t k w ∙ ((λ j. steps_one p bound t (slice_get (i j).threads t) (i j)) ∙ (ap (λ o. steps_one p bound t o w) at ∙ stays_one p bound t q w e))

pub turn_sum : (p : Parts) (bound t m k : ℕ) (w : World) → turn p bound t (m + k) w ≡ turn p bound t k (turn p bound t m w)
turn_sum p bound t m zero w = let e : m + 0 ≡ m = omega arith in ap (λ n. turn p bound t n w) e ∙ sym (turn_none p bound t (turn p bound t m w))
turn_sum p bound t m (suc k) w = let e : m + suc k ≡ suc (m + k) = omega arith in
    ap (λ n. turn p bound t n w) e ∙ (turn_more p bound t (m + k) w ∙ (ap (λ z. steps_one p bound t (slice_get z.threads t) z) (turn_sum p bound t m k w) ∙ sym (turn_more p bound t k (turn p bound t m w))))

pub steps_one_at : (p : Parts) (bound t : ℕ) (q : Progress) (w : World) → may_step bound q ≡ true → steps_one p bound t (Some q) w ≡ steps_by p t (heard_in p w) q w
steps_one_at p bound t q w e = ap (λ b. cond b (steps_by p t (heard_in p w) q w) w) e

pub may : (bound : ℕ) (q : Progress) → goes q.state.mode ≡ true → q.steps < bound → may_step bound q ≡ true
may bound q g l = (λ i. g i && lt-ltb q.steps bound l i)

pub set_at : {A : Type 0} (xs : List A) (t : ℕ) (a b : A) → slice_get xs t ≡ Some a → slice_get (set xs t b) t ≡ Some b
set_at [] t a b e = absurd (cc)
set_at (x ∷ xs) zero a b e = refl
set_at (x ∷ xs) (suc t) a b e = set_at xs t a b e

pub set_again : {A : Type 0} (xs : List A) (t : ℕ) (a b : A) → set (set xs t a) t b ≡ set xs t b
set_again [] t a b = refl
set_again (x ∷ xs) zero a b = refl
set_again (x ∷ xs) (suc t) a b = ap (λ z. x ∷ z) (set_again xs t a b)

pub set_same : {A : Type 0} (xs : List A) (t : ℕ) (a : A) → slice_get xs t ≡ Some a → set xs t a ≡ xs
set_same [] t a e = refl
set_same (x ∷ xs) zero a e = let q : x ≡ a = cc in ap (λ z. z ∷ xs) (sym q)
set_same (x ∷ xs) (suc t) a e = ap (λ z. x ∷ z) (set_same xs t a e)

-- what follows where an answer is Ok
pub on_ok : {A B : Type 0} (r : Result A B) (P Q : Type 0) → (P → Q) → OnOk r P → OnOk r Q
on_ok (Ok x) P Q f h = f h
on_ok (Err e) P Q f h = tt

pub ok_of : {A B : Type 0} (r : Result A B) (x : A) (P : Type 0) → r ≡ Ok x → OnOk r P → P
ok_of r x P e h = subst (λ z. OnOk z P) e h

pub read_at : {A : Type 0} (xs : List A) (i : ℕ) (x : A) → i < length xs → x ≡ get_or xs i x → slice_get xs i ≡ Some x
read_at [] i x h e = absurd (omega arith)
read_at (y ∷ ys) zero x h e = ap Some (sym e)
read_at (y ∷ ys) (suc i) x h e = read_at ys i x (omega arith) e
