-- Policies that are changed one by one.
use Rattle.std.proofs.Common.{◌≡◌, ℕ, suc, ◌<◌, ◌≤◌, Bool, true, false, cond, List, length, get_or, set, refl, sym, ap, ◌∙◌, arith, length-set, get_or-set_same, get_or-set_other}
use mathlib.Core.Logic.{dite}
use native.Mathlib.Decide.{ℕ_discrete}
use Rattle.mon_events.specs.Events.{bit, event_at}
use Rattle.mon_events.specs.Sets.{has}
use Rattle.mon_events.specs.declared.event.Event.{Event}
use Rattle.mon_events.proofs.Listed.{bit_lt, event_back}
use Rattle.mon_history.specs.declared.calls.Policy.{Policy}

-- those of the first n events were changed where the set w has the event
pub record Policied (w : ℕ) (a : Policy) (n : ℕ) (old now : List Policy) : Type 0 where
  pub long : length now ≡ 17
  pub done : (k : ℕ) → k < n → get_or now k Policy.Nothing ≡ cond (has w (event_at k)) a (get_or old k Policy.Nothing)
  pub left : (k : ℕ) → n ≤ k → get_or now k Policy.Nothing ≡ get_or old k Policy.Nothing

pub policied_none : (w : ℕ) (a : Policy) (old : List Policy) → length old ≡ 17 → Policied w a 0 old old
policied_none w a old h = record { long = h; done = λ k l. absurd (omega arith); left = λ k l. refl }

pub policied_set : (w : ℕ) (a : Policy) (n m : ℕ) (old now : List Policy) → m ≡ suc n → n < 17 → has w (event_at n) ≡ true → Policied w a n old now → Policied w a m old (set now n a)
policied_set w a n m old now e low known p = record {
  long = length-set now n a ∙ p.long;
  done = λ k l. dite (ℕ_discrete k n)
      (λ is. here k is)
      (λ ne. get_or-set_other now n k a Policy.Nothing ne ∙ p.done k (omega arith));
  left = λ k l. get_or-set_other now n k a Policy.Nothing (λ is. omega arith) ∙ p.left k (omega arith);
}
  where
    here : (k : ℕ) → k ≡ n → get_or (set now n a) k Policy.Nothing ≡ cond (has w (event_at k)) a (get_or old k Policy.Nothing)
    here k is = ap (λ z. get_or (set now n a) z Policy.Nothing) is ∙ (get_or-set_same now n a Policy.Nothing (omega (arith, p.long)) ∙ sym (ap (λ z. cond (has w (event_at z)) a (get_or old k Policy.Nothing)) is ∙ ap (λ b. cond b a (get_or old k Policy.Nothing)) known))

pub policied_kept : (w : ℕ) (a : Policy) (n m : ℕ) (old now : List Policy) → m ≡ suc n → has w (event_at n) ≡ false → Policied w a n old now → Policied w a m old now
policied_kept w a n m old now e known p = record {
  long = p.long;
  done = λ k l. dite (ℕ_discrete k n) (λ is. p.left k (omega arith) ∙ sym (ap (λ z. cond (has w (event_at z)) a (get_or old k Policy.Nothing)) is ∙ ap (λ b. cond b a (get_or old k Policy.Nothing)) known)) (λ ne. p.done k (omega arith));
  left = λ k l. p.left k (omega arith);
}

pub policied_all : (w : ℕ) (a : Policy) (n : ℕ) (old now : List Policy) → 17 ≤ n → Policied w a n old now → (e : Event) → get_or now (bit e) Policy.Nothing ≡ cond (has w e) a (get_or old (bit e) Policy.Nothing)
policied_all w a n old now h p e = p.done (bit e) (let l = bit_lt e in omega arith) ∙ ap (λ v. cond (has w v) a (get_or old (bit e) Policy.Nothing)) (event_back e)
