-- The empty configuration.
use Rattle.std.proofs.Common.{◌≡◌, ℕ, zero, suc, ◌<◌, false, List, [], ◌∷◌, length, get_or, None, refl, sym, ap, ◌∙◌, subst, arith}
use Rattle.std.specs.Prelude.{replicate}
use Rattle.mon_events.specs.Events.{bit}
use Rattle.mon_events.specs.declared.event.Event.{Event}
use Rattle.mon_events.specs.declared.set.EventSet.{EventSet}
use Rattle.mon_events.specs.Sets.{has}
use Rattle.mon_events.specs.Events.{events}
use Rattle.mon_history.specs.Configuration.{nothing}
use Rattle.mon_history.specs.Kept.{config_of, set_at, no_tool, no_set, IsKept}
use Rattle.mon_history.specs.declared.calls.Policy.{Policy}
use Rattle.mon_history.specs.declared.config.Config.{Config}
use Rattle.mon_history.specs.declared.config.Tool.{Tool}
use Rattle.mon_control.specs.View.{empty_tool}

abbrev pub tools : List Tool
tools = empty_tool ∷ empty_tool ∷ empty_tool ∷ empty_tool ∷ empty_tool ∷ empty_tool ∷ []

field : {A : Type 0} (f : Tool → A) (a : A) → f empty_tool ≡ a → f no_tool ≡ a → (t : ℕ) → f (get_or tools t no_tool) ≡ a
field f a e n zero = e
field f a e n (suc zero) = e
field f a e n (suc (suc zero)) = e
field f a e n (suc (suc (suc zero))) = e
field f a e n (suc (suc (suc (suc zero)))) = e
field f a e n (suc (suc (suc (suc (suc zero))))) = e
field f a e n (suc (suc (suc (suc (suc (suc t)))))) = n

has_none : (e : Event) → has 0 e ≡ false
has_none Event.Branch = refl
has_none Event.Call = refl
has_none Event.CRaise = refl
has_none Event.CReturn = refl
has_none Event.ExceptionHandled = refl
has_none Event.Instruction = refl
has_none Event.Jump = refl
has_none Event.Line = refl
has_none Event.PyResume = refl
has_none Event.PyReturn = refl
has_none Event.PyStart = refl
has_none Event.PyThrow = refl
has_none Event.PyUnwind = refl
has_none Event.PyYield = refl
has_none Event.Raise = refl
has_none Event.Reraise = refl
has_none Event.StopIteration = refl

same_item : {A : Type 0} (n k : ℕ) (a : A) → get_or (replicate n a) k a ≡ a
same_item zero k a = refl
same_item (suc n) zero a = refl
same_item (suc n) (suc k) a = same_item n k a

row_item : (xs : List EventSet) (t : ℕ) → xs ≡ replicate 6 no_set → (get_or xs t no_set).0 ≡ 0
row_item xs t e = ap (λ (z : List EventSet). (get_or z t no_set).0) e ∙ ap (λ (z : EventSet). z.0) (same_item 6 t no_set)

no_row : (n code t : ℕ) → set_at (replicate n (replicate 6 no_set)) code t ≡ 0
no_row zero code t = refl
no_row (suc n) zero t = row_item (replicate 6 no_set) t refl
no_row (suc n) (suc code) t = no_row n code t

row_long : (n code : ℕ) → code < n → length (get_or (replicate n (replicate 6 no_set)) code []) ≡ 6
row_long zero code h = absurd (omega arith)
row_long (suc n) zero h = refl
row_long (suc n) (suc code) h = row_long n code (omega arith)

rows_long : (n : ℕ) (r : List EventSet) → length (replicate n r) ≡ n
rows_long zero r = refl
rows_long (suc n) r = omega (arith, rows_long n r)

no_policy : (e : Event) → get_or (replicate 17 Policy.Nothing) (bit e) Policy.Nothing ≡ Policy.Nothing
no_policy e = same_item 17 (bit e) Policy.Nothing

pub empty_is : (n : ℕ) (c : Config) → c.tools ≡ tools → c.local ≡ replicate n (replicate 6 no_set) → config_of c ≡ nothing
empty_is n c a b =
    let d : c ≡ record c { tools = tools; local = replicate n (replicate 6 no_set) } = λ i. record c { tools = a i; local = b i } in
    let q : (t : ℕ) (e : Event) → has (get_or tools t no_tool).wants.0 e ≡ false = λ t e. ap (λ z. has z e) (field (λ x. x.wants.0) 0 refl refl t) ∙ has_none e in
    let l : (t code : ℕ) (e : Event) → has (set_at (replicate n (replicate 6 no_set)) code t) e ≡ false = λ t code e. ap (λ z. has z e) (no_row n code t) ∙ has_none e in
    let s : (t : ℕ) (e : Event) → get_or (get_or tools t no_tool).policies (bit e) Policy.Nothing ≡ Policy.Nothing = λ t e. field (λ x. get_or x.policies (bit e) Policy.Nothing) Policy.Nothing (no_policy e) refl t in
    ap config_of d ∙ (λ i. record { tools = λ t. field (λ x. x.name) None refl refl t i; wants = λ t e. q t e i; local = λ t code e. l t code e i; calls = λ t e. s t e i; off = λ l s t. false })

pub empty_kept : (n : ℕ) (c : Config) → c.tools ≡ tools → c.local ≡ replicate n (replicate 6 no_set) → IsKept n c
empty_kept n c a b =
    let d : record c { tools = tools; local = replicate n (replicate 6 no_set) } ≡ c = λ i. record c { tools = sym a i; local = sym b i } in
    subst (λ (z : Config). IsKept n z) d (record {
      tools = λ t low. record { wants = let w = field (λ x. x.wants.0) 0 refl refl t in omega arith; policies = long t low };
      local = λ code t. let w = no_row n code t in omega arith;
      wide = rows_long n (replicate 6 no_set);
      rows = λ code h. row_long n code h;
    })
  where
    long : (t : ℕ) → t < 6 → length (get_or tools t no_tool).policies ≡ events
    long zero h = refl
    long (suc zero) h = refl
    long (suc (suc zero)) h = refl
    long (suc (suc (suc zero))) h = refl
    long (suc (suc (suc (suc zero)))) h = refl
    long (suc (suc (suc (suc (suc zero))))) h = refl
    long (suc (suc (suc (suc (suc (suc t)))))) h = absurd (omega arith)
