-- What a change of one tool's bits means for the configuration.
use Rattle.std.proofs.Common.{◌≡◌, ℕ, zero, suc, ◌^◌, ◌<◌, ◌≤◌, false, cond, eqb, List, [], ◌∷◌, length, get_or, set, Option, refl, sym, ap, ◌∙◌, subst, arith, eq-eqb, ne_eqb, get_or-set_same, get_or-set_other, length-set}
use mathlib.Core.Logic.{dite}
use native.Mathlib.Decide.{ℕ_discrete, dec_le}
use Rattle.mon_events.specs.Events.{bit}
use Rattle.mon_events.specs.Sets.{has}
use Rattle.mon_events.specs.Events.{events}
use Rattle.mon_events.specs.declared.event.Event.{Event}
use Rattle.mon_events.specs.declared.set.EventSet.{EventSet}
use Rattle.mon_history.specs.Configuration.{put}
use Rattle.mon_history.specs.Kept.{config_of, set_at, no_tool, no_set, IsTool, IsKept}
use Rattle.mon_history.specs.declared.calls.Policy.{Policy}
use Rattle.mon_history.specs.declared.config.Config.{Config}
use Rattle.mon_history.specs.declared.config.Tool.{Tool}
use Rattle.mon_instrument.proofs.Numbers.{any_default}

-- a field of the tools after one tool was replaced
pub field_put : {A : Type 0} (f : Tool → A) (ts : List Tool) (t : ℕ) (x : Tool) → t < length ts → (n : ℕ) → f (get_or (set ts t x) n no_tool) ≡ put (λ m. f (get_or ts m no_tool)) t (f x) n
field_put f ts t x low n = dite (ℕ_discrete n t)
    (λ is. subst (λ z. f (get_or (set ts z x) n no_tool) ≡ f x) is (ap f (get_or-set_same ts n x no_tool (omega arith))) ∙ sym (ap (λ b. cond b (f x) (f (get_or ts n no_tool))) (eq-eqb n t is)))
    (λ ne. ap f (get_or-set_other ts t n x no_tool ne) ∙ sym (ap (λ b. cond b (f x) (f (get_or ts n no_tool))) (ne_eqb n t ne)))

put_same : {A : Type 0} (g : ℕ → A) (t n : ℕ) → put g t (g t) n ≡ g n
put_same g t n = dite (ℕ_discrete n t)
    (λ is. ap (λ b. cond b (g t) (g n)) (eq-eqb n t is) ∙ ap g (sym is))
    (λ ne. ap (λ b. cond b (g t) (g n)) (ne_eqb n t ne))

pub field_same : {A : Type 0} (f : Tool → A) (ts : List Tool) (t : ℕ) (x : Tool) → t < length ts → f x ≡ f (get_or ts t no_tool) → (n : ℕ) → f (get_or (set ts t x) n no_tool) ≡ f (get_or ts n no_tool)
field_same f ts t x low e n = field_put f ts t x low n ∙ (ap (λ z. put (λ m. f (get_or ts m no_tool)) t z n) e ∙ put_same (λ m. f (get_or ts m no_tool)) t n)

abbrev calls_of : Tool → Event → Policy
calls_of x e = get_or x.policies (bit e) Policy.Nothing

module _ (c : Config) (t : ℕ) (x d : Tool) (six : length c.tools ≡ 6) (low : t < 6) where
  same_tool : get_or c.tools t d ≡ get_or c.tools t no_tool
  same_tool = any_default c.tools t d no_tool (omega arith)

  within : t < length c.tools
  within = omega arith

  same : {A : Type 0} (f : Tool → A) → f x ≡ f (get_or c.tools t d) → (n : ℕ) → f (get_or (set c.tools t x) n no_tool) ≡ f (get_or c.tools n no_tool)
  same f e = field_same f c.tools t x within (e ∙ ap f same_tool)

  pub changes_name : (a : Option (List ℕ)) → x ≡ record (get_or c.tools t d) { name = a } → config_of (record c { tools = set c.tools t x }) ≡ record (config_of c) { tools = put (config_of c).tools t a }
  changes_name a e =
      let p = field_put (λ z. z.name) c.tools t x within in let q = same (λ z. z.wants) (ap (λ (z : Tool). z.wants) e) in
      let s = same (λ z. z.policies) (ap (λ (z : Tool). z.policies) e) in
      let p' : (n : ℕ) → (get_or (set c.tools t x) n no_tool).name ≡ put (config_of c).tools t a n = λ n. p n ∙ ap (λ (z : Tool). put (config_of c).tools t z.name n) e in
      λ i. record { tools = λ n. p' n i; wants = λ n v. has (q n i).0 v; local = (config_of c).local; calls = λ n v. get_or (s n i) (bit v) Policy.Nothing; off = λ l s u. false }

  pub changes_wants : (a : EventSet) → x ≡ record (get_or c.tools t d) { wants = a } → config_of (record c { tools = set c.tools t x }) ≡ record (config_of c) { wants = put (config_of c).wants t (has a.0) }
  changes_wants a e =
      let p = same (λ z. z.name) (ap (λ (z : Tool). z.name) e) in let q = field_put (λ z. has z.wants.0) c.tools t x within in
      let s = same (λ z. z.policies) (ap (λ (z : Tool). z.policies) e) in
      let q' : (n : ℕ) → has (get_or (set c.tools t x) n no_tool).wants.0 ≡ put (config_of c).wants t (has a.0) n = λ n. q n ∙ ap (λ (z : Tool). put (config_of c).wants t (has z.wants.0) n) e in
      λ i. record { tools = λ n. p n i; wants = λ n. q' n i; local = (config_of c).local; calls = λ n v. get_or (s n i) (bit v) Policy.Nothing; off = λ l s u. false }

  pub changes_policy : (w : ℕ) (a : Policy) (next : List Policy) → ((v : Event) → get_or next (bit v) Policy.Nothing ≡ cond (has w v) a (get_or (get_or c.tools t d).policies (bit v) Policy.Nothing)) → x ≡ record (get_or c.tools t d) { policies = next }
      → config_of (record c { tools = set c.tools t x }) ≡ record (config_of c) { calls = put (config_of c).calls t (λ v. cond (has w v) a ((config_of c).calls t v)) }
  changes_policy w a next g e =
      let p = same (λ z. z.name) (ap (λ (z : Tool). z.name) e) in let q = same (λ z. z.wants) (ap (λ (z : Tool). z.wants) e) in
      let s = field_put calls_of c.tools t x within in
      let u : calls_of x ≡ (λ v. cond (has w v) a ((config_of c).calls t v)) = ap calls_of e ∙ ((λ i v. g v i) ∙ ap (λ (z : Tool). λ (v : Event). cond (has w v) a (get_or z.policies (bit v) Policy.Nothing)) same_tool) in
      let s' : (n : ℕ) → calls_of (get_or (set c.tools t x) n no_tool) ≡ put (config_of c).calls t (λ v. cond (has w v) a ((config_of c).calls t v)) n = λ n. s n ∙ ap (λ z. put (config_of c).calls t z n) u in
      λ i. record { tools = λ n. p n i; wants = λ n v. has (q n i).0 v; local = (config_of c).local; calls = λ n. s' n i; off = λ l s u. false }

  pub keeps_tools : (codes : ℕ) → IsKept codes c → (IsTool (get_or c.tools t d) → IsTool x) → IsKept codes (record c { tools = set c.tools t x })
  keeps_tools codes k h = record {
    tools = λ n l. dite (ℕ_discrete n t)
        (λ is. let here : get_or (set c.tools t x) n no_tool ≡ x = subst (λ z. get_or (set c.tools z x) n no_tool ≡ x) is (get_or-set_same c.tools n x no_tool (omega arith)) in
        subst IsTool (sym here) (h (subst IsTool (sym same_tool) (k.tools t low))))
        (λ ne. subst IsTool (sym (get_or-set_other c.tools t n x no_tool ne)) (k.tools n l));
    local = k.local;
    wide = k.wide;
    rows = k.rows;
  }

module _ (rows : List (List EventSet)) (t code : ℕ) (a : EventSet) (width : ℕ) (wide : length rows ≡ width) (six : (k : ℕ) → k < width → length (get_or rows k []) ≡ 6) (low : t < 6) (within : code < width) where
  row : List EventSet
  row = set (get_or rows code []) t a

  next : List (List EventSet)
  next = set rows code (set (get_or rows code []) t a)

  here : get_or (set rows code (set (get_or rows code []) t a)) code [] ≡ set (get_or rows code []) t a
  here = get_or-set_same rows code (set (get_or rows code []) t a) [] (omega arith)

  pub sets_put : (n k : ℕ) → has (set_at (set rows code (set (get_or rows code []) t a)) k n) ≡ put (λ m j. has (set_at rows j m)) t (put (λ j. has (set_at rows j t)) code (has a.0)) n k
  sets_put n k = dite (ℕ_discrete k code)
      (λ is. let l = six code within in
      ap (λ j. has (set_at (set rows code (set (get_or rows code []) t a)) j n)) is ∙ (ap (λ (r : List EventSet). has (get_or r n no_set).0) here
      ∙ dite (ℕ_discrete n t)
      (λ y. ap (λ m. has (get_or (set (get_or rows code []) t a) m no_set).0) y ∙ (ap (λ (z : EventSet). has z.0) (get_or-set_same (get_or rows code []) t a no_set (omega arith))
      ∙ sym (ap (λ b. cond b (put (λ j. has (set_at rows j t)) code (has a.0)) (λ j. has (set_at rows j n)) k) (eq-eqb n t y) ∙ ap (λ b. cond b (has a.0) (has (set_at rows k t))) (eq-eqb k code is))))
      (λ ne. ap (λ (z : EventSet). has z.0) (get_or-set_other (get_or rows code []) t n a no_set ne)
      ∙ (ap (λ j. has (set_at rows j n)) (sym is) ∙ sym (ap (λ b. cond b (put (λ j. has (set_at rows j t)) code (has a.0)) (λ j. has (set_at rows j n)) k) (ne_eqb n t ne))))))
      (λ ne. ap (λ (r : List EventSet). has (get_or r n no_set).0) (get_or-set_other rows code k (set (get_or rows code []) t a) [] ne)
      ∙ dite (ℕ_discrete n t)
      (λ y. ap (λ m. has (set_at rows k m)) y ∙ sym (ap (λ b. cond b (put (λ j. has (set_at rows j t)) code (has a.0)) (λ j. has (set_at rows j n)) k) (eq-eqb n t y) ∙ ap (λ b. cond b (has a.0) (has (set_at rows k t))) (ne_eqb k code ne)))
      (λ z. sym (ap (λ b. cond b (put (λ j. has (set_at rows j t)) code (has a.0)) (λ j. has (set_at rows j n)) k) (ne_eqb n t z))))

pub changes_local : (codes : ℕ) (c : Config) (t code : ℕ) (a : EventSet) → t < 6 → code < codes → IsKept codes c
    → config_of (record c { local = set c.local code (set (get_or c.local code []) t a) }) ≡ record (config_of c) { local = put (config_of c).local t (put ((config_of c).local t) code (has a.0)) }
changes_local codes c t code a low within k =
    let p = sets_put c.local t code a codes k.wide k.rows low within in
    λ i. record (config_of c) { local = λ n j. p n j i }

small_row : (r : List EventSet) (t n : ℕ) (a : EventSet) → a.0 < 2 ^ events → ((m : ℕ) → (get_or r m no_set).0 < 2 ^ events) → (get_or (set r t a) n no_set).0 < 2 ^ events
small_row [] t n a h g = g n
small_row (x ∷ xs) zero zero a h g = h
small_row (x ∷ xs) zero (suc n) a h g = g (suc n)
small_row (x ∷ xs) (suc t) zero a h g = g zero
small_row (x ∷ xs) (suc t) (suc n) a h g = small_row xs t n a h (λ m. g (suc m))

pub keeps_local : (codes : ℕ) (c : Config) (t code : ℕ) (a : EventSet) → a.0 < 2 ^ events → IsKept codes c → IsKept codes (record c { local = set c.local code (set (get_or c.local code []) t a) })
keeps_local codes c t code a h k =
    let r : List EventSet = get_or c.local code [] in
    let at : code < length c.local → get_or (set c.local code (set r t a)) code [] ≡ set r t a = λ l. get_or-set_same c.local code (set r t a) [] l in record {
      tools = k.tools;
      local = λ j n. dite (ℕ_discrete j code)
          (λ is. dite (dec_le (length c.local) code)
          (λ past. subst (λ (z : List (List EventSet)). set_at z j n < 2 ^ events) (sym (set_past c.local code (set r t a) past)) (k.local j n))
          (λ l. subst (λ (z : List EventSet). (get_or z n no_set).0 < 2 ^ events) (sym (ap (λ z. get_or (set c.local code (set r t a)) z []) is ∙ at (omega arith))) (small_row r t n a h (k.local code))))
          (λ ne. subst (λ (z : List EventSet). (get_or z n no_set).0 < 2 ^ events) (sym (get_or-set_other c.local code j (set r t a) [] ne)) (k.local j n));
      wide = length-set c.local code (set r t a) ∙ k.wide;
      rows = λ j l. dite (ℕ_discrete j code)
          (λ is. ap (λ (z : List EventSet). length z) (ap (λ z. get_or (set c.local code (set r t a)) z []) is ∙ at (omega (arith, k.wide))) ∙ (length-set r t a ∙ k.rows code (omega arith)))
          (λ ne. ap (λ (z : List EventSet). length z) (get_or-set_other c.local code j (set r t a) [] ne) ∙ k.rows j l);
    }
  where
    set_past : (xs : List (List EventSet)) (i : ℕ) (y : List EventSet) → length xs ≤ i → set xs i y ≡ xs
    set_past [] i y h = refl
    set_past (x ∷ xs) zero y h = absurd (omega arith)
    set_past (x ∷ xs) (suc i) y h = ap (λ (z : List (List EventSet)). x ∷ z) (set_past xs i y (omega arith))
