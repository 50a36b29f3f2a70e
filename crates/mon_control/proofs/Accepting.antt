-- Calls that are accepted.
use Rattle.std.proofs.Common.{◌≡◌, ℕ, ◌^◌, ◌<◌, Bool, true, false, not, ◌&&◌, cond, Option, Some, None, is_some, is_none, bit_and, refl, sym, ap, ◌∙◌, arith, eqb-true, ℤ}
use Rattle.std.proofs.lemmas.Nat.{and_le_r}
use Rattle.mon_events.specs.Events.{is_local}
use Rattle.mon_events.specs.declared.set.EventSet.{EventSet}
use Rattle.mon_events.specs.Sets.{normal_set, is_global_set, is_local_set, single, set_of}
use Rattle.mon_events.specs.Events.{is_ancillary}
use Rattle.mon_history.specs.Configuration.{Configuration}
use Rattle.mon_history.specs.Registry.{tool, ensure, with_tool, refused, is_accepted, is_registrable, reply, due, or_due, change, next, is_stopper, stops}
use Rattle.mon_history.specs.declared.calls.ControlCall.{ControlCall}
use Rattle.mon_history.specs.declared.calls.Policy.{Policy}
use Rattle.mon_history.specs.declared.calls.Reply.{Reply}
use Rattle.mon_events.proofs.Constants.{globals, locals}

pub both : (a b : Bool) → (a && b) ≡ true → (a ≡ true) × (b ≡ true)
both true b e = (refl, e)
both false b e = absurd (cc)

none_is : {A : Type 0} (o : Option A) → is_none o ≡ true → o ≡ None
none_is None e = refl
none_is (Some x) e = absurd (cc)

passes : (id : ℤ) (o : Option ℕ) (rest : ℕ → Option Reply) → is_none (with_tool id o rest) ≡ true → (t : ℕ) × (o ≡ Some t) × (is_none (rest t) ≡ true)
passes id (Some t) rest e = (t, refl, e)
passes id None rest e = absurd (cc)

ensured : (ok : Bool) (r : Reply) (rest : Option Reply) → is_none (ensure ok r rest) ≡ true → (ok ≡ true) × (is_none rest ≡ true)
ensured true r rest e = (refl, e)
ensured false r rest e = absurd (cc)

some_tool : (o : Option ℕ) (t : ℕ) → o ≡ Some t → is_some o ≡ true
some_tool o t e = ap is_some e

-- what is known of a call for which the world is stopped
pub accepted_events : (C : Configuration) (id : ℤ) (set : EventSet) → stops C (ControlCall.SetEvents id set) ≡ true → (is_some (tool id) ≡ true) × (is_global_set set.0 ≡ true)
accepted_events C id set e =
    let a = both (is_accepted C (ControlCall.SetEvents id set)) true e in
    let p = passes id (tool id) (λ t. ensure (is_some (C.tools t)) (Reply.BadTool id) (ensure (is_global_set set.0) (Reply.BadEvent set) None)) a.0 in
    let q = ensured (is_some (C.tools p.0)) (Reply.BadTool id) (ensure (is_global_set set.0) (Reply.BadEvent set) None) p.2 in
    (some_tool (tool id) p.0 p.1, (ensured (is_global_set set.0) (Reply.BadEvent set) None q.1).0)

pub accepted_local : (C : Configuration) (id : ℤ) (code : ℕ) (set : EventSet) → stops C (ControlCall.SetLocalEvents id code set) ≡ true → (is_some (tool id) ≡ true) × (is_local_set set.0 ≡ true)
accepted_local C id code set e =
    let a = both (is_accepted C (ControlCall.SetLocalEvents id code set)) true e in
    let p = passes id (tool id) (λ t. ensure (is_some (C.tools t)) (Reply.BadTool id) (ensure (is_local_set set.0) (Reply.BadEvent set) None)) a.0 in
    let q = ensured (is_some (C.tools p.0)) (Reply.BadTool id) (ensure (is_local_set set.0) (Reply.BadEvent set) None) p.2 in
    (some_tool (tool id) p.0 p.1, (ensured (is_local_set set.0) (Reply.BadEvent set) None q.1).0)

pub accepted_callback : (C : Configuration) (id : ℤ) (set : EventSet) (policy : Policy) → stops C (ControlCall.RegisterCallback id set policy) ≡ true → (is_some (tool id) ≡ true) × (is_some (single set.0) ≡ true)
accepted_callback C id set policy e =
    let a = both (is_accepted C (ControlCall.RegisterCallback id set policy)) true e in
    let p = passes id (tool id) (λ t. ensure (is_registrable set.0 policy) (Reply.BadEvent set) None) a.0 in
    let q = ensured (is_registrable set.0 policy) (Reply.BadEvent set) None p.2 in
    (some_tool (tool id) p.0 p.1, (both (is_some (single set.0)) _ q.0).0)

-- a normalised set that fits is below 2^17
pub global_small : (set : ℕ) → is_global_set set ≡ true → normal_set set < 2 ^ 17
global_small set e =
    let a : bit_and (normal_set set) (set_of (λ v. not (is_ancillary v))) ≡ normal_set set = eqb-true (bit_and (normal_set set) (set_of (λ v. not (is_ancillary v)))) (normal_set set) e in
    let b = and_le_r (normal_set set) 131059 in
    let d : bit_and (normal_set set) 131059 ≡ normal_set set = ap (bit_and (normal_set set)) (sym globals) ∙ a in omega arith

pub local_small : (set : ℕ) → is_local_set set ≡ true → normal_set set < 2 ^ 17
local_small set e =
    let a : bit_and (normal_set set) (set_of is_local) ≡ normal_set set = eqb-true (bit_and (normal_set set) (set_of is_local)) (normal_set set) e in
    let b = and_le_r (normal_set set) 75747 in
    let d : bit_and (normal_set set) 75747 ≡ normal_set set = ap (bit_and (normal_set set)) (sym locals) ∙ a in omega arith

-- the reply of an accepted call
pub stop_due : (C : Configuration) (call : ControlCall) → stops C call ≡ true → due C call ≡ reply C call
stop_due C call e = let a = both (is_accepted C call) (is_stopper call) e in sym (ap (λ o. or_due o (due C call)) (none_is (refused C call) a.0))

pub not_stopper : (C : Configuration) (call : ControlCall) → stops C call ≡ true → is_stopper call ≡ true
not_stopper C call e = (both (is_accepted C call) (is_stopper call) e).1

pub stops_next : (C : Configuration) (call : ControlCall) → stops C call ≡ true → next C call ≡ change call C
stops_next C call e = let a = both (is_accepted C call) (is_stopper call) e in ap (λ (b : Bool). cond b (change call C) C) a.0

same_both : (b : Bool) (C : Configuration) → cond b C C ≡ C
same_both true C = refl
same_both false C = refl

refused_rest : (b : Bool) (C D : Configuration) → (b && true) ≡ false → cond b D C ≡ C
refused_rest true C D e = absurd (cc)
refused_rest false C D e = refl

-- a call that only asks
pub asks_next : (C : Configuration) (call : ControlCall) → change call C ≡ C → next C call ≡ C
asks_next C call e = ap (λ (D : Configuration). cond (is_accepted C call) D C) e ∙ same_both (is_accepted C call) C

-- a call of a kind for which the world is stopped that is refused
pub refused_next : (C : Configuration) (call : ControlCall) → is_stopper call ≡ true → stops C call ≡ false → next C call ≡ C
refused_next C call k e = refused_rest (is_accepted C call) C (change call C) (ap (λ b. is_accepted C call && b) (sym k) ∙ e)
