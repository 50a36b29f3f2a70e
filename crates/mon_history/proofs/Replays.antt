-- The sets and callbacks after a journal are those after a word history that stands for it.
use Rattle.std.proofs.Common.{◌≡◌, ℕ, zero, suc, ◌+◌, ◌<◌, ◌≤◌, Bool, true, false, ◌&&◌, cond, List, [], ◌∷◌, ◌++◌, length, take, Option, Some, None, slice_get, is_some, sym, refl, ap, ◌∙◌, subst, arith, length-append, nat_abs}
use Rattle.std.proofs.lemmas.List.{take_all}
use Rattle.mon_events.specs.Sets.{has, normal_set}
use Rattle.mon_words.specs.declared.history.Board.{Board}
use Rattle.mon_words.specs.declared.history.Mark.{Mark}
use Rattle.mon_words.specs.declared.history.Mark.TheVariants.{Off, Put}
use Rattle.mon_history.specs.declared.calls.ControlCall.{ControlCall}
use Rattle.mon_code.specs.declared.site.Site.{Site}
use Rattle.mon_history.specs.declared.journal.Entry.{Entry}
use Rattle.mon_history.specs.declared.journal.JournalLine.{JournalLine}
use Rattle.mon_history.specs.Configuration.{Configuration, nothing, put}
use Rattle.mon_history.specs.Registry.{is_accepted, next, stops, is_stopper, change}
use Rattle.mon_history.specs.Journal.{replay, IsLawful, stopping}
use Rattle.mon_history.specs.Histories.{config_after, after_one, changed, entries}
use Rattle.mon_history.specs.Stands.{BoardOf, StandsFor, counts_with}
use Rattle.mon_events.specs.Sets.{slot_of, tool_of}
use Rattle.mon_history.proofs.Boards.{after-more, entries-off}
use Rattle.mon_history.proofs.Growing.{replay-more, stopping-more, stopping-quiet, counts_quiet, counts-put, counts_take, entries-put, as_many}

pub item_at : {A : Type 0} (xs : List A) (k : ℕ) → k < length xs → (x : A) × (slice_get xs k ≡ Some x)
item_at [] k h = absurd (omega arith)
item_at (x ∷ xs) zero h = (x, refl)
item_at (x ∷ xs) (suc k) h = item_at xs k (omega arith)

pub take_next : {A : Type 0} (xs : List A) (k : ℕ) (x : A) → slice_get xs k ≡ Some x → take (suc k) xs ≡ take k xs ++ x ∷ []
take_next [] k x e = absurd (cc)
take_next (y ∷ ys) zero x e = let q : y ≡ x = cc in ap (λ z. z ∷ []) q
take_next (y ∷ ys) (suc k) x e = ap (λ z. y ∷ z) (take_next ys k x e)

pub record SameSets (C D : Configuration) : Type 0 where
  pub wants : C.wants ≡ D.wants
  pub local : C.local ≡ D.local
  pub calls : C.calls ≡ D.calls

same : (C : Configuration) → SameSets C C
same C = record { wants = refl; local = refl; calls = refl }

joined : (C D E : Configuration) → SameSets C D → SameSets D E → SameSets C E
joined C D E s t = record { wants = s.wants ∙ t.wants; local = s.local ∙ t.local; calls = s.calls ∙ t.calls }

pub change_same : (call : ControlCall) (C D : Configuration) → SameSets C D → SameSets (change call C) (change call D)
change_same (ControlCall.UseToolId id name) C D s = record { wants = s.wants; local = s.local; calls = s.calls }
change_same (ControlCall.FreeToolId id) C D s = record { wants = s.wants; local = s.local; calls = s.calls }
change_same (ControlCall.GetTool id) C D s = s
change_same (ControlCall.SetEvents id set) C D s = record { wants = ap (λ f. put f (nat_abs id) (has (normal_set set.0))) s.wants; local = s.local; calls = s.calls }
change_same (ControlCall.GetEvents id) C D s = s
change_same (ControlCall.SetLocalEvents id code set) C D s = record { wants = s.wants; local = ap (λ f. put f (nat_abs id) (put (f (nat_abs id)) code (has (normal_set set.0)))) s.local; calls = s.calls }
change_same (ControlCall.GetLocalEvents id code) C D s = s
change_same (ControlCall.RegisterCallback id set policy) C D s = record { wants = s.wants; local = s.local; calls = ap (λ f. put f (nat_abs id) (λ e. cond (has set.0 e) policy (f (nat_abs id) e))) s.calls }
change_same ControlCall.RestartEvents C D s = record { wants = s.wants; local = s.local; calls = s.calls }

either : (b : Bool) (C D : Configuration) → SameSets D C → SameSets (cond b D C) C
either true C D s = s
either false C D s = same C

refusedly : (b : Bool) (C D : Configuration) → (b && true) ≡ false → SameSets (cond b D C) C
refusedly true C D e = absurd (cc)
refusedly false C D e = same C

-- a call that does not stop the world leaves the sets and callbacks
pub quiet_call : (C : Configuration) (call : ControlCall) → stops C call ≡ false → SameSets (next C call) C
quiet_call C (ControlCall.UseToolId id name) e = either (is_accepted C (ControlCall.UseToolId id name)) C (change (ControlCall.UseToolId id name) C) (record { wants = refl; local = refl; calls = refl })
quiet_call C (ControlCall.FreeToolId id) e = either (is_accepted C (ControlCall.FreeToolId id)) C (change (ControlCall.FreeToolId id) C) (record { wants = refl; local = refl; calls = refl })
quiet_call C (ControlCall.GetTool id) e = either (is_accepted C (ControlCall.GetTool id)) C C (same C)
quiet_call C (ControlCall.SetEvents id set) e = refusedly (is_accepted C (ControlCall.SetEvents id set)) C (change (ControlCall.SetEvents id set) C) e
quiet_call C (ControlCall.GetEvents id) e = either (is_accepted C (ControlCall.GetEvents id)) C C (same C)
quiet_call C (ControlCall.SetLocalEvents id code set) e = refusedly (is_accepted C (ControlCall.SetLocalEvents id code set)) C (change (ControlCall.SetLocalEvents id code set) C) e
quiet_call C (ControlCall.GetLocalEvents id code) e = either (is_accepted C (ControlCall.GetLocalEvents id code)) C C (same C)
quiet_call C (ControlCall.RegisterCallback id set policy) e = refusedly (is_accepted C (ControlCall.RegisterCallback id set policy)) C (change (ControlCall.RegisterCallback id set policy) C) e
quiet_call C ControlCall.RestartEvents e = either (is_accepted C ControlCall.RestartEvents) C (change ControlCall.RestartEvents C) (record { wants = refl; local = refl; calls = refl })

left_true : (a b : Bool) → (a && b) ≡ true → a ≡ true
left_true true b e = refl
left_true false b e = absurd (cc)

pub stopping_call : (C : Configuration) (call : ControlCall) → stops C call ≡ true → next C call ≡ change call C
stopping_call C call e = ap (λ b. cond b (change call C) C) (left_true (is_accepted C call) (is_stopper call) e)

-- the calls that stopped the world, one after another
abbrev pub applied : Configuration → List JournalLine → Configuration
applied C [] = C
applied C (line ∷ lines) = applied (change line.call C) lines

applied-more : (C : Configuration) (L : List JournalLine) (line : JournalLine) → applied C (L ++ line ∷ []) ≡ change line.call (applied C L)
applied-more C [] line = refl
applied-more C (x ∷ xs) line = applied-more (change x.call C) xs line

with_stops : (C : Configuration) (L J : List JournalLine) (line : JournalLine) (o : Option (List ℕ)) → o ≡ line.stops → is_some o ≡ stops C line.call → SameSets C (applied nothing (stopping J)) → SameSets (next C line.call) (applied nothing (stopping (J ++ line ∷ [])))
with_stops C L J line (Some counts) is s h =
    let a : next C line.call ≡ change line.call C = stopping_call C line.call (sym s) in
    let b : applied nothing (stopping (J ++ line ∷ [])) ≡ change line.call (applied nothing (stopping J)) = ap (applied nothing) (stopping-more J line counts (sym is)) ∙ applied-more nothing (stopping J) line in
    subst (λ (z : Configuration × Configuration). SameSets z.0 z.1) (λ i. (sym a i, sym b i)) (change_same line.call C (applied nothing (stopping J)) h)
with_stops C L J line None is s h =
    subst (λ (z : List JournalLine). SameSets (next C line.call) (applied nothing z)) (sym (stopping-quiet J line (sym is))) (joined (next C line.call) C (applied nothing (stopping J)) (quiet_call C line.call (sym s)) h)

replay_sets : (threads : ℕ) (J : List JournalLine) → IsLawful threads J → (k : ℕ) → k ≤ length J → SameSets (replay (take k J)) (applied nothing (stopping (take k J)))
replay_sets threads J r zero h = same nothing
replay_sets threads J r (suc k) h =
    let line = item_at J k (omega arith) in let X : List JournalLine = take k J in let n : take (suc k) J ≡ X ++ line.0 ∷ [] = take_next J k line.0 line.1 in
    let a : replay (X ++ line.0 ∷ []) ≡ next (replay X) line.0.call = replay-more nothing X line.0 in
    let b = with_stops (replay X) [] X line.0 line.0.stops refl (r.stopped k line.0 line.1) (replay_sets threads J r k (omega arith)) in
    subst (λ (z : List JournalLine). SameSets (replay z) (applied nothing (stopping z))) (sym n) (subst (λ (C : Configuration). SameSets C (applied nothing (stopping (X ++ line.0 ∷ [])))) (sym a) b)

module _ (sites : List Site) (J : List JournalLine) (first : Board) (W : List Mark) (s : StandsFor sites J first W) where
  made : List Mark → Configuration
  made X = applied nothing (take (length (counts_with X)) (stopping J))

  one_mark : (p : ℕ) (m : Mark) → suc p ≤ length W → slice_get W p ≡ Some m → SameSets (config_after J (entries 0 (take p W))) (applied nothing (take (length (counts_with (take p W))) (stopping J)))
      → SameSets (config_after J (entries 0 (take p W ++ m ∷ []))) (applied nothing (take (length (counts_with (take p W ++ m ∷ []))) (stopping J)))
  one_mark p (Off t l k) h e old =
      let X : List Mark = take p W in
      let a : config_after J (entries 0 (X ++ Off t l k ∷ [])) ≡ after_one J (config_after J (entries 0 X)) (Entry.Disable t l (slot_of k) (tool_of k)) = ap (config_after J) (entries-off 0 X t l k) ∙ after-more J nothing (entries 0 X) (Entry.Disable t l (slot_of k) (tool_of k)) in
      let b : counts_with (X ++ Off t l k ∷ []) ≡ counts_with X = counts_quiet X (Off t l k ∷ []) refl in
      subst (λ (z : Configuration × List (Option (List ℕ))). SameSets z.0 (applied nothing (take (length z.1) (stopping J)))) (λ i. (sym a i, sym b i)) (record { wants = old.wants; local = old.local; calls = old.calls })
  one_mark p (Put counts b) h e old =
      let X : List Mark = take p W in let n : ℕ = length (counts_with X) in
      let many = as_many sites J first W s in let part = counts_take (suc p) W in
      let grown : counts_with (X ++ Put counts b ∷ []) ≡ counts_with X ++ Some counts ∷ [] = counts-put X counts b in
      let there : take (suc p) W ≡ X ++ Put counts b ∷ [] = take_next W p (Put counts b) e in
      let longer : length (counts_with (X ++ Put counts b ∷ [])) ≡ suc n = let q = ap length grown ∙ length-append (counts_with X) (Some counts ∷ []) in omega arith in
      let low : n < length (stopping J) = let q = ap (λ z. length (counts_with z)) there in omega arith in
      let line = item_at (stopping J) n low in
      let zn : 0 + n ≡ n = omega arith in
      let c : config_after J (entries 0 (X ++ Put counts b ∷ [])) ≡ change line.0.call (config_after J (entries 0 X)) =
      ap (config_after J) (entries-put 0 X counts b) ∙ (after-more J nothing (entries 0 X) (Entry.Change (0 + n) counts) ∙ (ap (λ k. changed (slice_get (stopping J) k) (config_after J (entries 0 X))) zn ∙ ap (λ o. changed o (config_after J (entries 0 X))) line.1)) in
      let d : applied nothing (take (length (counts_with (X ++ Put counts b ∷ []))) (stopping J)) ≡ change line.0.call (applied nothing (take n (stopping J))) =
      ap (λ k. applied nothing (take k (stopping J))) longer ∙ (ap (applied nothing) (take_next (stopping J) n line.0 line.1) ∙ applied-more nothing (take n (stopping J)) line.0) in
      subst (λ (z : Configuration × Configuration). SameSets z.0 z.1) (λ i. (sym c i, sym d i)) (change_same line.0.call (config_after J (entries 0 X)) (applied nothing (take n (stopping J))) old)

  after_sets : (p : ℕ) → p ≤ length W → SameSets (config_after J (entries 0 (take p W))) (applied nothing (take (length (counts_with (take p W))) (stopping J)))
  after_sets zero h = same nothing
  after_sets (suc p) h =
      let m = item_at W p (omega arith) in
      subst (λ (z : List Mark). SameSets (config_after J (entries 0 z)) (applied nothing (take (length (counts_with z)) (stopping J)))) (sym (take_next W p m.0 m.1)) (one_mark p m.0 h m.1 (after_sets p (omega arith)))

  pub sets_same : (threads : ℕ) → IsLawful threads J → SameSets (replay J) (config_after J (entries 0 W))
  sets_same threads r =
      let a : SameSets (replay J) (applied nothing (stopping J)) = subst (λ (z : List JournalLine). SameSets (replay z) (applied nothing (stopping z))) (take_all (length J) J (omega arith)) (replay_sets threads J r (length J) (omega arith)) in
      let all : take (length W) W ≡ W = take_all (length W) W (omega arith) in
      let b : SameSets (config_after J (entries 0 W)) (applied nothing (take (length (counts_with W)) (stopping J))) = subst (λ (z : List Mark). SameSets (config_after J (entries 0 z)) (applied nothing (take (length (counts_with z)) (stopping J)))) all (after_sets (length W) (omega arith)) in
      let c : take (length (counts_with W)) (stopping J) ≡ stopping J = take_all (length (counts_with W)) (stopping J) (omega (arith, as_many sites J first W s)) in
      let d = ap (applied nothing) c in
      record { wants = a.wants ∙ sym (b.wants ∙ ap (λ (z : Configuration). z.wants) d); local = a.local ∙ sym (b.local ∙ ap (λ (z : Configuration). z.local) d); calls = a.calls ∙ sym (b.calls ∙ ap (λ (z : Configuration). z.calls) d) }

-- a board reads of a configuration the sets, the callbacks and what is off
pub board_by_sets : (sites : List Site) (C D : Configuration) (b : Board) → SameSets C D → C.off ≡ D.off → BoardOf sites C b → BoardOf sites D b
board_by_sets sites C D b s o x =
    let e : record C { tools = D.tools } ≡ D = λ i. record { tools = D.tools; wants = s.wants i; local = s.local i; calls = s.calls i; off = o i } in
    subst (λ (z : Configuration). BoardOf sites z b) e (record { wide = x.wide; six = x.six; bases = x.bases; wants = x.wants; lives = x.lives; global_is = x.global_is; callbacks_are = x.callbacks_are })
