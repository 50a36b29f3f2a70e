-- The moves of a plan's run on one thread.
use Rattle.std.proofs.Common.{◌≡◌, ℕ, zero, suc, ◌+◌, ◌-◌, ◌<◌, ◌≤◌, ◌⊎◌, inl, inr, min, Bool, true, false, ◌&&◌, ltb, List, [], ◌∷◌, length, replicate, get_or, set, Some, slice_get, sym, refl, ap, ◌∙◌, subst, arith, le-ltb, length-append}
use Rattle.std.specs.List.{All}
use Rattle.std.proofs.lemmas.List.{length-map, map-set}
use Rattle.std.proofs.lemmas.List.Elements.{All-get_or}
use Rattle.std.proofs.lemmas.Option.{slice_get_past, slice_get_within, get_or_from_slice_get}
use mathlib.Core.Logic.{dite}
use native.Mathlib.Decide.{dec_le, ℕ_discrete}
use Rattle.mon_code.specs.Programs.{Parts}
use Rattle.mon_board.specs.declared.plain_view.PlainView.{PlainView}
use Rattle.mon_machine.specs.State.{goes}
use Rattle.mon_machine.specs.Advances.{Progress}
use Rattle.mon_interp.specs.Threads.{ThreadView}
use Rattle.mon_history.specs.declared.calls.ControlCall.{ControlCall}
use Rattle.mon_history.specs.declared.calls.Who.{Who}
use Rattle.mon_history.specs.declared.journal.JournalLine.{JournalLine}
use Rattle.mon_history.proofs.Replays.{item_at}
use Rattle.mon_control.specs.View.{Shown, NamesCode}
use Rattle.mon_forms.specs.Fits.{FitsCall, calls_in}
use Rattle.mon_forms.specs.declared.limits.TheConstants.{MAX_CALLS}
use Rattle.mon_forms.specs.declared.plan.Workload.{Workload}
use Rattle.mon_run.specs.Serial.{World, asks, asks_next, next_call, line_at, may_step, turn}
use Rattle.mon_run.specs.Replaying.{Keeps, Called, Took, Holds, IsDone, ProperPlan, calls_left, progress_all, world_of}
use Rattle.mon_run.proofs.Holding.{called_keeps, took_keeps, took_world, set_other, set_mine, step_at}
use Rattle.mon_run.proofs.Turning.{turn_none, turn_sum, turn_idle, set_at}

-- a code that a call of the plan names is one of the registry's
pub names_code : (p : Parts) (codes : ℕ) (call : ControlCall) → length p.codes ≡ codes → FitsCall p call → NamesCode codes call
names_code p codes (ControlCall.SetLocalEvents id code set) e h = let low : code < length p.codes = h in omega arith
names_code p codes (ControlCall.GetLocalEvents id code) e h = let low : code < length p.codes = h in omega arith
names_code p codes (ControlCall.UseToolId id name) e h = tt
names_code p codes (ControlCall.FreeToolId id) e h = tt
names_code p codes (ControlCall.GetTool id) e h = tt
names_code p codes (ControlCall.SetEvents id set) e h = tt
names_code p codes (ControlCall.GetEvents id) e h = tt
names_code p codes (ControlCall.RegisterCallback id set policy) e h = tt
names_code p codes ControlCall.RestartEvents e h = tt

pub called_holds : (p : Parts) (plan : Workload) (c d : Shown) (v w : PlainView) (threads : List Progress) (made : List ℕ) (who : Who) (call : ControlCall) → d.threads ≡ c.threads → d.codes ≡ c.codes → Holds p plan c v threads made → Called p who call v w c.journal d.journal → Holds p plan d w threads made
called_holds p plan c d v w threads made who call few codes h m = record {
  keeps = called_keeps p plan v w c.journal d.journal threads who call h.keeps m;
  count_is = few ∙ h.count_is;
  codes_are = h.codes_are ∙ sym codes;
  wide = h.wide;
}

pub one_call_more : (p : Parts) (who : Who) (call : ControlCall) (v w : PlainView) (J K : List JournalLine) → Called p who call v w J K → length K ≡ length J + 1
one_call_more p who call v w J K c = ap length c.is ∙ length-append J (line_at J who call v.counts ∷ [])

found : (xs : List ThreadView) (t : ℕ) (x : ThreadView) → t < length xs → x ≡ get_or xs t x → slice_get (progress_all xs) t ≡ Some x.progress
found [] t x h e = absurd (omega arith)
found (y ∷ ys) zero x h e = ap (λ (z : ThreadView). Some z.progress) (sym e)
found (y ∷ ys) (suc t) x h e = found ys t x (omega arith) e

module _ (p : Parts) (plan : Workload) (c : Shown) (t : ℕ) (v : PlainView) (xs : List ThreadView) (x : ThreadView) (made : List ℕ)
    (h : Holds p plan c v (progress_all xs) made) (low : t < length plan.threads) (x-is : x ≡ get_or xs t x) where
  pub there : slice_get (progress_all xs) t ≡ Some x.progress
  there = found xs t x (omega (arith, low, h.keeps.long, length-map xs (λ (z : ThreadView). z.progress))) x-is

  pub under : x.progress.steps ≤ plan.steps
  under = h.keeps.within t x.progress there

  pub counted : get_or v.counts t 0 ≡ x.progress.steps
  counted = ap (λ z. get_or z t 0) h.keeps.counts ∙ step_at (progress_all xs) t x.progress there

  module _ (k n : ℕ) (w : PlainView) (y : ThreadView) (proper : ProperPlan p plan) (k-is : k ≡ min n (plan.steps - x.progress.steps)) (took : Took p t k v w x.progress y.progress) where
    fits : x.progress.steps + k ≤ plan.steps
    fits = omega (arith, under, k-is)

    pub turn_holds : Holds p plan c w (progress_all (set xs t y)) made
    turn_holds = record {
      keeps = subst (Keeps p plan w c.journal) (sym (map-set (λ (z : ThreadView). z.progress) xs t y)) (took_keeps p plan t k v w c.journal (progress_all xs) x.progress y.progress proper h.keeps took there fits low);
      count_is = h.count_is;
      codes_are = h.codes_are;
      wide = h.wide;
    }

    ended : goes y.progress.state.mode ≡ false → may_step plan.steps y.progress ≡ false
    ended e = ap (λ b. b && ltb y.progress.steps plan.steps) e

    met : (b : Bool) (m : ℕ) → m ≡ plan.steps → b && ltb m plan.steps ≡ false
    met true m e = le-ltb m plan.steps (omega arith)
    met false m e = refl

    -- what is left of the turn does nothing
    over : (j : ℕ) → k + j ≡ n → (length took.at ≡ k) ⊎ (goes y.progress.state.mode ≡ false) → turn p plan.steps t j (world_of w c.journal (set (progress_all xs) t y.progress) made) ≡ world_of w c.journal (set (progress_all xs) t y.progress) made
    over j s (inr e) = turn_idle p plan.steps t j y.progress (world_of w c.journal (set (progress_all xs) t y.progress) made) (set_at (progress_all xs) t x.progress y.progress there) (ended e)
    over zero s (inl e) = turn_none p plan.steps t (world_of w c.journal (set (progress_all xs) t y.progress) made)
    over (suc j) s (inl e) = turn_idle p plan.steps t (suc j) y.progress (world_of w c.journal (set (progress_all xs) t y.progress) made) (set_at (progress_all xs) t x.progress y.progress there)
        (met (goes y.progress.state.mode) y.progress.steps (omega (arith, under, k-is, e, s, took.steps)))

    pub turn_world : world_of w c.journal (progress_all (set xs t y)) made ≡ turn p plan.steps t n (world_of v c.journal (progress_all xs) made)
    turn_world =
        let s = item_at plan.threads t low in
        let run : world_of w c.journal (set (progress_all xs) t y.progress) made ≡ turn p plan.steps t k (world_of v c.journal (progress_all xs) made) = took_world p plan t k v w c.journal (progress_all xs) x.progress y.progress proper h.keeps took there fits s.0 s.1 made in
        let n-is : n ≡ k + (n - k) = omega (arith, k-is) in
        ap (λ z. world_of w c.journal z made) (map-set (λ (z : ThreadView). z.progress) xs t y)
        ∙ (sym (over (n - k) (sym n-is) took.done) ∙ (ap (λ z. turn p plan.steps t (n - k) z) run ∙ (sym (turn_sum p plan.steps t k (n - k) (world_of v c.journal (progress_all xs) made)) ∙ ap (λ j. turn p plan.steps t j (world_of v c.journal (progress_all xs) made)) (sym n-is))))

    is_done : n ≡ plan.steps → (length took.at ≡ k) ⊎ (goes y.progress.state.mode ≡ false) → IsDone plan.steps y.progress
    is_done e (inl d) = inr (omega (arith, under, k-is, e, d, took.steps))
    is_done e (inr d) = inl d

    pub turn_done : n ≡ plan.steps → (q : Progress) → slice_get (progress_all (set xs t y)) t ≡ Some q → IsDone plan.steps q
    turn_done e q at = subst (IsDone plan.steps) (set_mine (progress_all xs) t y.progress q (ap (λ z. slice_get z t) (sym (map-set (λ (z : ThreadView). z.progress) xs t y)) ∙ at)) (is_done e took.done)

    pub turn_others : (u : ℕ) → (t ≡ u → ⊥) → slice_get (progress_all (set xs t y)) u ≡ slice_get (progress_all xs) u
    turn_others u ne = ap (λ z. slice_get z u) (map-set (λ (z : ThreadView). z.progress) xs t y) ∙ set_other (progress_all xs) t u y.progress ne

-- the next call of a script
get_any : (xs : List ℕ) (k x : ℕ) → k < length xs → x ≡ get_or xs k x → get_or xs k 0 ≡ x
get_any [] k x h e = absurd (omega arith)
get_any (y ∷ ys) zero x h e = sym e
get_any (y ∷ ys) (suc k) x h e = get_any ys k x (omega arith) e

next_is : (plan : Workload) (w : World) (s n : ℕ) (script : List ControlCall) → slice_get plan.scripts s ≡ Some script → s < length w.made → n ≡ get_or w.made s n → next_call plan w s ≡ slice_get script n
next_is plan w s n script at low is = λ i. slice_get (get_or_from_slice_get plan.scripts s script [] at i) (get_any w.made s n low is i)

pub next_none : (plan : Workload) (w : World) (s n : ℕ) (script : List ControlCall) → slice_get plan.scripts s ≡ Some script → s < length w.made → n ≡ get_or w.made s n → length script ≤ n → w ≡ asks_next s (next_call plan w s) w
next_none plan w s n script at low is end = sym (ap (λ o. asks_next s o w) (next_is plan w s n script at low is ∙ slice_get_past script n end))

pub next_some : (plan : Workload) (w : World) (s n : ℕ) (script : List ControlCall) (call : ControlCall) → slice_get plan.scripts s ≡ Some script → s < length w.made → n ≡ get_or w.made s n → slice_get script n ≡ Some call
    → record (asks (Who.Script s) call w) { made = set w.made s (n + 1) } ≡ asks_next s (next_call plan w s) w
next_some plan w s n script call at low is one =
    ap (λ k. record (asks (Who.Script s) call w) { made = set w.made s (k + 1) }) (sym (get_any w.made s n low is))
    ∙ sym (ap (λ o. asks_next s o w) (next_is plan w s n script at low is ∙ one))

-- a call that a script makes is one fewer that is left
pub one_left : (scripts : List (List ControlCall)) (made : List ℕ) (s n : ℕ) (script : List ControlCall) → slice_get scripts s ≡ Some script → s < length made → n ≡ get_or made s n → n < length script → calls_left scripts made ≡ calls_left scripts (set made s (n + 1)) + 1
one_left [] made s n script at low is more = absurd (cc)
one_left (x ∷ xs) [] s n script at low is more = absurd (omega arith)
one_left (x ∷ xs) (m ∷ ms) zero n script at low is more = let e : x ≡ script = cc in let l = ap length e in let q : n ≡ m = is in omega (arith, more, l, q)
one_left (x ∷ xs) (m ∷ ms) (suc s) n script at low is more = let r = one_left xs ms s n script at (omega arith) is more in omega (arith, r)

-- before the first call
pub all_left : (scripts : List (List ControlCall)) → calls_left scripts (replicate (length scripts) 0) ≡ calls_in scripts
all_left [] = refl
all_left (x ∷ xs) = let r = all_left xs in omega (arith, r)

pub few_calls : (plan : Workload) (J : List JournalLine) (made : List ℕ) → J ≡ [] → made ≡ replicate (length plan.scripts) 0 → length plan.before + calls_in plan.scripts ≤ MAX_CALLS → length J + length plan.before + calls_left plan.scripts made ≤ 256
few_calls plan J made none made-are few = let a = ap length none in let b = ap (calls_left plan.scripts) made-are ∙ all_left plan.scripts in omega (arith, few, a, b)

-- each thread below a number is done, and so is the next one
pub done_more : (bound i n : ℕ) (old new : List Progress) → n ≡ suc i → ((t : ℕ) (q : Progress) → t < i → slice_get old t ≡ Some q → IsDone bound q) → ((q : Progress) → slice_get new i ≡ Some q → IsDone bound q) → ((u : ℕ) → (i ≡ u → ⊥) → slice_get new u ≡ slice_get old u)
    → (t : ℕ) (q : Progress) → t < n → slice_get new t ≡ Some q → IsDone bound q
done_more bound i n old new is before here others t q h at = dite (ℕ_discrete i t)
    (λ same. here q (ap (slice_get new) same ∙ at))
    (λ ne. before t q (below ne) (sym (others t ne) ∙ at))
  where
    below : (i ≡ t → ⊥) → t < i
    below ne = dite (dec_le (suc t) i) (λ l. l) (λ g. absurd (ne (omega arith)))

pub done_all : (bound n : ℕ) (threads : List Progress) → length threads ≤ n → ((t : ℕ) (q : Progress) → t < n → slice_get threads t ≡ Some q → IsDone bound q) → (t : ℕ) (q : Progress) → slice_get threads t ≡ Some q → IsDone bound q
done_all bound n threads h done t q at = let l = slice_get_within threads t q at in done t q (omega arith) at

-- a call of a list that fits
pub call_fits : (p : Parts) (calls : List ControlCall) (n : ℕ) (call : ControlCall) → All (FitsCall p) calls → slice_get calls n ≡ Some call → FitsCall p call
call_fits p calls n call all at = subst (FitsCall p) (get_or_from_slice_get calls n call call at) (All-get_or (FitsCall p) calls n call (slice_get_within calls n call at) all)

pub script_fits : (p : Parts) (scripts : List (List ControlCall)) (s : ℕ) (script : List ControlCall) → All (All (FitsCall p)) scripts → slice_get scripts s ≡ Some script → All (FitsCall p) script
script_fits p scripts s script all at = subst (All (FitsCall p)) (get_or_from_slice_get scripts s script script at) (All-get_or (All (FitsCall p)) scripts s script (slice_get_within scripts s script at) all)

-- a call of a script that fits names what is there
pub script_call_fits : (p : Parts) (scripts : List (List ControlCall)) (s n : ℕ) (script : List ControlCall) (call : ControlCall) → All (All (FitsCall p)) scripts → slice_get scripts s ≡ Some script → slice_get script n ≡ Some call → FitsCall p call
script_call_fits p scripts s n script call all at one = call_fits p script n call (script_fits p scripts s script all at) one
