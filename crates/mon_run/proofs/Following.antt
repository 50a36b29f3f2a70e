-- The journal of the serial run follows the plan.
use Rattle.std.proofs.Common.{◌≡◌, ◌≢◌, ℕ, zero, suc, ◌+◌, ◌<◌, ◌≤◌, min, Bool, true, false, List, [], ◌∷◌, ◌++◌, take, drop, length, map, replicate, get_or, set, cond, eqb, Option, Some, None, slice_get, sym, refl, ap, ◌∙◌, subst, arith, append_assoc, eq-eqb, ne_eqb}
use Rattle.std.proofs.lemmas.List.{take-append-le, take_all, length-set, length-replicate, get_or_past, get_or-set_same, get_or-set_other}
use Rattle.std.proofs.Math.Seq.{drop-append_seam}
use mathlib.Core.List.{append-nil}
use mathlib.Core.Logic.{dite}
use native.Mathlib.Decide.{ℕ_discrete}
use Rattle.mon_code.specs.Programs.{Parts}
use Rattle.mon_history.specs.Journal.{replay}
use Rattle.mon_history.specs.declared.calls.ControlCall.{ControlCall}
use Rattle.mon_history.specs.declared.calls.Who.{Who}
use Rattle.mon_history.specs.declared.journal.JournalLine.{JournalLine}
use Rattle.mon_history.proofs.Growing.{at_end, front_at}
use Rattle.mon_history.proofs.Replays.{take_next}
use Rattle.mon_forms.specs.declared.plan.Move.{Move}
use Rattle.mon_forms.specs.declared.plan.Workload.{Workload}
use Rattle.mon_forms.specs.declared.plan.Start.{Start}
use Rattle.mon_run.specs.Reports.{begins}
use Rattle.mon_machine.specs.Advances.{Progress, nothing_done}
use Rattle.mon_run.specs.Turns.{Asked, AllZero, asked, of_script, of_none, first_calls}
use Rattle.mon_run.specs.Laws.{SerialFollows}
use Rattle.mon_run.specs.Serial.{World, line_at, steps_of, asks, asks_first, asks_next, next_call, steps_by, steps_one, may_step, turn, moves_one, moves_all, rest_of_scripts, rest_of_threads, first_world, last_world}
use Rattle.mon_run.proofs.Turns.{asked_append, asked_long, script_append, none_append, first_long}
use Rattle.mon_run.proofs.Turning.{turn_none, turn_more, heard_in}
use Rattle.mon_run.proofs.Ordering.{moves_append}

-- the calls before all threads stand first, and then each script's first calls, as many as it has made
pub record Order (plan : Workload) (w : World) : Type 0 where
  pub early : List JournalLine
  pub rest : List JournalLine
  pub is : w.journal ≡ early ++ rest
  pub first : asked early ≡ first_calls plan.before
  pub zero : AllZero early
  pub wide : length w.made ≡ length plan.scripts
  pub scripts : (s : ℕ) → of_script s (asked rest) ≡ take (get_or w.made s 0) (get_or plan.scripts s [])
  pub alone : of_none (asked rest) ≡ []

-- a turn leaves the journal, and the calls that were made
one_journal : (b : Bool) (p : Parts) (t : ℕ) (q : Progress) (w : World) → (cond b (steps_by p t (heard_in p w) q w) w).journal ≡ w.journal
one_journal true p t q w = refl
one_journal false p t q w = refl

one_made : (b : Bool) (p : Parts) (t : ℕ) (q : Progress) (w : World) → (cond b (steps_by p t (heard_in p w) q w) w).made ≡ w.made
one_made true p t q w = refl
one_made false p t q w = refl

step_journal : (p : Parts) (bound t : ℕ) (o : Option Progress) (w : World) → (steps_one p bound t o w).journal ≡ w.journal
step_journal p bound t None w = refl
step_journal p bound t (Some q) w = one_journal (may_step bound q) p t q w

step_made : (p : Parts) (bound t : ℕ) (o : Option Progress) (w : World) → (steps_one p bound t o w).made ≡ w.made
step_made p bound t None w = refl
step_made p bound t (Some q) w = one_made (may_step bound q) p t q w

turn_journal : (p : Parts) (bound t n : ℕ) (w : World) → (turn p bound t n w).journal ≡ w.journal
turn_journal p bound t zero w = ap (λ (z : World). z.journal) (turn_none p bound t w)
turn_journal p bound t (suc n) w = let v : World = turn p bound t n w in ap (λ (z : World). z.journal) (turn_more p bound t n w) ∙ (step_journal p bound t (slice_get v.threads t) v ∙ turn_journal p bound t n w)

turn_made : (p : Parts) (bound t n : ℕ) (w : World) → (turn p bound t n w).made ≡ w.made
turn_made p bound t zero w = ap (λ (z : World). z.made) (turn_none p bound t w)
turn_made p bound t (suc n) w = let v : World = turn p bound t n w in ap (λ (z : World). z.made) (turn_more p bound t n w) ∙ (step_made p bound t (slice_get v.threads t) v ∙ turn_made p bound t n w)

order_turn : (p : Parts) (plan : Workload) (t n : ℕ) (w : World) → Order plan w → Order plan (turn p plan.steps t n w)
order_turn p plan t n w o = record {
  early = o.early;
  rest = o.rest;
  is = turn_journal p plan.steps t n w ∙ o.is;
  first = o.first;
  zero = o.zero;
  wide = ap length (turn_made p plan.steps t n w) ∙ o.wide;
  scripts = λ s. o.scripts s ∙ ap (λ z. take (get_or z s 0) (get_or plan.scripts s [])) (sym (turn_made p plan.steps t n w));
  alone = o.alone;
}

-- a script that has a call is one of the plan's
has_call : (xs : List (List ControlCall)) (s m : ℕ) (x : ControlCall) → slice_get (get_or xs s []) m ≡ Some x → s < length xs
has_call [] s m x e = absurd (none_of m e)
  where
    none_of : (m : ℕ) → slice_get [] m ≡ Some x → ⊥
    none_of zero e = absurd (cc)
    none_of (suc m) e = absurd (cc)
has_call (y ∷ ys) zero m x e = omega arith
has_call (y ∷ ys) (suc s) m x e = let h = has_call ys s m x e in omega arith

order_next : (plan : Workload) (s : ℕ) (w : World) (o : Option ControlCall) → next_call plan w s ≡ o → Order plan w → Order plan (asks_next s o w)
order_next plan s w None e d = d
order_next plan s w (Some call) e d =
    let m : ℕ = get_or w.made s 0 in let line : JournalLine = line_at w.journal (Who.Script s) call (steps_of w.threads) in
    let low : s < length w.made = (let h = has_call plan.scripts s m call e in let k = d.wide in omega arith) in
    let grown : asked (d.rest ++ line ∷ []) ≡ asked d.rest ++ (Who.Script s, call) ∷ [] = asked_append d.rest (line ∷ []) in
    let k-is : m + 1 ≡ suc m = omega arith in record {
      early = d.early;
      rest = d.rest ++ line ∷ [];
      is = ap (λ z. z ++ line ∷ []) d.is ∙ append_assoc d.early d.rest (line ∷ []);
      first = d.first;
      zero = d.zero;
      wide = length-set w.made s (m + 1) ∙ d.wide;
      scripts = λ u. ap (of_script u) grown ∙ (script_append u (asked d.rest) ((Who.Script s, call) ∷ []) ∙ dite (ℕ_discrete s u)
          (λ (is : s ≡ u). ap (λ b. of_script u (asked d.rest) ++ (cond b (call ∷ []) [] ++ [])) (eq-eqb s u is)
          ∙ (ap (λ z. z ++ call ∷ []) (d.scripts u ∙ ap (λ j. take (get_or w.made j 0) (get_or plan.scripts j [])) (sym is))
          ∙ (sym (take_next (get_or plan.scripts s []) m call e)
          ∙ (ap (λ k. take k (get_or plan.scripts s [])) (sym k-is ∙ sym (get_or-set_same w.made s (m + 1) 0 low)) ∙ ap (λ j. take (get_or (set w.made s (m + 1)) j 0) (get_or plan.scripts j [])) is))))
          (λ ne. ap (λ b. of_script u (asked d.rest) ++ (cond b (call ∷ []) [] ++ [])) (ne_eqb s u ne)
          ∙ (append-nil (of_script u (asked d.rest)) ∙ (d.scripts u ∙ ap (λ k. take k (get_or plan.scripts u [])) (sym (get_or-set_other w.made s u (m + 1) 0 (λ e. ne (sym e))))))));
      alone = ap of_none grown ∙ (none_append (asked d.rest) ((Who.Script s, call) ∷ []) ∙ ap (λ z. z ++ []) d.alone);
    }

order_move : (p : Parts) (plan : Workload) (x : Move) (w : World) → Order plan w → Order plan (moves_one p plan x w)
order_move p plan (Move.Turn t n) w o = order_turn p plan t n w o
order_move p plan (Move.Call s) w o = order_next plan s w (next_call plan w s) refl o

order_moves : (p : Parts) (plan : Workload) (xs : List Move) (w : World) → Order plan w → Order plan (moves_all p plan xs w)
order_moves p plan [] w o = o
order_moves p plan (x ∷ xs) w o = order_moves p plan xs (moves_one p plan x w) (order_move p plan x w o)

-- the number of calls that a script has made never falls
next_up : (s u : ℕ) (o : Option ControlCall) (w : World) → get_or w.made u 0 ≤ get_or (asks_next s o w).made u 0
next_up s u None w = omega arith
next_up s u (Some call) w = dite (ℕ_discrete s u)
    (λ is. subst (λ j. get_or w.made j 0 ≤ get_or (set w.made s (get_or w.made s 0 + 1)) j 0) is (here w.made s))
    (λ ne. let h = get_or-set_other w.made s u (get_or w.made s 0 + 1) 0 (λ e. ne (sym e)) in omega arith)
  where
    here : (xs : List ℕ) (s : ℕ) → get_or xs s 0 ≤ get_or (set xs s (get_or xs s 0 + 1)) s 0
    here [] s = omega arith
    here (x ∷ xs) zero = omega arith
    here (x ∷ xs) (suc s) = here xs s

move_up : (p : Parts) (plan : Workload) (x : Move) (u : ℕ) (w : World) → get_or w.made u 0 ≤ get_or (moves_one p plan x w).made u 0
move_up p plan (Move.Turn t n) u w = let h = ap (λ z. get_or z u 0) (turn_made p plan.steps t n w) in omega arith
move_up p plan (Move.Call s) u w = next_up s u (next_call plan w s) w

moves_up : (p : Parts) (plan : Workload) (xs : List Move) (u : ℕ) (w : World) → get_or w.made u 0 ≤ get_or (moves_all p plan xs w).made u 0
moves_up p plan [] u w = omega arith
moves_up p plan (x ∷ xs) u w = let a = move_up p plan x u w in let b = moves_up p plan xs u (moves_one p plan x w) in omega arith

-- after so many moves a script has made so many calls more, or all
no_more : (xs : List ControlCall) (k : ℕ) → slice_get xs k ≡ None → length xs ≤ k
no_more [] k e = omega arith
no_more (x ∷ xs) zero e = absurd (cc)
no_more (x ∷ xs) (suc k) e = let h = no_more xs k e in omega arith

once : (plan : Workload) (s : ℕ) (w : World) (o : Option ControlCall) → next_call plan w s ≡ o → Order plan w → min (length (get_or plan.scripts s [])) (get_or w.made s 0 + 1) ≤ get_or (asks_next s o w).made s 0
once plan s w None e d = let h = no_more (get_or plan.scripts s []) (get_or w.made s 0) e in omega arith
once plan s w (Some call) e d =
    let l = has_call plan.scripts s (get_or w.made s 0) call e in let k = d.wide in
    let h = get_or-set_same w.made s (get_or w.made s 0 + 1) 0 (omega arith) in omega arith

again : (p : Parts) (plan : Workload) (s k : ℕ) (w : World) → Order plan w → min (length (get_or plan.scripts s [])) (get_or w.made s 0 + k) ≤ get_or (moves_all p plan (replicate k (Move.Call s)) w).made s 0
again p plan s zero w o = omega arith
again p plan s (suc k) w o =
    let v : World = asks_next s (next_call plan w s) w in
    let a = once plan s w (next_call plan w s) refl o in let b = again p plan s k v (order_next plan s w (next_call plan w s) refl o) in omega arith

-- all scripts from number k on have made all their calls
all_made : (p : Parts) (plan : Workload) (k : ℕ) (scripts : List (List ControlCall)) (w : World) → Order plan w → ((j : ℕ) → get_or scripts j [] ≡ get_or plan.scripts (k + j) []) → (j : ℕ) → j < length scripts
    → length (get_or plan.scripts (k + j) []) ≤ get_or (moves_all p plan (rest_of_scripts k scripts) w).made (k + j) 0
all_made p plan k [] w o same j h = absurd (omega arith)
all_made p plan k (x ∷ xs) w o same zero h =
    let v : World = moves_all p plan (replicate (length x) (Move.Call k)) w in
    let z : k + 0 ≡ k = omega arith in
    let x-is : length x ≡ length (get_or plan.scripts k []) = ap length (same 0) ∙ ap (λ n. length (get_or plan.scripts n [])) z in
    let a = again p plan k (length x) w o in let b = moves_up p plan (rest_of_scripts (suc k) xs) k v in
    let c : get_or (moves_all p plan (rest_of_scripts k (x ∷ xs)) w).made k 0 ≡ get_or (moves_all p plan (rest_of_scripts (suc k) xs) v).made k 0 = ap (λ (y : World). get_or y.made k 0) (moves_append p plan (replicate (length x) (Move.Call k)) (rest_of_scripts (suc k) xs) w) in
    subst (λ n. length (get_or plan.scripts n []) ≤ get_or (moves_all p plan (rest_of_scripts k (x ∷ xs)) w).made n 0) (sym z) (omega (arith, a, b, c, x-is))
all_made p plan k (x ∷ xs) w o same (suc j) h =
    let v : World = moves_all p plan (replicate (length x) (Move.Call k)) w in
    let z : (i : ℕ) → k + suc i ≡ suc k + i = λ i. omega arith in
    let r = all_made p plan (suc k) xs v (order_moves p plan (replicate (length x) (Move.Call k)) w o) (λ i. same (suc i) ∙ ap (λ n. get_or plan.scripts n []) (z i)) j (omega arith) in
    let c : get_or (moves_all p plan (rest_of_scripts k (x ∷ xs)) w).made (k + suc j) 0 ≡ get_or (moves_all p plan (rest_of_scripts (suc k) xs) v).made (suc k + j) 0 =
    ap (λ (y : World). get_or y.made (k + suc j) 0) (moves_append p plan (replicate (length x) (Move.Call k)) (rest_of_scripts (suc k) xs) w) ∙ ap (λ n. get_or (moves_all p plan (rest_of_scripts (suc k) xs) v).made n 0) (z j) in
    let l : length (get_or plan.scripts (k + suc j) []) ≡ length (get_or plan.scripts (suc k + j) []) = ap (λ n. length (get_or plan.scripts n [])) (z j) in
    omega (arith, r, c, l)

-- the calls before all threads
pub record First (w : World) (calls : List ControlCall) (made : List ℕ) : Type 0 where
  pub asked_are : asked w.journal ≡ first_calls calls
  pub zero : AllZero w.journal
  pub none : (t : ℕ) → get_or (steps_of w.threads) t 0 ≡ 0
  pub made_are : w.made ≡ made

first_append : (xs ys : List ControlCall) → first_calls (xs ++ ys) ≡ first_calls xs ++ first_calls ys
first_append [] ys = refl
first_append (x ∷ xs) ys = ap (λ (z : List Asked). (Who.Before, x) ∷ z) (first_append xs ys)

stops_zero : (b : Bool) (counts low : List ℕ) → cond b (Some counts) None ≡ Some low → counts ≡ low
stops_zero true counts low e = cc
stops_zero false counts low e = absurd (cc)

first_one : (w : World) (calls : List ControlCall) (x : ControlCall) (made : List ℕ) → First w calls made → First (asks Who.Before x w) (calls ++ x ∷ []) made
first_one w calls x made f =
    let C = replay w.journal in let counts : List ℕ = steps_of w.threads in let line : JournalLine = line_at w.journal Who.Before x counts in record {
      asked_are = asked_append w.journal (line ∷ []) ∙ (ap (λ z. z ++ (Who.Before, x) ∷ []) f.asked_are ∙ sym (first_append calls (x ∷ [])));
      zero = λ k l low at stops t. elim (at_end w.journal line l k at) as (λ _. get_or low t 0 ≡ 0) [
        | Rattle.std.proofs.Common.inl q ↦ f.zero k l low q.1 stops t
        | Rattle.std.proofs.Common.inr q ↦ ap (λ z. get_or z t 0) (sym (stops_zero (Rattle.mon_history.specs.Registry.stops C x) counts low (ap (λ (y : JournalLine). y.stops) q.1 ∙ stops))) ∙ f.none t
      ];
      none = f.none;
      made_are = f.made_are;
    }

first_all : (calls done : List ControlCall) (w : World) (made : List ℕ) → First w done made → First (asks_first calls w) (done ++ calls) made
first_all [] done w made f = subst (λ z. First w z made) (sym (append-nil done)) f
first_all (x ∷ xs) done w made f = subst (λ z. First (asks_first xs (asks Who.Before x w)) z made) (append_assoc done (x ∷ []) xs) (first_all xs (done ++ x ∷ []) (asks Who.Before x w) made (first_one w done x made f))

no_steps : (p : Parts) (starts : List Start) (t : ℕ) → get_or (steps_of (map (λ s. nothing_done (begins p s)) starts)) t 0 ≡ 0
no_steps p [] t = refl
no_steps p (x ∷ xs) zero = refl
no_steps p (x ∷ xs) (suc t) = no_steps p xs t

zeros : (n t : ℕ) → get_or (replicate n zero) t zero ≡ zero
zeros zero t = refl
zeros (suc n) zero = refl
zeros (suc n) (suc t) = zeros n t

none_at : (k : ℕ) (l : JournalLine) → slice_get [] k ≡ Some l → ⊥
none_at k l e = absurd (cc)

order_first : (p : Parts) (plan : Workload) → Order plan (asks_first plan.before (first_world p plan))
order_first p plan =
    let made : List ℕ = replicate (length plan.scripts) 0 in let w : World = asks_first plan.before (first_world p plan) in
    let f : First w plan.before made = first_all plan.before [] (first_world p plan) made record { asked_are = refl; zero = λ k l low at stops t. absurd (none_at k l at); none = no_steps p plan.threads; made_are = refl } in record {
      early = w.journal;
      rest = [];
      is = sym (append-nil w.journal);
      first = f.asked_are;
      zero = f.zero;
      wide = ap length f.made_are ∙ length-replicate (length plan.scripts) 0;
      scripts = λ s. ap (λ k. take k (get_or plan.scripts s [])) (sym (ap (λ z. get_or z s 0) f.made_are ∙ zeros (length plan.scripts) s));
      alone = refl;
    }

pub serial_follows : SerialFollows
serial_follows p plan schedule =
    let a : World = moves_all p plan schedule (asks_first plan.before (first_world p plan)) in
    let b : World = moves_all p plan (rest_of_scripts 0 plan.scripts) a in
    let w : World = last_world p plan schedule in
    let oa : Order plan a = order_moves p plan schedule (asks_first plan.before (first_world p plan)) (order_first p plan) in
    let ob : Order plan b = order_moves p plan (rest_of_scripts 0 plan.scripts) a oa in
    let o : Order plan w = order_moves p plan (rest_of_threads plan.steps 0 plan.threads) b ob in
    let full : (s : ℕ) → length (get_or plan.scripts s []) ≤ get_or w.made s 0 = λ s. dite (native.Mathlib.Decide.dec_le (suc s) (length plan.scripts))
    (λ l. let z : (j : ℕ) → 0 + j ≡ j = λ j. omega arith in
    let h : length (get_or plan.scripts s []) ≤ get_or b.made s 0 = subst (λ n. length (get_or plan.scripts n []) ≤ get_or b.made n 0) (z s) (all_made p plan 0 plan.scripts a oa (λ j. ap (λ n. get_or plan.scripts n []) (sym (z j))) s l) in
    let u = moves_up p plan (rest_of_threads plan.steps 0 plan.threads) s b in omega arith)
    (λ g. let e = ap length (get_or_past plan.scripts s [] (omega arith)) in omega arith) in
    let long : length (asked o.early) ≡ length plan.before = ap length o.first ∙ first_long plan.before in
    let all : asked w.journal ≡ asked o.early ++ asked o.rest = ap asked o.is ∙ asked_append o.early o.rest in
    let behind : drop (length plan.before) (asked w.journal) ≡ asked o.rest = ap (drop (length plan.before)) all ∙ (ap (λ n. drop n (asked o.early ++ asked o.rest)) (sym long) ∙ drop-append_seam (asked o.early) (asked o.rest)) in
    record {
      before = ap (take (length plan.before)) all ∙ (ap (λ n. take n (asked o.early ++ asked o.rest)) (sym long) ∙ (take-append-le (length (asked o.early)) (asked o.early) (asked o.rest) (omega arith) ∙ (take_all (length (asked o.early)) (asked o.early) (omega arith) ∙ o.first)));
      early = λ k line counts low at stops t. o.zero k line counts (sym (front_at o.early o.rest k (omega (arith, asked_long o.early))) ∙ (ap (λ z. slice_get z k) (sym o.is) ∙ at)) stops t;
      scripts = λ s. ap (of_script s) behind ∙ (o.scripts s ∙ take_all (get_or w.made s 0) (get_or plan.scripts s []) (full s));
      alone = ap of_none behind ∙ o.alone;
    }
