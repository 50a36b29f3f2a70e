-- In rounds, each script makes its own calls in their order.
use Rattle.std.proofs.Common.{◌≡◌, ◌≢◌, ℕ, zero, suc, ◌+◌, ◌<◌, ◌≤◌, List, [], ◌∷◌, ◌++◌, take, drop, length, get_or, cond, Option, Some, None, slice_get, sym, refl, ap, ◌∙◌, arith, eq-eqb, ne_eqb}
use Rattle.std.proofs.lemmas.List.{take-append-le, take_all}
use mathlib.Core.List.{append-nil}
use Rattle.mon_recorders.specs.Readings.{in_turn}
use Rattle.mon_recorders.proofs.Spans.{in_turn_none}
use Rattle.mon_history.specs.declared.calls.ControlCall.{ControlCall}
use Rattle.mon_history.specs.declared.journal.JournalLine.{JournalLine}
use Rattle.mon_forms.specs.declared.plan.Workload.{Workload}
use Rattle.mon_run.specs.Turns.{Asked, asked, of_script, of_none, first_calls, Follows}
use Rattle.mon_run.specs.Scripts.{call_of, round_from, longest, rounds, in_order}
use Rattle.mon_run.proofs.Turns.{script_append, none_append, first_long}

one : Option ControlCall → List ControlCall
one (Some call) = call ∷ []
one None = []

call_mine : (s k : ℕ) (o : Option ControlCall) → k ≡ s → of_script s (call_of k o) ≡ one o
unfolding one
call_mine s k (Some call) e = ap (λ b. cond b (call ∷ []) [] ++ []) (eq-eqb k s e)
call_mine s k None e = refl

call_else : (s k : ℕ) (o : Option ControlCall) → k ≢ s → of_script s (call_of k o) ≡ []
call_else s k (Some call) ne = ap (λ b. cond b (call ∷ []) [] ++ []) (ne_eqb k s ne)
call_else s k None ne = refl

call_none : (k : ℕ) (o : Option ControlCall) → of_none (call_of k o) ≡ []
call_none k (Some call) = refl
call_none k None = refl

round_none : (r k : ℕ) (scripts : List (List ControlCall)) → of_none (round_from r k scripts) ≡ []
round_none r k [] = refl
round_none r k (script ∷ scripts) = let a = call_none k (slice_get script r) in let b = round_none r (suc k) scripts in none_append (call_of k (slice_get script r)) (round_from r (suc k) scripts) ∙ (λ i. a i ++ b i)

round_past : (s r k : ℕ) (scripts : List (List ControlCall)) → s < k → of_script s (round_from r k scripts) ≡ []
round_past s r k [] h = refl
round_past s r k (script ∷ scripts) h =
    let a = call_else s k (slice_get script r) (λ e. absurd (omega arith)) in let b = round_past s r (suc k) scripts (omega arith) in script_append s (call_of k (slice_get script r)) (round_from r (suc k) scripts) ∙ (λ i. a i ++ b i)

no_item : (script : List ControlCall) (r : ℕ) → script ≡ [] → [] ≡ one (slice_get script r)
unfolding one
no_item [] zero e = refl
no_item [] (suc r) e = refl
no_item (x ∷ xs) r e = absurd (cc)

round_mine : (s r k j : ℕ) (scripts : List (List ControlCall)) → s ≡ k + j → of_script s (round_from r k scripts) ≡ one (slice_get (get_or scripts j []) r)
round_mine s r k zero [] e = no_item [] r refl
round_mine s r k (suc j) [] e = no_item [] r refl
round_mine s r k zero (script ∷ scripts) e =
    let a = call_mine s k (slice_get script r) (omega arith) in let b = round_past s r (suc k) scripts (omega arith) in script_append s (call_of k (slice_get script r)) (round_from r (suc k) scripts) ∙ ((λ i. a i ++ b i) ∙ append-nil (one (slice_get script r)))
round_mine s r k (suc j) (script ∷ scripts) e =
    let a = call_else s k (slice_get script r) (λ q. absurd (omega arith)) in let b = round_mine s r (suc k) j scripts (omega arith) in script_append s (call_of k (slice_get script r)) (round_from r (suc k) scripts) ∙ (λ i. a i ++ b i)

next_one : (script : List ControlCall) (n : ℕ) → take n script ++ one (slice_get script n) ≡ take (suc n) script
unfolding one
next_one [] zero = refl
next_one [] (suc n) = refl
next_one (x ∷ xs) zero = refl
next_one (x ∷ xs) (suc n) = ap (λ (z : List ControlCall). x ∷ z) (next_one xs n)

-- one round more
pub one_more : (scripts : List (List ControlCall)) (n : ℕ) → rounds scripts (suc n) ≡ rounds scripts n ++ round_from n 0 scripts
unfolding in_turn
one_more scripts n = refl

rounds_mine : (s : ℕ) (scripts : List (List ControlCall)) (n : ℕ) → of_script s (rounds scripts n) ≡ take n (get_or scripts s [])
rounds_mine s scripts zero = ap (of_script s) (in_turn_none (λ r. round_from r 0 scripts))
rounds_mine s scripts (suc n) =
    let a = rounds_mine s scripts n in let b = round_mine s n 0 s scripts (omega arith) in
    ap (of_script s) (one_more scripts n) ∙ (script_append s (rounds scripts n) (round_from n 0 scripts) ∙ ((λ i. a i ++ b i) ∙ next_one (get_or scripts s []) n))

rounds_none : (scripts : List (List ControlCall)) (n : ℕ) → of_none (rounds scripts n) ≡ []
rounds_none scripts zero = ap of_none (in_turn_none (λ r. round_from r 0 scripts))
rounds_none scripts (suc n) = let a = rounds_none scripts n in let b = round_none n 0 scripts in ap of_none (one_more scripts n) ∙ (none_append (rounds scripts n) (round_from n 0 scripts) ∙ (λ i. a i ++ b i))

long_enough : (s : ℕ) (scripts : List (List ControlCall)) → length (get_or scripts s []) ≤ longest scripts
long_enough zero [] = omega arith
long_enough (suc s) [] = omega arith
long_enough zero (x ∷ xs) = omega arith
long_enough (suc s) (x ∷ xs) = let t = long_enough s xs in omega arith

drop_behind : {A : Type 0} (xs ys : List A) → drop (length xs) (xs ++ ys) ≡ ys
drop_behind [] ys = refl
drop_behind (x ∷ xs) ys = drop_behind xs ys

-- a journal whose calls are the plan's in order
pub follows : (plan : Workload) (J : List JournalLine) → ((k : ℕ) (line : JournalLine) (counts : List ℕ) → k < length plan.before → slice_get J k ≡ Some line → line.stops ≡ Some counts → (t : ℕ) → get_or counts t 0 ≡ 0)
    → asked J ≡ in_order plan → Follows plan J
follows plan J early is =
    let front : List Asked = first_calls plan.before in let back : List Asked = rounds plan.scripts (longest plan.scripts) in
    let long : length front ≡ length plan.before = first_long plan.before in
    let rest : drop (length plan.before) (asked J) ≡ back = ap (drop (length plan.before)) is ∙ (ap (λ n. drop n (front ++ back)) (sym long) ∙ drop_behind front back) in
    record {
      before = ap (take (length plan.before)) is ∙ (ap (λ n. take n (front ++ back)) (sym long) ∙ (take-append-le (length front) front back (omega arith) ∙ take_all (length front) front (omega arith)));
      early = early;
      scripts = λ s. ap (of_script s) rest ∙ (rounds_mine s plan.scripts (longest plan.scripts) ∙ take_all (longest plan.scripts) (get_or plan.scripts s []) (long_enough s plan.scripts));
      alone = ap of_none rest ∙ rounds_none plan.scripts (longest plan.scripts);
    }
