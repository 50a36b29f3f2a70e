-- A journal grows by the calls of a round.
use Rattle.std.proofs.Common.{◌≡◌, ℕ, zero, suc, ◌+◌, ◌-◌, ◌<◌, ◌≤◌, List, [], ◌∷◌, ◌++◌, take, length, max, Option, Some, None, slice_get, sym, refl, ap, ◌∙◌, subst, arith, append_assoc, length-append}
use mathlib.Core.List.{append-nil}
use Rattle.mon_recorders.proofs.Spans.{in_turn_none}
use Rattle.mon_gate.specs.declared.view.View.{View}
use Rattle.mon_history.specs.declared.calls.ControlCall.{ControlCall}
use Rattle.mon_history.specs.declared.calls.Who.{Who}
use Rattle.mon_history.specs.declared.journal.JournalLine.{JournalLine}
use Rattle.mon_run.specs.Turns.{Asked}
use Rattle.mon_run.specs.Scripts.{call_of, round_from, rounds, longest}
use Rattle.mon_run.specs.Controlling.{Grown, Made, calls_due}
use Rattle.mon_run.proofs.InTurn.{one_more}
use Rattle.mon_run.proofs.Turns.{asked_append}

pub longest_more : (xs : List (List ControlCall)) (i : ℕ) (x : List ControlCall) → slice_get xs i ≡ Some x → longest (take (suc i) xs) ≡ max (length x) (longest (take i xs))
longest_more [] i x e = absurd (cc)
longest_more (y ∷ ys) zero x e = let q : y ≡ x = cc in ap (λ z. max (length z) 0) q
longest_more (y ∷ ys) (suc i) x e = let h = longest_more ys i x e in omega arith

pub round_more : (r k s : ℕ) (scripts : List (List ControlCall)) (script : List ControlCall) → slice_get scripts s ≡ Some script → round_from r k (take (suc s) scripts) ≡ round_from r k (take s scripts) ++ call_of (k + s) (slice_get script r)
round_more r k s [] script e = absurd (cc)
round_more r k zero (y ∷ ys) script e = let q : y ≡ script = cc in let z : k ≡ k + 0 = omega arith in append-nil (call_of k (slice_get y r)) ∙ (λ i. call_of (z i) (slice_get (q i) r))
round_more r k (suc s) (y ∷ ys) script e = let z : suc k + s ≡ k + suc s = omega arith in
    ap (λ xs. call_of k (slice_get y r) ++ xs) (round_more r (suc k) s ys script e ∙ ap (λ n. round_from r (suc k) (take s ys) ++ call_of n (slice_get script r)) z)
    ∙ sym (append_assoc (call_of k (slice_get y r)) (round_from r (suc k) (take s ys)) (call_of (k + suc s) (slice_get script r)))

pub grown_none : (J : List JournalLine) → Grown J J []
grown_none J = record { more = []; is = sym (append-nil J); asked_are = refl }

pub grown_more : (J K L : List JournalLine) (xs ys : List Asked) → Grown J K xs → Grown K L ys → Grown J L (xs ++ ys)
grown_more J K L xs ys a b = record {
  more = a.more ++ b.more;
  is = b.is ∙ (ap (λ z. z ++ b.more) a.is ∙ append_assoc J a.more b.more);
  asked_are = asked_append a.more b.more ∙ (λ i. a.asked_are i ++ b.asked_are i);
}

pub grown_one : (J K : List JournalLine) (s : ℕ) (v : View) (o : Option ControlCall) (call : ControlCall) → o ≡ Some call → Made J (Who.Script s) call v K → Grown J K (call_of s o)
grown_one J K s v o call is m = record {
  more = m.line ∷ [];
  is = m.is;
  asked_are = (λ i. (m.who_is i, m.call_is i) ∷ []) ∙ ap (call_of s) (sym is);
}

pub grown_quiet : (J : List JournalLine) (s : ℕ) (o : Option ControlCall) → o ≡ None → Grown J J (call_of s o)
grown_quiet J s o is = subst (λ z. Grown J J (call_of s z)) (sym is) (grown_none J)

pub next_round : (J K L : List JournalLine) (r s n : ℕ) (scripts : List (List ControlCall)) (script : List ControlCall) → n ≡ suc s → slice_get scripts s ≡ Some script
    → Grown J K (round_from r 0 (take s scripts)) → Grown K L (call_of s (slice_get script r)) → Grown J L (round_from r 0 (take n scripts))
next_round J K L r s n scripts script is at a b =
    let z : 0 + s ≡ s = omega arith in
    let e : round_from r 0 (take n scripts) ≡ round_from r 0 (take s scripts) ++ call_of s (slice_get script r) =
    ap (λ k. round_from r 0 (take k scripts)) is ∙ (round_more r 0 s scripts script at ∙ ap (λ k. round_from r 0 (take s scripts) ++ call_of k (slice_get script r)) z) in
    subst (Grown J L) (sym e) (grown_more J K L (round_from r 0 (take s scripts)) (call_of s (slice_get script r)) a b)

pub no_rounds : (J : List JournalLine) (scripts : List (List ControlCall)) → Grown J J (rounds scripts 0)
no_rounds J scripts = subst (Grown J J) (sym (in_turn_none (λ r. round_from r 0 scripts))) (grown_none J)

pub next_rounds : (J K L : List JournalLine) (r n : ℕ) (scripts : List (List ControlCall)) → n ≡ suc r → Grown J K (rounds scripts r) → Grown K L (round_from r 0 scripts) → Grown J L (rounds scripts n)
next_rounds J K L r n scripts is a b = subst (Grown J L) (sym (ap (rounds scripts) is ∙ one_more scripts r)) (grown_more J K L (rounds scripts r) (round_from r 0 scripts) a b)

pub next_most : (xs : List (List ControlCall)) (i n most : ℕ) (x : List ControlCall) → n ≡ suc i → slice_get xs i ≡ Some x → most ≡ longest (take i xs) → max (length x) most ≡ longest (take n xs)
next_most xs i n most x is at m = ap (max (length x)) m ∙ (sym (longest_more xs i x at) ∙ ap (λ k. longest (take k xs)) (sym is))

-- how many calls are left
within : {A : Type 0} (xs : List A) (k : ℕ) (x : A) → slice_get xs k ≡ Some x → k < length xs
within [] k x e = absurd (cc)
within (y ∷ ys) zero x e = omega arith
within (y ∷ ys) (suc k) x e = let h = within ys k x e in omega arith

pub made_longer : (J K : List JournalLine) (who : Who) (call : ControlCall) (v : View) → Made J who call v K → length K ≡ length J + 1
made_longer J K who call v m = ap length m.is ∙ length-append J (m.line ∷ [])

pub left_here : (xs : List ControlCall) (r n : ℕ) (x : ControlCall) → n ≡ r + 1 → slice_get xs r ≡ Some x → 1 + (length xs - n) ≡ length xs - r
left_here xs r n x e at = let h = within xs r x at in omega arith

past_end : (xs : List ControlCall) (r : ℕ) → slice_get xs r ≡ None → length xs ≤ r
past_end [] r e = omega arith
past_end (x ∷ xs) zero e = absurd (cc)
past_end (x ∷ xs) (suc r) e = let h = past_end xs r e in omega arith

pub none_here : (xs : List ControlCall) (r n : ℕ) → n ≡ r + 1 → slice_get xs r ≡ None → length xs - n ≡ length xs - r
none_here xs r n e at = let h = past_end xs r at in omega arith

-- a script's calls are among those that are left
pub due_here : (r s : ℕ) (scripts : List (List ControlCall)) (script : List ControlCall) → slice_get scripts s ≡ Some script → length script - r ≤ calls_due r s scripts
due_here r s [] script at = absurd (cc)
due_here r zero (x ∷ xs) script at = let q : x ≡ script = cc in let l : length x ≡ length script = ap length q in omega (arith, l)
due_here r (suc s) (x ∷ xs) script at = let h = due_here r s xs script at in omega (arith, h)

-- one script more has made a call of the round
pub due_next : (r s n m : ℕ) (scripts : List (List ControlCall)) (script : List ControlCall) → n ≡ suc s → m ≡ suc r → slice_get scripts s ≡ Some script → calls_due r n scripts + (length script - r) ≡ calls_due r s scripts + (length script - m)
due_next r s n m [] script e f at = absurd (cc)
due_next r zero n m (x ∷ xs) script e f at = let q : x ≡ script = cc in let l : length x ≡ length script = ap length q in ap (λ k. calls_due r k (x ∷ xs) + (length script - r)) e ∙ omega (arith, l, f)
due_next r (suc s) n m (x ∷ xs) script e f at = let h = due_next r s (suc s) m xs script refl f at in ap (λ k. calls_due r k (x ∷ xs) + (length script - r)) e ∙ omega (arith, h)

-- a whole round
pub due_round : (r n : ℕ) (scripts : List (List ControlCall)) → n ≡ suc r → calls_due r (length scripts) scripts ≡ calls_due n 0 scripts
due_round r n [] e = refl
due_round r n (x ∷ xs) e = let h = due_round r n xs e in omega (arith, h, e)
