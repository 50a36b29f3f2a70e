-- The calls before all threads.
use Rattle.std.proofs.Common.{◌≡◌, ℕ, zero, suc, inl, inr, List, [], ◌∷◌, ◌++◌, take, get_or, Some, slice_get, sym, ap, ◌∙◌}
use Rattle.mon_gate.specs.declared.view.View.{View}
use Rattle.mon_history.specs.declared.calls.ControlCall.{ControlCall}
use Rattle.mon_history.specs.declared.calls.Who.{Who}
use Rattle.mon_history.specs.declared.journal.JournalLine.{JournalLine}
use Rattle.mon_history.proofs.Growing.{at_end}
use Rattle.mon_run.specs.Turns.{AllZero, Asked, asked, first_calls}
use Rattle.mon_run.specs.Controlling.{Made}
use Rattle.mon_run.proofs.Turns.{asked_append}

first_more : (xs : List ControlCall) (i : ℕ) (x : ControlCall) → slice_get xs i ≡ Some x → first_calls (take (suc i) xs) ≡ first_calls (take i xs) ++ (Who.Before, x) ∷ []
first_more [] i x e = absurd (cc)
first_more (y ∷ ys) zero x e = let q : y ≡ x = cc in λ i. (Who.Before, q i) ∷ []
first_more (y ∷ ys) (suc i) x e = ap (λ (z : List Asked). (Who.Before, y) ∷ z) (first_more ys i x e)

pub next_asked : (J K : List JournalLine) (xs : List ControlCall) (i n : ℕ) (x : ControlCall) (v : View) → n ≡ suc i → slice_get xs i ≡ Some x → asked J ≡ first_calls (take i xs) → Made J Who.Before x v K → asked K ≡ first_calls (take n xs)
next_asked J K xs i n x v is at a m =
    let one : asked (m.line ∷ []) ≡ (Who.Before, x) ∷ [] = λ j. (m.who_is j, m.call_is j) ∷ [] in
    ap asked m.is ∙ (asked_append J (m.line ∷ []) ∙ ((λ j. a j ++ one j) ∙ (sym (first_more xs i x at) ∙ ap (λ k. first_calls (take k xs)) (sym is))))

pub next_zero : (J K : List JournalLine) (who : Who) (x : ControlCall) (v : View) → v.tickets ≡ v.threads → AllZero J → Made J who x v K → AllZero K
next_zero J K who x v same z m k line counts at stops t = elim (at_end J m.line line k (ap (λ y. slice_get y k) (sym m.is) ∙ at)) as (λ _. get_or counts t 0 ≡ 0) [
  | inl p ↦ z k line counts p.1 stops t
  | inr p ↦ m.early same counts (ap (λ (y : JournalLine). y.stops) p.1 ∙ stops) t
]
