-- The calls of a journal, and who made them.
use Rattle.std.proofs.Common.{◌≡◌, ℕ, List, [], ◌∷◌, ◌++◌, length, sym, refl, ap, ◌∙◌, arith, append_assoc}
use Rattle.mon_history.specs.declared.calls.ControlCall.{ControlCall}
use Rattle.mon_history.specs.declared.journal.JournalLine.{JournalLine}
use Rattle.mon_run.specs.Turns.{Asked, asked, by_script, of_script, by_none, of_none, first_calls}

pub script_append : (s : ℕ) (xs ys : List Asked) → of_script s (xs ++ ys) ≡ of_script s xs ++ of_script s ys
script_append s [] ys = refl
script_append s (x ∷ xs) ys = ap (λ z. by_script s x.0 x.1 ++ z) (script_append s xs ys) ∙ sym (append_assoc (by_script s x.0 x.1) (of_script s xs) (of_script s ys))

pub none_append : (xs ys : List Asked) → of_none (xs ++ ys) ≡ of_none xs ++ of_none ys
none_append [] ys = refl
none_append (x ∷ xs) ys = ap (λ z. by_none x.0 x.1 ++ z) (none_append xs ys) ∙ sym (append_assoc (by_none x.0 x.1) (of_none xs) (of_none ys))

pub asked_append : (xs ys : List JournalLine) → asked (xs ++ ys) ≡ asked xs ++ asked ys
asked_append [] ys = refl
asked_append (x ∷ xs) ys = let t = asked_append xs ys in λ i. (x.who, x.call) ∷ t i

pub first_long : (calls : List ControlCall) → length (first_calls calls) ≡ length calls
first_long [] = refl
first_long (x ∷ xs) = omega (arith, first_long xs)

pub asked_long : (J : List JournalLine) → length (asked J) ≡ length J
asked_long [] = refl
asked_long (x ∷ xs) = omega (arith, asked_long xs)
