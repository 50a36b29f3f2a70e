-- What an iterator among others gives.
use Rattle.std.proofs.Common.{◌≡◌, ℕ, List, [], ◌∷◌, sym, ap, ◌∙◌}
use Rattle.std.specs.Prelude.{slice_get, slice_set, Option, Some, None, Result, Ok, Err}
use Rattle.mon_values.specs.declared.value.Value.{Value}
use Rattle.mon_frames.specs.Iterating.{next_in, first_left}
use Rattle.mon_frames.specs.Answers.{AnswersNext, GivesFirst}
use Rattle.mon_frames.proofs.Lists.{set_same}

-- where the iterator at a place gives the first of what it has, so does the place among the others
pub taken : {E : Type 0} (r : Result (Option Value) E) (xs : List (List Value)) (at : ℕ) (old new : List Value) → slice_get xs at ≡ Some old → GivesFirst r old new → AnswersNext r (next_in xs at) xs (slice_set xs at new)
taken (Ok None) xs at old new e g =
    let none : slice_get xs at ≡ Some [] = e ∙ ap (λ (l : List Value). Some l) g.0 in
    let due : next_in xs at ≡ (None, xs) = ap (λ o. first_left xs at o) none in
    let same : slice_set xs at new ≡ xs = ap (λ l. slice_set xs at l) g.1 ∙ set_same xs at [] none in
    (sym (ap (λ (p : Option Value × List (List Value)). p.0) due), same ∙ sym (ap (λ (p : Option Value × List (List Value)). p.1) due))
taken (Ok (Some x)) xs at old new e g =
    let some : slice_get xs at ≡ Some (x ∷ new) = e ∙ ap (λ (l : List Value). Some l) g in
    let due : next_in xs at ≡ (Some x, slice_set xs at new) = ap (λ o. first_left xs at o) some in
    (sym (ap (λ (p : Option Value × List (List Value)). p.0) due), sym (ap (λ (p : Option Value × List (List Value)). p.1) due))
taken (Err f) xs at old new e g = ap (λ l. slice_set xs at l) g ∙ set_same xs at old e
