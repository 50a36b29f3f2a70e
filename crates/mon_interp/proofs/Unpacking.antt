-- Items that are pushed, the last first.
use Rattle.std.proofs.Common.{◌≡◌, ℕ, ◌+◌, ◌-◌, ◌<◌, List, ◌∷◌, ◌++◌, drop, ap, sym, ◌∙◌, arith}
use Rattle.std.specs.Prelude.{slice_get, Some}
use Rattle.mon_values.specs.declared.value.Value.{Value}
use Rattle.mon_frames.proofs.Lists.{left_some}

pub pushed_more : (items before stack later : List Value) (left : ℕ) (item : Value) → 0 < left → slice_get items (left - 1) ≡ Some item → stack ≡ drop left items ++ before → later ≡ item ∷ stack → later ≡ drop (left - 1) items ++ before
pushed_more items before stack later left item h found e is =
    let at : left - 1 + 1 ≡ left = omega arith in
    is ∙ ap (λ (l : List Value). item ∷ l) e ∙ ap (λ (l : List Value). l ++ before) (sym (left_some items (left - 1) item found ∙ ap (λ k. item ∷ drop k items) at))
