-- The first bytes of what a store holds.
use Rattle.std.proofs.Common.{◌≡◌, ◌∙◌, ℕ, List, ◌++◌, length, take, sym, ap, subst, min}
use Rattle.std.proofs.lemmas.List.{take_min}
use Rattle.std.specs.Prelude.{Option, Some}
use Rattle.mon_outside.specs.Outside.{ReadsAll}

-- the first bytes of what is held were read
pub reads_first : (held : Option (List ℕ)) (bytes old new : List ℕ) (count : ℕ) → held ≡ Some bytes → count ≡ min 262145 (length bytes) → new ≡ old ++ take count bytes → ReadsAll held old new
reads_first held bytes old new count e h is =
    let P : Option (List ℕ) → Type 0 = λ t. ReadsAll t old new in
    let cut : take count bytes ≡ take 262145 bytes = ap (λ n. take n bytes) h ∙ take_min 262145 bytes in
    subst P (sym e) (is ∙ ap (λ l. old ++ l) cut)
