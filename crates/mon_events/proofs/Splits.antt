-- What `split_once` at a character cuts off a text, in terms of all the parts.
use Rattle.std.proofs.Common.{◌≡◌, ◌≢◌, ℕ, ◌<◌, ◌==◌, false, List, [], ◌∷◌, ◌++◌, length, get_or, Option, Some, None, MatchOption, Bor, ap, ◌∙◌, arith, rules, length-append}
use Rattle.std.specs.List.{slice_split, All}
use Rattle.std.proofs.lemmas.Str.Pattern.{IsSplitOnceResult, split_parts}
use Rattle.std.proofs.lemmas.Bool.{ne_eqb}
use Rattle.std.proofs.lemmas.List.{get_or_default}
use Rattle.std.proofs.lemmas.List.Splits.{slice_split_none, slice_split_at}

abbrev Around : ℕ → List ℕ → Option (Bor (List ℕ) × Bor (List ℕ)) → Type 0
Around c bs r = MatchOption r
    (slice_split (λ b. b == c) bs ≡ bs ∷ [])
    (λ x. (slice_split (λ b. b == c) bs ≡ x.0.now ∷ slice_split (λ b. b == c) x.1.now) × (length x.1.now < length bs))

none_of : (c : ℕ) (bs : List ℕ) → ((i : ℕ) → i < length bs → get_or bs i 0 ≢ c) → All (λ x. (x == c) ≡ false) bs
none_of c bs h = λ k d lt. ne_eqb _ c (λ e. h k lt (get_or_default bs k 0 d lt ∙ e))

pub around : (c : ℕ) (bs : List ℕ) (r : Option (Bor (List ℕ) × Bor (List ℕ))) → IsSplitOnceResult c bs r → c < 128 → Around c bs r
around c bs None h low = slice_split_none (λ b. b == c) bs (none_of c bs (split_parts c bs None h low))
around c bs (Some x) h low =
    let parts = split_parts c bs (Some x) h low in
    let whole : bs ≡ x.0.now ++ (c ∷ x.1.now) = parts.0 in (
      ap (slice_split (λ b. b == c)) whole ∙ slice_split_at (λ b. b == c) x.0.now c x.1.now (none_of c x.0.now parts.1) (search rules),
      omega (arith, ap length whole, length-append x.0.now (c ∷ x.1.now)),
    )
