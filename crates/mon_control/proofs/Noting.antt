-- The counts that a stopped world has noted, as a list.
use Rattle.std.proofs.Common.{◌≡◌, ℕ, zero, suc, ◌<◌, ◌≤◌, List, [], ◌∷◌, ◌++◌, take, length, get_or, Option, Some, unwrap_or, sym, refl, ap, ◌∙◌, arith}
use Rattle.std.proofs.lemmas.List.{take_all}
use Rattle.mon_words.specs.Standing.{table}

take_or : (xs : List ℕ) (n : ℕ) → n < length xs → take (suc n) xs ≡ take n xs ++ get_or xs n 0 ∷ []
take_or [] n h = absurd (omega arith)
take_or (x ∷ xs) zero h = refl
take_or (x ∷ xs) (suc n) h = ap (λ (z : List ℕ). x ∷ z) (take_or xs n (omega arith))

table_front : (xs : List ℕ) (f : ℕ → ℕ) (n : ℕ) → n ≤ length xs → ((t : ℕ) → t < length xs → f t ≡ get_or xs t 0) → table n f ≡ take n xs
table_front xs f zero h e = refl
table_front xs f (suc n) h e = let a = table_front xs f n (omega arith) e in let b = e n (omega arith) in (λ i. a i ++ b i ∷ []) ∙ sym (take_or xs n (omega arith))

-- where each count of a list is noted, they make that list
pub noted_counts : (counts : List ℕ) (noted : ℕ → Option ℕ) (n : ℕ) → length counts ≡ n → ((t : ℕ) → t < n → noted t ≡ Some (get_or counts t 0)) → table n (λ t. unwrap_or (noted t) 0) ≡ counts
noted_counts counts noted n wide are = table_front counts (λ t. unwrap_or (noted t) 0) n (omega arith) (λ t l. ap (λ o. unwrap_or o 0) (are t (omega arith))) ∙ take_all n counts (omega arith)
