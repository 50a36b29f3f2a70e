-- Sums over lists that change at one place.
use Rattle.std.proofs.Common.{◌≡◌, ℕ, zero, suc, ◌+◌, ◌<◌, ◌≤◌, ◌≢◌, List, [], ◌∷◌, ◌++◌, set, sym, ap, ◌∙◌, arith, cond, eq-eqb, ne_eqb, lt-ltb, le-ltb}
use mathlib.Core.Logic.{dite}
use native.Mathlib.Decide.{ℕ_discrete, dec_le}
use mathlib.Core.Option.{some, some-injective, some-ne-none}
use lib.ListN.{get_elem?}
use Rattle.mon_gate.specs.Sums.{total, only, once_below}

module _ {A : Type 0} (g : A → ℕ) where
  pub total-append : (l m : List A) → total g (l ++ m) ≡ total g l + total g m
  total-append [] m = omega arith
  total-append (x ∷ xs) m = omega (arith, total-append xs m)

  pub total-set : (l : List A) (j : ℕ) (v w : A) → get_elem? l j ≡ some v → total g (set l j w) + g v ≡ total g l + g w
  total-set [] j v w e = absurd (some-ne-none v (sym e))
  total-set (x ∷ xs) zero v w e = omega (arith, ap g (some-injective x v e))
  total-set (x ∷ xs) (suc j) v w e = omega (arith, total-set xs j v w e)

  pub term_le : (l : List A) (j : ℕ) (v : A) → get_elem? l j ≡ some v → g v ≤ total g l
  term_le [] j v e = absurd (some-ne-none v (sym e))
  term_le (x ∷ xs) zero v e = omega (arith, ap g (some-injective x v e))
  term_le (x ∷ xs) (suc j) v e = omega (arith, term_le xs j v e)

  pub terms_le : (l : List A) (j k : ℕ) (v u : A) → k ≢ j → get_elem? l j ≡ some v → get_elem? l k ≡ some u → g v + g u ≤ total g l
  terms_le [] j k v u n e d = absurd (some-ne-none v (sym e))
  terms_le (x ∷ xs) zero zero v u n e d = absurd (n (λ i. zero))
  terms_le (x ∷ xs) zero (suc k) v u n e d = omega (arith, ap g (some-injective x v e), term_le xs k u d)
  terms_le (x ∷ xs) (suc j) zero v u n e d = omega (arith, ap g (some-injective x u d), term_le xs j v e)
  terms_le (x ∷ xs) (suc j) (suc k) v u n e d = omega (arith, terms_le xs j k v u (λ h. n (ap suc h)) e d)

module _ {A : Type 0} (f g : A → ℕ) (below : (a : A) → f a ≤ g a) where
  pub total_le : (l : List A) → total f l ≤ total g l
  total_le [] = omega arith
  total_le (x ∷ xs) = omega (arith, below x, total_le xs)

  -- what g has more than f at one place it has more in all
  pub total_gap : (l : List A) (j : ℕ) (v : A) → get_elem? l j ≡ some v → total f l + g v ≤ total g l + f v
  total_gap [] j v e = absurd (some-ne-none v (sym e))
  total_gap (x ∷ xs) zero v e = let h = total_le xs in omega (arith, ap g (some-injective x v e), ap f (some-injective x v e))
  total_gap (x ∷ xs) (suc j) v e = omega (arith, below x, total_gap xs j v e)

pub only-same : (x : ℕ) → only x x ≡ 1
only-same x = ap (λ b. cond b 1 0) (eq-eqb x x (λ i. x))

pub below_yes : (x n : ℕ) → x < n → once_below x n ≡ 1
below_yes x n h = ap (λ b. cond b 1 0) (lt-ltb x n h)

pub below_no : (x n : ℕ) → n ≤ x → once_below x n ≡ 0
below_no x n h = ap (λ b. cond b 1 0) (le-ltb x n h)

only_no : (x y : ℕ) → y ≢ x → only x y ≡ 0
only_no x y n = ap (λ b. cond b 1 0) (ne_eqb y x n)

-- one number more below n
pub once_more : (x n : ℕ) → once_below x n + only x n ≡ once_below x (n + 1)
once_more x n = dite (ℕ_discrete n x)
    (λ e. let same : only x n ≡ 1 = ap (only x) e ∙ only-same x in let no : once_below x n ≡ 0 = below_no x n (omega arith) in let yes : once_below x (n + 1) ≡ 1 = below_yes x (n + 1) (omega arith) in omega arith)
    (λ ne. let none : only x n ≡ 0 = only_no x n ne in dite (dec_le n x)
    (λ h. let no : once_below x n ≡ 0 = below_no x n h in let also : once_below x (n + 1) ≡ 0 = below_no x (n + 1) (omega arith) in omega arith)
    (λ h. let no : once_below x n ≡ 1 = below_yes x n (omega arith) in let also : once_below x (n + 1) ≡ 1 = below_yes x (n + 1) (omega arith) in omega arith))

-- a number that counts once is below n
pub below_le : (x n : ℕ) → 0 < once_below x n → x < n
below_le x n h = dite (dec_le n x) (λ l. let no : once_below x n ≡ 0 = below_no x n l in absurd (omega arith)) (λ l. omega arith)

pub only_at : (x y : ℕ) → 0 < only x y → y ≡ x
only_at x y h = dite (ℕ_discrete y x) (λ e. e) (λ n. let no : only x y ≡ 0 = only_no x y n in absurd (omega arith))

pub apart_below : (x n : ℕ) → once_below x n ≤ 1
apart_below x n = dite (dec_le n x) (λ h. let no : once_below x n ≡ 0 = below_no x n h in omega arith) (λ h. let yes : once_below x n ≡ 1 = below_yes x n (omega arith) in omega arith)
