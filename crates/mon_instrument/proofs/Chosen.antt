-- Numbers that pass a test.
use Rattle.std.proofs.Common.{◌≡◌, ℕ, zero, suc, ◌+◌, ◌-◌, ◌/◌, ◌<◌, ◌≤◌, ◌++◌, Bool, true, false, not, ◌&&◌, cond, eqb, List, [], ◌∷◌, refl, sym, ap, ◌∙◌, arith, eq-eqb, eqb-true, append_assoc, append-nil}
use Rattle.mon_words.specs.Words.{cell_of}
use Rattle.mon_words.specs.declared.history.Cell.{Cell}
use Rattle.mon_instrument.specs.Due.{chosen, differs}

pub chosen_same : (f g : ℕ → Bool) (from n : ℕ) → ((k : ℕ) → from ≤ k → k < from + n → f k ≡ g k) → chosen f from n ≡ chosen g from n
chosen_same f g from zero h = refl
chosen_same f g from (suc n) h =
    let a = chosen_same f g from n (λ k l u. h k l (omega arith)) in let b = h (from + n) (omega arith) (omega arith) in
    λ i. a i ++ cond (b i) ((from + n) ∷ []) []

pub chosen_never : (f : ℕ → Bool) (from n : ℕ) → ((k : ℕ) → from ≤ k → k < from + n → f k ≡ false) → chosen f from n ≡ []
chosen_never f from zero h = refl
chosen_never f from (suc n) h =
    let a = chosen_never f from n (λ k l u. h k l (omega arith)) in let b = h (from + n) (omega arith) (omega arith) in
    λ i. a i ++ cond (b i) ((from + n) ∷ []) []

pub chosen_split : (f : ℕ → Bool) (from n m : ℕ) → chosen f from (n + m) ≡ chosen f from n ++ chosen f (from + n) m
chosen_split f from n zero = let e : n + 0 ≡ n = omega arith in ap (chosen f from) e ∙ sym (append-nil (chosen f from n))
chosen_split f from n (suc m) =
    let e : n + suc m ≡ suc (n + m) = omega arith in
    let p : from + (n + m) ≡ from + n + m = omega arith in
    ap (chosen f from) e ∙ ((λ i. chosen_split f from n m i ++ cond (f (p i)) (p i ∷ []) [])
    ∙ append_assoc (chosen f from n) (chosen f (from + n) m) (cond (f (from + n + m)) ((from + n + m) ∷ []) []))

pub chosen_more : (f : ℕ → Bool) (a b c : ℕ) → a ≤ b → b ≤ c → chosen f a (c - a) ≡ chosen f a (b - a) ++ chosen f b (c - b)
chosen_more f a b c p q =
    let e : c - a ≡ (b - a) + (c - b) = omega arith in let m : a + (b - a) ≡ b = omega arith in
    ap (chosen f a) e ∙ (chosen_split f a (b - a) (c - b) ∙ ap (λ z. chosen f a (b - a) ++ chosen f z (c - b)) m)

pub chosen_none : (f : ℕ → Bool) (a b : ℕ) → b ≤ a → chosen f a (b - a) ≡ []
chosen_none f a b h = let e : b - a ≡ 0 = omega arith in ap (chosen f a) e

one : (b : Bool) (l m : ℕ) → m ≡ l → cond b (m ∷ []) [] ≡ cond b (l ∷ []) []
one b l m e = ap (λ z. cond b (z ∷ []) []) e

pub chosen_one : (f : ℕ → Bool) (l m : ℕ) → m ≡ suc l → chosen f l (m - l) ≡ cond (f l) (l ∷ []) []
chosen_one f l m e = let n : m - l ≡ 1 = omega arith in let z : l + 0 ≡ l = omega arith in ap (chosen f l) n ∙ (λ i. cond (f (z i)) (z i ∷ []) [])

-- what passes within a range alone
pub chosen_part : (f g : ℕ → Bool) (a b n : ℕ) → b ≤ n → ((k : ℕ) → a ≤ k → k < b → f k ≡ g k) → ((k : ℕ) → k < n → (a ≤ k → k < b → ⊥) → g k ≡ false) → a ≤ b → chosen f a (b - a) ≡ chosen g 0 (n - 0)
chosen_part f g a b n h same out low =
    let x : chosen f a (b - a) ≡ chosen g a (b - a) = chosen_same f g a (b - a) (λ k l u. same k l (omega arith)) in
    let y : chosen g 0 (a - 0) ≡ [] = chosen_never g 0 (a - 0) (λ k l u. out k (omega arith) (λ p q. absurd (omega arith))) in
    let z : chosen g b (n - b) ≡ [] = chosen_never g b (n - b) (λ k l u. out k (omega arith) (λ p q. absurd (omega arith))) in
    let v = chosen_more g 0 a n (omega arith) (omega arith) in
    let w = chosen_more g a b n low h in
    x ∙ sym (v ∙ ((λ i. y i ++ w i) ∙ ((λ i. chosen g a (b - a) ++ z i) ∙ append-nil (chosen g a (b - a)))))

-- cells that differ
both_true : (a b : Bool) → a ≡ true → b ≡ true → not (a && b) ≡ false
both_true a b e f = λ i. not (e i && f i)

one_not : (a b : Bool) → (a ≡ true → b ≡ true → ⊥) → not (a && b) ≡ true
one_not true true h = absurd (h refl refl)
one_not true false h = refl
one_not false b h = refl

pub same_cell : (c d : Cell) → c ≡ d → differs c d ≡ false
same_cell c d e = both_true (eqb c.want d.want) (eqb c.live d.live) (eq-eqb c.want d.want (ap (λ (z : Cell). z.want) e)) (eq-eqb c.live d.live (ap (λ (z : Cell). z.live) e))

pub other_cell : (m n : ℕ) → (m / 65536 ≡ n / 65536 → ⊥) → differs (cell_of m) (cell_of n) ≡ true
other_cell m n h = one_not (eqb (cell_of m).want (cell_of n).want) (eqb (cell_of m).live (cell_of n).live)
    (λ e f. let a = eqb-true (cell_of m).want (cell_of n).want e in let b = eqb-true (cell_of m).live (cell_of n).live f in h (omega arith))
