-- No two functions of a generated program have one name.
use Rattle.std.proofs.Common.{◌≡◌, ℕ, zero, suc, ◌+◌, ◌<◌, ◌≤◌, ◌^◌, ◌==◌, ◌||◌, ◌&&◌, Bool, true, false, List, [], ◌∷◌, ◌++◌, Option, Some, None, if◌then◌else◌, refl, sym, ap, ◌∙◌, arith, codes, decimal}
use Rattle.std.proofs.lemmas.Bool.Decides.{nat_tests}
use Rattle.std.proofs.lemmas.Fmt.{decimal_injective}
use Rattle.std.proofs.lemmas.List.{append_assoc}
use Rattle.mon_code.specs.Programs.{is_text}
use Rattle.mon_compile.specs.Expressions.{is_local}
use Rattle.mon_compile.specs.Faults.{duplicate, has_twin}
use Rattle.mon_trees.specs.declared.tree.Function.{Function}
use Rattle.mon_trees.specs.declared.tree.ModuleItem.{ModuleItem}
use Rattle.mon_trees.specs.declared.tree.ModuleItem.TheVariants as item
use Rattle.mon_gen.specs.Generated.{loop_name, loop_function, loops, sum_function, generated}

same_by : (x y : ℕ) (xs ys : List ℕ) (first more : Bool) → (x == y) ≡ first → (more ≡ true → xs ≡ ys) → (first && more) ≡ true → (x ∷ xs) ≡ (y ∷ ys)
same_by x y xs ys false more e rest h = let k : false ≡ true = h in cc
same_by x y xs ys true false e rest h = let k : false ≡ true = h in cc
same_by x y xs ys true true e rest h =
    let number : x ≡ y = grind (arith, nat_tests) in
    let others : xs ≡ ys = rest refl in
    cc

-- texts that are told as the same are
same_text : (xs ys : List ℕ) → is_text xs ys ≡ true → xs ≡ ys
same_text [] [] h = refl
same_text [] (y ∷ ys) h = let k : false ≡ true = h in cc
same_text (x ∷ xs) [] h = let k : false ≡ true = h in cc
same_text (x ∷ xs) (y ∷ ys) h = same_by x y xs ys (x == y) (is_text xs ys) refl (λ e. same_text xs ys e) h

other_by : (xs ys : List ℕ) (b : Bool) → is_text xs ys ≡ b → (xs ≡ ys → ⊥) → is_text xs ys ≡ false
other_by xs ys false e h = e
other_by xs ys true e h = absurd (h (same_text xs ys e))

other_text : (xs ys : List ℕ) → (xs ≡ ys → ⊥) → is_text xs ys ≡ false
other_text xs ys h = other_by xs ys (is_text xs ys) refl h

-- the names of the first loops, the last one first
names : ℕ → List (List ℕ)
names zero = []
names (suc k) = loop_name k ∷ names k

other_loop : (j k : ℕ) → j < k → k < 2 ^ 64 → is_text (loop_name j) (loop_name k) ≡ false
other_loop j k below small = other_text (decimal j) (decimal k) (λ e. let same : j ≡ k = decimal_injective j k (omega arith) small e in omega arith)

new_loop : (bound k : ℕ) → bound ≤ k → k < 2 ^ 64 → is_local (names bound) (loop_name k) ≡ false
unfolding names
new_loop zero k within small = refl
new_loop (suc j) k within small = ap (λ (b : Bool). b || is_local (names j) (loop_name k)) (other_loop j k (omega arith) small) ∙ new_loop j k (omega arith) small

new_sum : (bound : ℕ) → is_local (names bound) (codes "go") ≡ false
unfolding names
new_sum zero = refl
new_sum (suc j) = new_sum j

-- a function with a new name and one parameter is no duplicate
passed : (bound : List (List ℕ)) (f : Function) (items : List ModuleItem) → is_local bound f.name ≡ false → has_twin f.parameters ≡ false → duplicate bound (item.Function f ∷ items) ≡ duplicate (f.name ∷ bound) items
passed bound f items new single =
    ap (λ (b : Bool). if b || has_twin f.parameters then Some f.line else duplicate (f.name ∷ bound) items) new
    ∙ ap (λ (b : Bool). if b then Some f.line else duplicate (f.name ∷ bound) items) single

passed_loops : (n : ℕ) (more : List ModuleItem) → n < 2 ^ 64 → duplicate [] (loops n ++ more) ≡ duplicate (names n) more
unfolding names
passed_loops zero more small = refl
passed_loops (suc k) more small =
    ap (duplicate []) (append_assoc (loops k) (item.Function (loop_function k) ∷ []) more)
    ∙ (passed_loops k (item.Function (loop_function k) ∷ more) (omega arith)
    ∙ passed (names k) (loop_function k) more (new_loop k k (omega arith) (omega arith)) refl)

pub no_duplicate : (n : ℕ) → n < 2 ^ 64 → duplicate [] (generated n).items ≡ None
no_duplicate n small = passed_loops n (item.Function (sum_function n) ∷ []) small ∙ passed (names n) (sum_function n) [] (new_sum n) refl
