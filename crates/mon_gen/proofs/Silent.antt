-- What a generated program has in none of its functions it does not have.
use Rattle.std.proofs.Common.{◌≡◌, ℕ, zero, suc, ◌+◌, Bool, true, false, if◌then◌else◌, List, [], ◌∷◌, ◌++◌, map, length, nat_lt, refl, sym, ap, ◌∙◌, codes}
use Rattle.std.proofs.lemmas.List.{append_assoc, map-append}
use Rattle.mon_compile.specs.Expressions.{Locals, is_local}
use Rattle.mon_compile.specs.Faults.{all_loose, loose_of, misplaced_in, most_locals, unless, is_large, where_so, large_lines_of, large_lines_in}
use Rattle.mon_compile.specs.Functions.{joined, with_names, names_of, locals_of, yields_of, is_generator}
use Rattle.mon_compile.specs.Modules.{functions_of, constant_value}
use Rattle.mon_trees.specs.declared.tree.Function.{Function}
use Rattle.mon_trees.specs.declared.tree.ModuleItem.{ModuleItem}
use Rattle.mon_trees.specs.declared.tree.ModuleItem.TheVariants as item
use Rattle.mon_trees.specs.declared.tree.Statement.{Statement}
use Rattle.mon_gen.specs.Generated.{add, additions, call, give_back, assign, loop_body, loop_name, lines_before, loop_function, loops, sums, sum_body, sum_function, generated}
use Rattle.mon_gen.proofs.Layers.{IsSilent, assigned, added, returned, looped, silent_large, silent_loose, silent_yields}

-- the functions of the loops
abbrev pub loop_list : ℕ → List Function
loop_list zero = []
loop_list (suc k) = loop_list k ++ loop_function k ∷ []

functions_append : (xs ys : List ModuleItem) → functions_of (xs ++ ys) ≡ functions_of xs ++ functions_of ys
functions_append [] ys = refl
functions_append (item.Function f ∷ xs) ys = ap (λ (fs : List Function). f ∷ fs) (functions_append xs ys)
functions_append (item.Constant line name c ∷ xs) ys = functions_append xs ys
functions_append (item.Text t ∷ xs) ys = functions_append xs ys

functions_of_loops : (n : ℕ) → functions_of (loops n) ≡ loop_list n
functions_of_loops zero = refl
functions_of_loops (suc k) = functions_append (loops k) (item.Function (loop_function k) ∷ []) ∙ ap (λ (fs : List Function). fs ++ loop_function k ∷ []) (functions_of_loops k)

pub functions_are : (n : ℕ) → functions_of (generated n).items ≡ loop_list n ++ sum_function n ∷ []
functions_are n = functions_append (loops n) (item.Function (sum_function n) ∷ []) ∙ ap (λ (fs : List Function). fs ++ sum_function n ∷ []) (functions_of_loops n)

pub joined_append : {A : Type 0} (xs ys : List (List A)) → joined (xs ++ ys) ≡ joined xs ++ joined ys
joined_append [] ys = refl
joined_append (x ∷ xs) ys = ap (λ zs. x ++ zs) (joined_append xs ys) ∙ sym (append_assoc x (joined xs) (joined ys))

-- nothing, and then nothing
two_silent : {A B : Type 0} (g : A → List B) (xs : List A) (x : A) → joined (map g xs) ≡ [] → g x ≡ [] → joined (map g (xs ++ x ∷ [])) ≡ []
two_silent g xs x before here =
    ap joined (map-append g xs (x ∷ []))
    ∙ (joined_append (map g xs) (g x ∷ [])
    ∙ (ap (λ ys. ys ++ (g x ++ [])) before
    ∙ ap (λ ys. ys ++ []) here))

loops_silent : {B : Type 0} (g : Function → List B) → ((k : ℕ) → g (loop_function k) ≡ []) → (n : ℕ) → joined (map g (loop_list n)) ≡ []
loops_silent g each zero = refl
loops_silent g each (suc k) = two_silent g (loop_list k) (loop_function k) (loops_silent g each k) (each k)

pub functions_silent : {B : Type 0} (g : Function → List B) → ((k : ℕ) → g (loop_function k) ≡ []) → (n : ℕ) → g (sum_function n) ≡ [] → joined (map g (functions_of (generated n).items)) ≡ []
functions_silent g each n last = ap (λ fs. joined (map g fs)) (functions_are n) ∙ two_silent g (loop_list n) (sum_function n) (loops_silent g each n) last

-- the lines of the function that adds up

sums_silent : (g : Statement → List ℕ) → IsSilent g → (first n : ℕ) → joined (map g (sums first n)) ≡ []
sums_silent g h first zero = refl
sums_silent g h first (suc k) = two_silent g (sums first k) (add (first + k) (codes "s") (call (loop_name k))) (sums_silent g h first k) (h.adds (first + k) (codes "s") (loop_name k))

pub body_silent : (g : Statement → List ℕ) → IsSilent g → (before n : ℕ) → joined (map g (sum_body before n)) ≡ []
body_silent g h before n =
    ap (λ (xs : List ℕ). xs ++ joined (map g (sums (before + 3) n ++ give_back (before + 3 + n) (codes "s") ∷ []))) (h.assigns (before + 2) (codes "s") 0)
    ∙ two_silent g (sums (before + 3) n) (give_back (before + 3 + n) (codes "s")) (sums_silent g h (before + 3) n) (h.returns (before + 3 + n) (codes "s"))

-- those of a loop

pub loop_silent : (g : Statement → List ℕ) → IsSilent g → (before k : ℕ) → joined (map g (loop_body before k)) ≡ []
loop_silent g h before k =
    ap (λ (xs : List ℕ). xs ++ (g (additions (before + 3)) ++ (g (give_back (before + 5) (codes "t")) ++ []))) (h.assigns (before + 2) (codes "t") k)
    ∙ (ap (λ (xs : List ℕ). xs ++ (g (give_back (before + 5) (codes "t")) ++ [])) (h.loops (before + 3))
    ∙ ap (λ (xs : List ℕ). xs ++ []) (h.returns (before + 5) (codes "t")))

loop_names : (before k : ℕ) → joined (map names_of (loop_body before k)) ≡ codes "t" ∷ codes "i" ∷ codes "t" ∷ []
loop_names before k =
    ap (λ (xs : Locals). xs ++ (names_of (additions (before + 3)) ++ (names_of (give_back (before + 5) (codes "t")) ++ []))) (assigned (before + 2) (codes "t") k)
    ∙ (ap (λ (xs : Locals). codes "t" ∷ (xs ++ (names_of (give_back (before + 5) (codes "t")) ++ []))) (looped (before + 3))
    ∙ ap (λ (xs : Locals). codes "t" ∷ codes "i" ∷ codes "t" ∷ (xs ++ [])) (returned (before + 5) (codes "t")))

-- their locals are n and s

append_by : (b : Bool) (names xs ys : Locals) (x : List ℕ)
    → ((more : Locals) → with_names more (xs ++ ys) ≡ with_names (with_names more xs) ys)
    → (if b then with_names names (xs ++ ys) else with_names (names ++ x ∷ []) (xs ++ ys)) ≡ with_names (if b then with_names names xs else with_names (names ++ x ∷ []) xs) ys
append_by true names xs ys x h = h names
append_by false names xs ys x h = h (names ++ x ∷ [])

names_append : (xs ys names : Locals) → with_names names (xs ++ ys) ≡ with_names (with_names names xs) ys
names_append [] ys names = refl
names_append (x ∷ xs) ys names = append_by (is_local names x) names xs ys x (λ more. names_append xs ys more)

abbrev pub sum_locals : Locals
sum_locals = codes "n" ∷ codes "s" ∷ []

sums_names : (first n : ℕ) → with_names sum_locals (joined (map names_of (sums first n))) ≡ sum_locals
sums_names first zero = refl
sums_names first (suc k) =
    ap (λ (xs : List Locals). with_names sum_locals (joined xs)) (map-append names_of (sums first k) (add (first + k) (codes "s") (call (loop_name k)) ∷ []))
    ∙ (ap (λ (xs : Locals). with_names sum_locals (joined (map names_of (sums first k) ++ xs ∷ []))) (added (first + k) (codes "s") (call (loop_name k)))
    ∙ (ap (with_names sum_locals) (joined_append (map names_of (sums first k)) ((codes "s" ∷ []) ∷ []))
    ∙ (names_append (joined (map names_of (sums first k))) (codes "s" ∷ []) sum_locals
    ∙ ap (λ (locals : Locals). with_names locals (codes "s" ∷ [])) (sums_names first k))))

sum_names : (before n : ℕ) → with_names (codes "n" ∷ []) (joined (map names_of (sum_body before n))) ≡ sum_locals
sum_names before n =
    ap (λ (xs : Locals). with_names (codes "n" ∷ []) (xs ++ joined (map names_of (sums (before + 3) n ++ give_back (before + 3 + n) (codes "s") ∷ [])))) (assigned (before + 2) (codes "s") 0)
    ∙ (ap (λ (xs : List Locals). with_names sum_locals (joined xs)) (map-append names_of (sums (before + 3) n) (give_back (before + 3 + n) (codes "s") ∷ []))
    ∙ (ap (λ (xs : Locals). with_names sum_locals (joined (map names_of (sums (before + 3) n) ++ xs ∷ []))) (returned (before + 3 + n) (codes "s"))
    ∙ (ap (with_names sum_locals) (joined_append (map names_of (sums (before + 3) n)) ([] ∷ []))
    ∙ (names_append (joined (map names_of (sums (before + 3) n))) [] sum_locals
    ∙ sums_names (before + 3) n))))

pub locals_are : (n : ℕ) → locals_of (sum_function n) ≡ sum_locals
locals_are n = sum_names (lines_before n) n

-- none of them stands outside a loop as a `break` or a `continue`

loose_joined : (body : List Statement) (inside : Bool) → all_loose (map loose_of body) inside ≡ joined (map (λ s. loose_of s inside) body)
loose_joined [] inside = refl
loose_joined (s ∷ body) inside = ap (λ (lines : List ℕ). loose_of s inside ++ lines) (loose_joined body inside)

pub no_yields : (n : ℕ) → joined (map yields_of (sum_function n).body) ≡ []
no_yields n = body_silent yields_of silent_yields (lines_before n) n

pub no_loop_yields : (k : ℕ) → joined (map yields_of (loop_function k).body) ≡ []
no_loop_yields k = loop_silent yields_of silent_yields (lines_before k) k

-- faults that functions have

large_append : (xs ys : List ModuleItem) → large_lines_in (xs ++ ys) ≡ large_lines_in xs ++ large_lines_in ys
large_append [] ys = refl
large_append (item.Function f ∷ xs) ys =
    ap (λ (lines : List ℕ). joined (map large_lines_of f.body) ++ lines) (large_append xs ys) ∙ sym (append_assoc (joined (map large_lines_of f.body)) (large_lines_in xs) (large_lines_in ys))
large_append (item.Constant line name c ∷ xs) ys =
    ap (λ (lines : List ℕ). where_so (is_large (constant_value c)) line ++ lines) (large_append xs ys) ∙ sym (append_assoc (where_so (is_large (constant_value c)) line) (large_lines_in xs) (large_lines_in ys))
large_append (item.Text t ∷ xs) ys = large_append xs ys

one_more_small : (xs : List ModuleItem) (f : Function) → large_lines_in xs ≡ [] → joined (map large_lines_of f.body) ≡ [] → large_lines_in (xs ++ item.Function f ∷ []) ≡ []
one_more_small xs f before here =
    large_append xs (item.Function f ∷ [])
    ∙ (ap (λ (lines : List ℕ). lines ++ (joined (map large_lines_of f.body) ++ [])) before ∙ ap (λ (lines : List ℕ). lines ++ []) here)

loops_small : (n : ℕ) → large_lines_in (loops n) ≡ []
loops_small zero = refl
loops_small (suc k) = one_more_small (loops k) (loop_function k) (loops_small k) (loop_silent large_lines_of silent_large (lines_before k) k)

pub not_large : (n : ℕ) → large_lines_in (generated n).items ≡ []
not_large n = one_more_small (loops n) (sum_function n) (loops_small n) (body_silent large_lines_of silent_large (lines_before n) n)

-- few locals, and nothing loose
placed : (f : Function) (locals : Locals) → locals_of f ≡ locals → nat_lt (length locals) (most_locals + 1) ≡ true → joined (map (λ s. loose_of s false) f.body) ≡ [] → misplaced_in f ≡ []
placed f locals are small loose =
    ap (λ (names : Locals). unless (nat_lt (length names) (most_locals + 1)) f.line ++ all_loose (map loose_of f.body) false) are
    ∙ (ap (λ (b : Bool). unless b f.line ++ all_loose (map loose_of f.body) false) small
    ∙ (loose_joined f.body false ∙ loose))

loop_placed : (k : ℕ) → misplaced_in (loop_function k) ≡ []
loop_placed k =
    placed (loop_function k) (codes "n" ∷ codes "t" ∷ codes "i" ∷ [])
    (ap (with_names (codes "n" ∷ [])) (loop_names (lines_before k) k)) refl
    (loop_silent (λ s. loose_of s false) silent_loose (lines_before k) k)

pub not_misplaced : (n : ℕ) → joined (map misplaced_in (functions_of (generated n).items)) ≡ []
not_misplaced n =
    functions_silent misplaced_in loop_placed n
    (placed (sum_function n) sum_locals (locals_are n) refl (body_silent (λ s. loose_of s false) silent_loose (lines_before n) n))
