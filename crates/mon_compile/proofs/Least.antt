-- The least line of lines in turn.
use Rattle.std.proofs.Common.{◌≡◌, ℕ, ◌+◌, ◌<◌, min, List, [], ◌∷◌, ◌++◌, length, map, drop, get_or, refl, ap, sym, ◌∙◌, arith}
use Rattle.std.specs.Prelude.{Option, Some, None}
use Rattle.std.proofs.lemmas.List.{append-nil}
use Rattle.mon_trees.specs.declared.tree.Function.{Function}
use Rattle.mon_trees.specs.declared.tree.ModuleItem.{ModuleItem}
use Rattle.mon_trees.specs.declared.tree.ModuleItem.TheVariants as item
use Rattle.mon_compile.specs.Earlier.{earlier}
use Rattle.mon_compile.specs.Faults.{least_of, least, where_so, is_large, large_lines_of, large_lines_in}
use Rattle.mon_compile.specs.Functions.{joined}
use Rattle.mon_compile.specs.Modules.{functions_of, constant_value}
use Rattle.mon_compile.proofs.Parts.{part_next}

min_assoc : (a b c : ℕ) → min (min a b) c ≡ min a (min b c)
min_assoc a b c = omega arith

least_of-min : (k n : ℕ) (ns : List ℕ) → least_of (min k n) ns ≡ min k (least_of n ns)
least_of-min k n [] = refl
least_of-min k n (m ∷ ns) = ap (λ a. least_of a ns) (min_assoc k n m) ∙ least_of-min k (min n m) ns

pub none_first : (line : Option ℕ) → earlier None line ≡ line
none_first None = refl
none_first (Some n) = refl

pub earlier_assoc : (a b c : Option ℕ) → earlier (earlier a b) c ≡ earlier a (earlier b c)
earlier_assoc a b None = refl
earlier_assoc a None (Some n) = refl
earlier_assoc None (Some m) (Some n) = refl
earlier_assoc (Some k) (Some m) (Some n) = ap (λ x. Some x) (min_assoc k m n)

least_from : (n : ℕ) (ns ms : List ℕ) → Some (least_of n (ns ++ ms)) ≡ earlier (Some (least_of n ns)) (least ms)
least_from n [] [] = refl
least_from n [] (m ∷ ms) = ap (λ x. Some x) (least_of-min n m ms)
least_from n (k ∷ ns) ms = least_from (min n k) ns ms

pub least_append : (a b : List ℕ) → least (a ++ b) ≡ earlier (least a) (least b)
least_append [] b = sym (none_first (least b))
least_append (n ∷ a) b = least_from n a b

-- the lines of a list, part by part
pub earlier_next : {A : Type 0} (f : A → List ℕ) (g : List A → List ℕ) (split : (x : A) (rest : List A) → g (x ∷ rest) ≡ f x ++ g rest) (xs : List A) (i : ℕ) (x : A) (line new whole found : Option ℕ) → i < length xs → x ≡ get_or xs i x
    → found ≡ least (f x) → new ≡ earlier line found → earlier line (least (g (drop i xs))) ≡ whole → earlier new (least (g (drop (i + 1) xs))) ≡ whole
earlier_next f g split xs i x line new whole found h is e n so_far =
    let rest = drop (i + 1) xs in
    ap (λ l. earlier l (least (g rest))) (n ∙ ap (λ l. earlier line l) e)
    ∙ earlier_assoc line (least (f x)) (least (g rest))
    ∙ ap (λ l. earlier line l) (sym (least_append (f x) (g rest)))
    ∙ ap (λ l. earlier line (least l)) (sym (split x rest))
    ∙ ap (λ l. earlier line (least (g l))) (sym (part_next xs i x h is))
    ∙ so_far

-- those of functions, item by item
pub of_functions : (f : Function → List ℕ) (x : ModuleItem) (rest : List ModuleItem) → joined (map f (functions_of (x ∷ rest))) ≡ joined (map f (functions_of (x ∷ []))) ++ joined (map f (functions_of rest))
of_functions f (item.Function h) rest = ap (λ l. l ++ joined (map f (functions_of rest))) (sym (append-nil (f h)))
of_functions f (item.Constant line name c) rest = refl
of_functions f (item.Text t) rest = refl

-- one part, and then another
pub least_both : (a b lines : List ℕ) (one two new : Option ℕ) → lines ≡ a ++ b → one ≡ least a → two ≡ least b → new ≡ earlier one two → new ≡ least lines
least_both a b lines one two new is e1 e2 n = n ∙ ap (λ l. earlier l two) e1 ∙ ap (λ l. earlier (least a) l) e2 ∙ sym (least_append a b) ∙ ap least (sym is)

-- three parts
pub least_three : (a b c lines : List ℕ) (one two three mid new : Option ℕ) → lines ≡ a ++ (b ++ c) → one ≡ least a → two ≡ least b → three ≡ least c → mid ≡ earlier one two → new ≡ earlier mid three → new ≡ least lines
least_three a b c lines one two three mid new is e1 e2 e3 m n =
    n
    ∙ ap (λ l. earlier l three) m
    ∙ earlier_assoc one two three
    ∙ ap (λ l. earlier one l) (least_both b c (b ++ c) two three (earlier two three) refl e2 e3 refl)
    ∙ least_both a (b ++ c) lines one (least (b ++ c)) (earlier one (least (b ++ c))) is e1 refl refl

-- the lines of a module, item by item
pub of_items : (x : ModuleItem) (rest : List ModuleItem) → large_lines_in (x ∷ rest) ≡ large_lines_in (x ∷ []) ++ large_lines_in rest
of_items (item.Function f) rest = ap (λ l. l ++ large_lines_in rest) (sym (append-nil (joined (map large_lines_of f.body))))
of_items (item.Constant line name c) rest = ap (λ l. l ++ large_lines_in rest) (sym (append-nil (where_so (is_large (constant_value c)) line)))
of_items (item.Text t) rest = refl
