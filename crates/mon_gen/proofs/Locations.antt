-- How many locations a generated program has: 20 for each loop, and 6 for each line that adds up.
use Rattle.std.proofs.Common.{◌≡◌, ℕ, zero, suc, ◌+◌, ◌*◌, Bool, true, false, List, [], ◌∷◌, ◌++◌, map, length, refl, sym, ap, ◌∙◌, arith, codes, pos, add-zero}
use Rattle.std.proofs.lemmas.List.{append_assoc, map-append, length-append, length-map}
use Rattle.mon_compile.specs.declared.assembly.Instruction.{Instruction}
use Rattle.mon_compile.specs.Contexts.{Context}
use Rattle.mon_compile.specs.Expressions.{Locals, call_code, constant_code, name_code}
use Rattle.mon_compile.specs.Functions.{function_code, is_generator, is_some_line, start_code, end_code, locals_of}
use Rattle.mon_compile.specs.Modules.{functions_of, bases_of, op_number}
use Rattle.mon_compile.specs.Statements.{Scheme, assign_code, block, block_code, for_code, statement_code}
use Rattle.mon_trees.specs.declared.tree.Function.{Function}
use Rattle.mon_trees.specs.declared.tree.Statement.{Statement}
use Rattle.mon_trees.specs.declared.tree.Targets.TheVariants as targets
use Rattle.mon_values.specs.declared.value.Value as value
use Rattle.mon_gen.specs.Generated.{add, additions, call, give_back, assign, loop_body, loop_name, lines_before, loop_function, sums, sum_body, sum_function, generated}
use Rattle.mon_gen.proofs.Silent.{loop_list, functions_are, no_yields, no_loop_yields}
use Rattle.mon_gen.proofs.Layers.{added_code, addition_code, assigned_code, looped_code, returned_code}

block_append : (xs ys : List Scheme) (context : Context) (at : ℕ) → block (xs ++ ys) context at ≡ block xs context at ++ block ys context (at + length (block xs context at))
block_append [] ys context at = rw add-zero refl
block_append (s ∷ xs) ys context at =
    let from : ℕ = at + length (s context at) in
    let front : List Instruction = block xs context from in
    let same : from + length front ≡ at + length (s context at ++ front) = omega (arith, length-append (s context at) front) in
    ap (λ rest. s context at ++ rest) (block_append xs ys context from)
    ∙ (sym (append_assoc (s context at) front (block ys context (from + length front)))
    ∙ ap (λ n. (s context at ++ front) ++ block ys context n) same)

long_append : (xs ys : List Scheme) (context : Context) (m n : ℕ) → ((at : ℕ) → length (block xs context at) ≡ m) → ((at : ℕ) → length (block ys context at) ≡ n) → (at : ℕ) → length (block (xs ++ ys) context at) ≡ m + n
long_append xs ys context m n before behind at =
    let from : ℕ = at + length (block xs context at) in
    ap length (block_append xs ys context at)
    ∙ (length-append (block xs context at) (block ys context from)
    ∙ (ap (λ k. k + length (block ys context from)) (before at) ∙ ap (λ k. m + k) (behind from)))

-- a statement more
one_more : (locals : Locals) (body : List Statement) (s : Statement) (context : Context) (m n : ℕ)
    → ((at : ℕ) → length (block_code locals body context at) ≡ m) → ((at : ℕ) → length (block_code locals (s ∷ []) context at) ≡ n)
    → (at : ℕ) → length (block_code locals (body ++ s ∷ []) context at) ≡ m + n
one_more locals body s context m n before here at =
    ap (λ schemes. length (block schemes context at)) (map-append (statement_code locals) body (s ∷ []))
    ∙ long_append (map (statement_code locals) body) (statement_code locals s ∷ []) context m n before here at

-- one statement, by its code
one_long : (locals : Locals) (s : Statement) (scheme : Scheme) (context : Context) (at n : ℕ) → statement_code locals s ≡ scheme → length (block (scheme ∷ []) context at) ≡ n → length (block_code locals (s ∷ []) context at) ≡ n
one_long locals s scheme context at n is h = ap (λ (code : Scheme). length (block (code ∷ []) context at)) is ∙ h

sums_long : (locals : Locals) (first n : ℕ) (context : Context) (at : ℕ) → length (block_code locals (sums first n) context at) ≡ 6 * n
sums_long locals first zero context at = refl
sums_long locals first (suc k) context at =
    one_more locals (sums first k) (add (first + k) (codes "s") (call (loop_name k))) context (6 * k) 6 (sums_long locals first k context)
    (λ from. one_long locals (add (first + k) (codes "s") (call (loop_name k))) _ context from 6 (added_code locals (first + k) (codes "s") (loop_name k)) refl) at
    ∙ omega arith

body_long : (locals : Locals) (first line n at : ℕ) → length (block_code locals (sums first n ++ give_back line (codes "s") ∷ []) [] at) ≡ 6 * n + 2
body_long locals first line n at =
    one_more locals (sums first n) (give_back line (codes "s")) [] (6 * n) 2 (sums_long locals first n [])
    (λ from. one_long locals (give_back line (codes "s")) _ [] from 2 (returned_code locals line (codes "s")) refl) at

code_long : (generates : Bool) (locals : Locals) (before n : ℕ) → generates ≡ false → length (start_code generates ++ (block_code locals (sum_body before n) [] (length (start_code generates)) ++ end_code)) ≡ 6 * n + 7
code_long true locals before n e = let k : true ≡ false = e in absurd (cc)
code_long false locals before n e =
    let rest : List Statement = sums (before + 3) n ++ give_back (before + 3 + n) (codes "s") ∷ [] in
    ap (λ (code : Scheme). length (start_code false ++ (block (code ∷ map (statement_code locals) rest) [] 1 ++ end_code))) (assigned_code locals (before + 2) (codes "s") 0)
    ∙ (ap (λ (k : ℕ). suc (suc (suc k))) (length-append (block_code locals rest [] 3) end_code ∙ ap (λ (k : ℕ). k + 2) (body_long locals (before + 3) (before + 3 + n) n 3)) ∙ omega arith)

loop_code_long : (generates : Bool) (locals : Locals) (before k : ℕ) → generates ≡ false → length (start_code generates ++ (block_code locals (loop_body before k) [] (length (start_code generates)) ++ end_code)) ≡ 20
loop_code_long true locals before k e = let k : true ≡ false = e in absurd (cc)
loop_code_long false locals before k e =
    ap (λ (code : Scheme). length (start_code false ++ (block (code ∷ statement_code locals (additions (before + 3)) ∷ statement_code locals (give_back (before + 5) (codes "t")) ∷ []) [] 1 ++ end_code))) (assigned_code locals (before + 2) (codes "t") k)
    ∙ (ap (λ (code : Scheme). length (start_code false ++ (block (assign_code locals (before + 2) (targets.Name (codes "t")) (constant_code (value.Int (pos k))) ∷ code ∷ statement_code locals (give_back (before + 5) (codes "t")) ∷ []) [] 1 ++ end_code))) (looped_code locals (before + 3))
    ∙ ap (λ (code : Scheme). length (start_code false ++ (block (assign_code locals (before + 2) (targets.Name (codes "t")) (constant_code (value.Int (pos k)))
    ∷ for_code locals (before + 3) (targets.Name (codes "i")) (call_code (name_code locals (codes "range")) (name_code locals (codes "n") ∷ [])) (block (addition_code locals (before + 3 + 1) ∷ []))
    ∷ code ∷ []) [] 1 ++ end_code))) (returned_code locals (before + 5) (codes "t")))

loop_long : (k : ℕ) → length (function_code (loop_function k)) ≡ 20
loop_long k = loop_code_long (is_generator (loop_function k)) (locals_of (loop_function k)) (lines_before k) k (ap is_some_line (no_loop_yields k))

sum_long : (n : ℕ) → length (function_code (sum_function n)) ≡ 6 * n + 7
sum_long n = code_long (is_generator (sum_function n)) (locals_of (sum_function n)) (lines_before n) n (ap is_some_line (no_yields n))

bases_append : (fs gs : List Function) → bases_of (fs ++ gs) ≡ bases_of fs ++ bases_of gs
bases_append [] gs = refl
bases_append (f ∷ fs) gs =
    ap (λ bases. map op_number (function_code f) ++ bases) (bases_append fs gs) ∙ sym (append_assoc (map op_number (function_code f)) (bases_of fs) (bases_of gs))

one_function : (f : Function) (n : ℕ) → length (function_code f) ≡ n → length (bases_of (f ∷ [])) ≡ n
one_function f n h = length-append (map op_number (function_code f)) [] ∙ (add-zero _ ∙ (length-map (function_code f) op_number ∙ h))

bases_more : (fs : List Function) (f : Function) (m n : ℕ) → length (bases_of fs) ≡ m → length (function_code f) ≡ n → length (bases_of (fs ++ f ∷ [])) ≡ m + n
bases_more fs f m n before here =
    ap length (bases_append fs (f ∷ []))
    ∙ (length-append (bases_of fs) (bases_of (f ∷ []))
    ∙ (ap (λ k. k + length (bases_of (f ∷ []))) before ∙ ap (λ k. m + k) (one_function f n here)))

loops_long : (n : ℕ) → length (bases_of (loop_list n)) ≡ 20 * n
loops_long zero = refl
loops_long (suc k) = bases_more (loop_list k) (loop_function k) (20 * k) 20 (loops_long k) (loop_long k) ∙ omega arith

pub locations : (n : ℕ) → length (bases_of (functions_of (generated n).items)) ≡ 26 * n + 7
locations n =
    ap (λ fs. length (bases_of fs)) (functions_are n)
    ∙ (bases_more (loop_list n) (sum_function n) (20 * n) (6 * n + 7) (loops_long n) (sum_long n) ∙ omega arith)
