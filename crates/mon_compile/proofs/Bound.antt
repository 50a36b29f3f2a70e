-- Names in turn, up to a bound.
use Rattle.std.proofs.Common.{◌≡◌, ℕ, ◌+◌, ◌<◌, ◌≤◌, ◌||◌, nat_lt, Bool, List, [], ◌∷◌, ◌++◌, true, false, if◌then◌else◌, length, map, drop, get_or, refl, ap, sym, ◌∙◌, subst, arith, length-append}
use Rattle.std.specs.Prelude.{Result, OnOk}
use Rattle.std.proofs.lemmas.Bool.Decides.{nat_tests}
use Rattle.mon_trees.specs.declared.tree.Expression.{Expression}
use Rattle.mon_trees.specs.declared.tree.Function.{Function}
use Rattle.mon_trees.specs.declared.tree.Handler.{Handler}
use Rattle.mon_trees.specs.declared.tree.Statement.{Statement}
use Rattle.mon_trees.specs.declared.tree.Statement.TheViews as views
use Rattle.mon_trees.specs.declared.tree.Targets.{Targets}
use Rattle.mon_compile.specs.Bindings.{few_names}
use Rattle.mon_compile.specs.Clauses.{clause_names}
use Rattle.mon_compile.specs.Expressions.{is_local}
use Rattle.mon_compile.specs.Functions.{joined, target_names, names_step, handler_names_step, names_of, with_names, locals_of}
use Rattle.mon_compile.proofs.Parts.{part_next, on_ok}
use Rattle.mon_compile.proofs.Unrolled.{at_if, at_for, at_try}

pub bound_in_turn : (most : ℕ) (names a b : List (List ℕ)) → few_names most names (a ++ b) ≡ few_names most (few_names most names a) b
bound_in_turn most names [] b = refl
bound_in_turn most names (n ∷ a) b =
    elim (nat_lt most (length names) || is_local names n) as (λ known. (if known then few_names most names (a ++ b) else few_names most (names ++ n ∷ []) (a ++ b)) ≡ few_names most (if known then few_names most names a else few_names most (names ++ n ∷ []) a) b)
    [ true ↦ bound_in_turn most names a b | false ↦ bound_in_turn most (names ++ n ∷ []) a b ]

pub bound_next : {A : Type 0} (most : ℕ) (f : A → List (List ℕ)) (xs : List A) (i : ℕ) (x : A) (names new whole : List (List ℕ)) → i < length xs → x ≡ get_or xs i x → new ≡ few_names most names (f x)
    → few_names most names (joined (map f (drop i xs))) ≡ whole → few_names most new (joined (map f (drop (i + 1) xs))) ≡ whole
bound_next most f xs i x names new whole h is n so_far =
    let rest = joined (map f (drop (i + 1) xs)) in
    ap (λ l. few_names most l rest) n
    ∙ sym (bound_in_turn most names (f x) rest)
    ∙ ap (λ l. few_names most names (joined (map f l))) (sym (part_next xs i x h is))
    ∙ so_far

pub bound_twice : (most : ℕ) (names a b one two : List (List ℕ)) → one ≡ few_names most names a → two ≡ few_names most one b → two ≡ few_names most names (a ++ b)
bound_twice most names a b one two e1 e2 = e2 ∙ ap (λ l. few_names most l b) e1 ∙ sym (bound_in_turn most names a b)

abbrev Names : Type 0
Names = List (List ℕ)

abbrev pub of_block : List Statement → Names
of_block body = joined (map names_of body)

abbrev pub of_clauses : List Handler → Names
of_clauses handlers = joined (map clause_names handlers)

pub if_bound : (most line : ℕ) (e : Expression) (a b : List Statement) (s : Statement) (names one two a' b' : Names) {E : Type 0} (r : Result (Unit {0}) E) → s ≡ views.If line e a b → a' ≡ of_block a → b' ≡ of_block b
    → one ≡ few_names most names a' → OnOk r (two ≡ few_names most one b') → OnOk r (two ≡ few_names most names (names_of s))
if_bound most line e a b s names one two a' b' r is ea eb e1 =
    on_ok r (λ (e2 : two ≡ few_names most one b').
    bound_twice most names (of_block a) (of_block b) one two (e1 ∙ ap (λ l. few_names most names l) ea) (e2 ∙ ap (λ l. few_names most one l) eb)
    ∙ ap (λ l. few_names most names l) (sym (ap names_of is ∙ at_if Names Names names_step handler_names_step line e a b)))

pub for_bound : (most line : ℕ) (t : Targets) (e : Expression) (a : List Statement) (s : Statement) (names one two a' : Names) {E : Type 0} (r : Result (Unit {0}) E) → s ≡ views.For line t e a → a' ≡ of_block a
    → one ≡ few_names most names (target_names t) → OnOk r (two ≡ few_names most one a') → OnOk r (two ≡ few_names most names (names_of s))
for_bound most line t e a s names one two a' r is ea e1 =
    on_ok r (λ (e2 : two ≡ few_names most one a').
    bound_twice most names (target_names t) (of_block a) one two e1 (e2 ∙ ap (λ l. few_names most one l) ea)
    ∙ ap (λ l. few_names most names l) (sym (ap names_of is ∙ at_for Names Names names_step handler_names_step line t e a)))

pub try_bound : (most line : ℕ) (a : List Statement) (handlers : List Handler) (f : List Statement) (s : Statement) (names one two three a' h' f' : Names) {E : Type 0} (r : Result (Unit {0}) E) → s ≡ views.Try line a handlers f
    → a' ≡ of_block a → h' ≡ joined (map clause_names handlers) → f' ≡ of_block f
    → one ≡ few_names most names a' → two ≡ few_names most one h' → OnOk r (three ≡ few_names most two f') → OnOk r (three ≡ few_names most names (names_of s))
try_bound most line a handlers f s names one two three a' h' f' r is ea eh ef e1 e2 =
    let more = joined (map clause_names handlers) in
    on_ok r (λ (e3 : three ≡ few_names most two f').
    bound_twice most names (of_block a) (more ++ of_block f) one three (e1 ∙ ap (λ l. few_names most names l) ea)
    (bound_twice most one more (of_block f) two three (e2 ∙ ap (λ l. few_names most one l) eh) (e3 ∙ ap (λ l. few_names most two l) ef))
    ∙ ap (λ l. few_names most names l) (sym (ap names_of is ∙ at_try Names Names names_step handler_names_step line a handlers f)))

-- names that are too many stay as they are
full : (most : ℕ) (names more : Names) → most < length names → few_names most names more ≡ names
full most names [] h = refl
full most names (n ∷ ns) h =
    let e : nat_lt most (length names) ≡ true = grind (arith, nat_tests) in
    ap (λ (b : Bool). if b || is_local names n then few_names most names ns else few_names most (names ++ n ∷ []) ns) e ∙ full most names ns h

-- no name goes
kept : (names more : Names) → length names ≤ length (with_names names more)
kept names [] = omega arith
kept names (n ∷ ns) =
    elim (is_local names n) as (λ known. length names ≤ length (if known then with_names names ns else with_names (names ++ n ∷ []) ns))
    [ true ↦ kept names ns | false ↦ let longer = kept (names ++ n ∷ []) ns in omega (arith, longer, length-append names (n ∷ [])) ]

-- names that are not too many are all
whole : (most : ℕ) (names more : Names) → length (few_names most names more) ≤ most → few_names most names more ≡ with_names names more
whole most names [] h = refl
whole most names (n ∷ ns) h =
    let A = few_names most names ns in
    let B = few_names most (names ++ n ∷ []) ns in
    elim (nat_lt most (length names)) as (λ b. nat_lt most (length names) ≡ b → length (if b || is_local names n then A else B) ≤ most → (if b || is_local names n then A else B) ≡ with_names names (n ∷ ns)) [
      | true ↦ λ e f. let over : most < length names = grind (arith, nat_tests, e) in let same = ap length (full most names ns over) in absurd (omega (arith, over, same, f))
      | false ↦ λ e f.
          elim (is_local names n) as (λ known. length (if known then A else B) ≤ most → (if known then A else B) ≡ (if known then with_names names ns else with_names (names ++ n ∷ []) ns))
          [ true ↦ λ g. whole most names ns g | false ↦ λ g. whole most (names ++ n ∷ []) ns g ] f
    ] refl h

-- where there are too many, so are all
over_all : (most : ℕ) (names more : Names) → most < length (few_names most names more) → most < length (with_names names more)
over_all most names [] h = h
over_all most names (n ∷ ns) h =
    let A = few_names most names ns in
    let B = few_names most (names ++ n ∷ []) ns in
    elim (nat_lt most (length names)) as (λ b. nat_lt most (length names) ≡ b → most < length (if b || is_local names n then A else B) → most < length (with_names names (n ∷ ns))) [
      | true ↦ λ e f. let over : most < length names = grind (arith, nat_tests, e) in let longer = kept names (n ∷ ns) in omega (arith, over, longer)
      | false ↦ λ e f.
          elim (is_local names n) as (λ known. most < length (if known then A else B) → most < length (if known then with_names names ns else with_names (names ++ n ∷ []) ns))
          [ true ↦ λ g. over_all most names ns g | false ↦ λ g. over_all most (names ++ n ∷ []) ns g ] f
    ] refl h

-- the names of a function
pub few_locals : (most : ℕ) (f : Function) (start names : Names) (body : List Statement) → start ≡ f.parameters → body ≡ f.body → names ≡ few_names most start (of_block body) → length names ≤ most → names ≡ locals_of f
few_locals most f start names body es eb is h =
    let e : names ≡ few_names most f.parameters (of_block f.body) = is ∙ ap (λ (l : Names). few_names most l (of_block body)) es ∙ ap (λ (l : List Statement). few_names most f.parameters (of_block l)) eb in
    e ∙ whole most f.parameters (of_block f.body) (subst (λ (l : Names). length l ≤ most) e h)

pub many_locals : (most : ℕ) (f : Function) (start names : Names) (body : List Statement) → start ≡ f.parameters → body ≡ f.body → names ≡ few_names most start (of_block body) → most < length names → most < length (locals_of f)
many_locals most f start names body es eb is h =
    let e : names ≡ few_names most f.parameters (of_block f.body) = is ∙ ap (λ (l : Names). few_names most l (of_block body)) es ∙ ap (λ (l : List Statement). few_names most f.parameters (of_block l)) eb in
    over_all most f.parameters (of_block f.body) (subst (λ (l : Names). most < length l) e h)

-- the parameters are among them
pub parameters_few : (f : Function) → length f.parameters ≤ length (locals_of f)
parameters_few f = kept f.parameters (of_block f.body)
