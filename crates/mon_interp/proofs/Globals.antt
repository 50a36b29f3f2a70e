-- A name in a table of names.
use Rattle.std.proofs.Common.{◌≡◌, ℕ, zero, suc, ◌+◌, ◌<◌, ◌==◌, ◌&&◌, Bool, true, false, List, [], ◌∷◌, length, take, drop, map, refl, sym, ap, ◌∙◌, arith}
use Rattle.std.specs.Prelude.{slice_get, Some, if◌then◌else◌}
use Rattle.mon_values.specs.Classes.{builtin_names, builtin_name, classes, class_name, Class, name_at}
use Rattle.mon_code.specs.Programs.{is_text, first_named}
use Rattle.mon_frames.proofs.Lists.{left_some}
use Rattle.mon_machine.specs.Operations.{global_builtins, class_names}

-- texts are compared from either side
turned : (a b : List ℕ) → is_text a b ≡ is_text b a
turned [] [] = refl
turned [] (y ∷ b) = refl
turned (x ∷ a) [] = refl
turned (x ∷ a) (y ∷ b) = ap (λ (t : Bool). x == y && t) (turned a b) ∙ ap (λ (t : Bool). t && is_text b a) (number x y)
  where
    number : (n m : ℕ) → (n == m) ≡ (m == n)
    number n m = grind arith

there : (names : List (List ℕ)) (k : ℕ) → k < length names → slice_get names k ≡ Some (name_at names k)
there [] k h = absurd (omega arith)
there (n ∷ names) zero h = refl
there (n ∷ names) (suc k) h = there names k (omega arith)

found : (names : List (List ℕ)) (k : ℕ) (name n : List ℕ) → slice_get names k ≡ Some n → true ≡ is_text name n → first_named k (drop k names) name ≡ Some k
found names k name n e t =
    ap (λ (l : List (List ℕ)). first_named k l name) (left_some names k n e)
    ∙ ap (λ (b : Bool). if b then Some k else first_named (k + 1) (drop (k + 1) names) name) (turned n name ∙ sym t)

passed : (names : List (List ℕ)) (k : ℕ) (name n : List ℕ) → slice_get names k ≡ Some n → false ≡ is_text name n → first_named k (drop k names) name ≡ first_named (k + 1) (drop (k + 1) names) name
passed names k name n e t =
    ap (λ (l : List (List ℕ)). first_named k l name) (left_some names k n e)
    ∙ ap (λ (b : Bool). if b then Some k else first_named (k + 1) (drop (k + 1) names) name) (turned n name ∙ sym t)

taken : (names : List (List ℕ)) (m k : ℕ) → k < m → slice_get (take m names) k ≡ slice_get names k
taken names zero k h = absurd (omega arith)
taken [] (suc m) k h = refl
taken (n ∷ names) (suc m) zero h = refl
taken (n ∷ names) (suc m) (suc k) h = taken names m k (omega arith)

builtin_at : (k : ℕ) → k < 11 → slice_get (take global_builtins builtin_names) k ≡ Some (builtin_name k)
builtin_at k h = taken builtin_names 11 k h ∙ there builtin_names k (omega arith)

pub is_builtin : (k : ℕ) (name n : List ℕ) → k < 11 → n ≡ builtin_name k → true ≡ is_text name n → first_named k (drop k (take global_builtins builtin_names)) name ≡ Some k
is_builtin k name n h e t = found (take global_builtins builtin_names) k name n (builtin_at k h ∙ ap (λ (x : List ℕ). Some x) (sym e)) t

pub no_builtin : (k : ℕ) (name n : List ℕ) → k < 11 → n ≡ builtin_name k → false ≡ is_text name n → first_named k (drop k (take global_builtins builtin_names)) name ≡ first_named (k + 1) (drop (k + 1) (take global_builtins builtin_names)) name
no_builtin k name n h e t = passed (take global_builtins builtin_names) k name n (builtin_at k h ∙ ap (λ (x : List ℕ). Some x) (sym e)) t

class_there : (cs : List Class) (k : ℕ) → k < length cs → slice_get (map (λ (c : Class). c.name) cs) k ≡ Some (Rattle.mon_values.specs.Classes.class_or (slice_get cs k)).name
class_there [] k h = absurd (omega arith)
class_there (c ∷ cs) zero h = refl
class_there (c ∷ cs) (suc k) h = class_there cs k (omega arith)

pub is_class : (k : ℕ) (name n : List ℕ) → k < 16 → n ≡ class_name k → true ≡ is_text name n → first_named k (drop k class_names) name ≡ Some k
is_class k name n h e t = found class_names k name n (class_there classes k h ∙ ap (λ (x : List ℕ). Some x) (sym e)) t

pub no_class : (k : ℕ) (name n : List ℕ) → k < 16 → n ≡ class_name k → false ≡ is_text name n → first_named k (drop k class_names) name ≡ first_named (k + 1) (drop (k + 1) class_names) name
no_class k name n h e t = passed class_names k name n (class_there classes k h ∙ ap (λ (x : List ℕ). Some x) (sym e)) t
