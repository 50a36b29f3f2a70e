-- What is written of the items of a list, and the names of codes as bytes.
use Rattle.std.proofs.Common.{◌≡◌, ℕ, zero, suc, ◌+◌, ◌<◌, ◌≤◌, List, [], ◌∷◌, ◌++◌, length, drop, get_or, refl, sym, ap, subst, ◌∙◌, append_assoc, string_bytes, encode_utf8_all, arith}
use Rattle.std.specs.Prelude.{Option, Some, None, slice_get, option_map, String, Result, OnOk}
use Rattle.std.specs.List.{flat_map}
use Rattle.std.specs.declared.alloc.Global.{Global}
use Rattle.std.proofs.lemmas.List.{drop_more}
use Rattle.std.proofs.lemmas.Option.{slice_get-map, get_or_from_slice_get}
use Rattle.std.proofs.lemmas.Result.{on_ok_weaker}
use Rattle.mon_code.specs.Programs.{Parts}
use Rattle.mon_values.specs.Classes.{name_or}
use Rattle.mon_forms.specs.Texts.{AreNames, code_text, each_from}

-- within a list no default is read
pub same_default : {A : Type 0} (xs : List A) (i : ℕ) (d e : A) → i < length xs → get_or xs i d ≡ get_or xs i e
same_default [] i d e h = absurd (omega arith)
same_default (x ∷ xs) zero d e h = refl
same_default (x ∷ xs) (suc i) d e h = same_default xs i d e (omega arith)

-- an item more is written, and there is one less left
pub one_more : {A : Type 0} (f : ℕ → A → List ℕ) (xs : List A) (i : ℕ) (x : A) (before now : List ℕ) → i < length xs → x ≡ get_or xs i x → now ≡ before ++ f i x → now ++ each_from f (i + 1) (drop (i + 1) xs) ≡ before ++ each_from f i (drop i xs)
one_more {A = A} f xs i x before now h e w =
    ap (λ (l : List ℕ). l ++ each_from f (i + 1) (drop (i + 1) xs)) w
    ∙ append_assoc before (f i x) (each_from f (i + 1) (drop (i + 1) xs))
    ∙ ap (λ (l : List A). before ++ each_from f i l) (ap (λ (y : A). y ∷ drop (i + 1) xs) e ∙ sym (drop_more xs i x h))

-- the same where the items are read from another list that is equal
pub one_more_in : {A : Type 0} (f : ℕ → A → List ℕ) (xs ys : List A) → ys ≡ xs → (i : ℕ) (x : A) (before now : List ℕ) → i < length ys → x ≡ get_or ys i x → now ≡ before ++ f i x → now ++ each_from f (i + 1) (drop (i + 1) xs) ≡ before ++ each_from f i (drop i xs)
one_more_in {A = A} f xs ys same i x before now h e w =
    let P : List A → Type 0 = λ l. now ++ each_from f (i + 1) (drop (i + 1) l) ≡ before ++ each_from f i (drop i l) in
    subst P same (one_more f ys i x before now h e w)

pub one_more_of : {A : Type 0} (f : A → List ℕ) (xs : List A) (i : ℕ) (x : A) (before now : List ℕ) → i < length xs → x ≡ get_or xs i x → now ≡ before ++ f x → now ++ flat_map f (drop (i + 1) xs) ≡ before ++ flat_map f (drop i xs)
one_more_of {A = A} f xs i x before now h e w =
    ap (λ (l : List ℕ). l ++ flat_map f (drop (i + 1) xs)) w
    ∙ append_assoc before (f x) (flat_map f (drop (i + 1) xs))
    ∙ ap (λ (l : List A). before ++ flat_map f l) (ap (λ (y : A). y ∷ drop (i + 1) xs) e ∙ sym (drop_more xs i x h))

pub is_item : {A : Type 0} (xs : List A) (i : ℕ) (x : A) → slice_get xs i ≡ Some x → x ≡ get_or xs i x
is_item xs i x e = sym (get_or_from_slice_get xs i x x e)

as_bytes : (o : Option (List ℕ)) → encode_utf8_all (name_or o) ≡ name_or (option_map encode_utf8_all o)
as_bytes None = refl
as_bytes (Some name) = refl

-- a code's name is the one of its number
pub named : (p : Parts) (names : List (String Global)) (code : ℕ) → AreNames p names → code_text p code ≡ name_or (option_map string_bytes (slice_get names code))
named p names code a =
    as_bytes (slice_get p.names code)
    ∙ ap name_or (sym (slice_get-map encode_utf8_all p.names code) ∙ (ap (λ (l : List (List ℕ)). slice_get l code) (sym a.are) ∙ slice_get-map string_bytes names code))

past : (names : List (String Global)) (k : ℕ) → length names ≤ k → slice_get names k ≡ None
past [] k h = refl
past (x ∷ names) zero h = absurd (omega (arith, h))
past (x ∷ names) (suc k) h = past names k (omega (arith, h))

there : (names : List (String Global)) (k : ℕ) (x : String Global) → k < length names → x ≡ get_or names k x → slice_get names k ≡ Some x
there [] k x h e = absurd (omega (arith, h))
there (y ∷ names) zero x h e = ap Some (sym e)
there (y ∷ names) (suc k) x h e = there names k x (omega (arith, h)) e

pub named_none : (p : Parts) (names : List (String Global)) (code : ℕ) → length names ≤ code → AreNames p names → code_text p code ≡ []
named_none p names code h a = named p names code a ∙ ap (λ (o : Option (String Global)). name_or (option_map string_bytes o)) (past names code h)

pub named_some : (p : Parts) (names : List (String Global)) (code : ℕ) (x : String Global) → code < length names → x ≡ get_or names code x → AreNames p names → code_text p code ≡ string_bytes x
named_some p names code x h e a = named p names code a ∙ ap (λ (o : Option (String Global)). name_or (option_map string_bytes o)) (there names code x h e)

-- what is written of the program whose names these are
abbrev pub Writes : List (String Global) → List ℕ → List ℕ → (Parts → List ℕ) → Type 0
Writes names before now f = (p : Parts) → AreNames p names → now ≡ before ++ f p

pub written_same : {T E : Type 0} (r : Result T E) (names : List (String Global)) (before now : List ℕ) (f g : Parts → List ℕ) → ((p : Parts) → f p ≡ g p) → OnOk r (Writes names before now f) → OnOk r (Writes names before now g)
written_same r names before now f g same h =
    on_ok_weaker {P = Writes names before now f} {Q = Writes names before now g} r (λ w p a. w p a ∙ ap (λ (l : List ℕ). before ++ l) (same p)) h

-- a text behind what is written
pub written_behind : {T E : Type 0} (r : Result T E) (names : List (String Global)) (before mid now : List ℕ) (f : Parts → List ℕ) (x : List ℕ) → Writes names before mid f → OnOk r (now ≡ mid ++ x) → OnOk r (Writes names before now (λ p. f p ++ x))
written_behind r names before mid now f x w h =
    on_ok_weaker {P = now ≡ mid ++ x} {Q = Writes names before now (λ p. f p ++ x)} r (λ e p a. e ∙ (ap (λ (l : List ℕ). l ++ x) (w p a) ∙ append_assoc before (f p) x)) h
