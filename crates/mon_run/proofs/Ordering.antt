-- Moves in a row.
use Rattle.std.proofs.Common.{◌≡◌, ℕ, zero, suc, ◌+◌, ◌<◌, List, [], ◌∷◌, ◌++◌, take, length, map, replicate, Some, slice_get, sym, refl, ap, ◌∙◌, arith, append_assoc}
use Rattle.std.proofs.lemmas.List.{map-append}
use mathlib.Core.List.{append-nil}
use Rattle.mon_code.specs.Programs.{Parts}
use Rattle.mon_history.specs.declared.calls.ControlCall.{ControlCall}
use Rattle.mon_history.specs.declared.calls.Who.{Who}
use Rattle.mon_history.proofs.Replays.{take_next}
use Rattle.mon_forms.specs.declared.plan.Move.{Move}
use Rattle.mon_forms.specs.declared.plan.Workload.{Workload}
use Rattle.mon_forms.specs.declared.plan.Start.{Start}
use Rattle.mon_run.specs.Serial.{World, asks, asks_first, asks_next, next_call, turn, moves_one, moves_all, rest_of_scripts, rest_of_threads}

first_more : (xs : List ControlCall) (x : ControlCall) (w : World) → asks_first (xs ++ x ∷ []) w ≡ asks Who.Before x (asks_first xs w)
first_more [] x w = refl
first_more (y ∷ ys) x w = first_more ys x (asks Who.Before y w)

pub next_first : (xs : List ControlCall) (i n : ℕ) (x : ControlCall) (w a b : World) → n ≡ suc i → slice_get xs i ≡ Some x → a ≡ asks_first (take i xs) w → b ≡ asks Who.Before x a → b ≡ asks_first (take n xs) w
next_first xs i n x w a b is at e f = f ∙ (ap (asks Who.Before x) e ∙ (sym (first_more (take i xs) x w) ∙ (ap (λ z. asks_first z w) (sym (take_next xs i x at)) ∙ ap (λ k. asks_first (take k xs) w) (sym is))))

pub moves_append : (p : Parts) (plan : Workload) (xs ys : List Move) (w : World) → moves_all p plan (xs ++ ys) w ≡ moves_all p plan ys (moves_all p plan xs w)
moves_append p plan [] ys w = refl
moves_append p plan (x ∷ xs) ys w = moves_append p plan xs ys (moves_one p plan x w)

-- moves behind moves
behind : (p : Parts) (plan : Workload) (xs ys zs : List Move) (w a b : World) → zs ≡ xs ++ ys → a ≡ moves_all p plan xs w → b ≡ moves_all p plan ys a → b ≡ moves_all p plan zs w
behind p plan xs ys zs w a b is e f = f ∙ (ap (moves_all p plan ys) e ∙ (sym (moves_append p plan xs ys w) ∙ ap (λ z. moves_all p plan z w) (sym is)))

pub next_move : (p : Parts) (plan : Workload) (xs : List Move) (i n : ℕ) (x : Move) (w a b : World) → n ≡ suc i → slice_get xs i ≡ Some x → a ≡ moves_all p plan (take i xs) w → b ≡ moves_one p plan x a → b ≡ moves_all p plan (take n xs) w
next_move p plan xs i n x w a b is at e f = behind p plan (take i xs) (x ∷ []) (take n xs) w a b (ap (λ k. take k xs) is ∙ take_next xs i x at) e f

replicate_more : {A : Type 0} (n : ℕ) (x : A) → replicate (suc n) x ≡ replicate n x ++ x ∷ []
replicate_more zero x = refl
replicate_more (suc n) x = ap (λ z. x ∷ z) (replicate_more n x)

pub next_again : (p : Parts) (plan : Workload) (s i n : ℕ) (w a b : World) → n ≡ suc i → a ≡ moves_all p plan (replicate i (Move.Call s)) w → b ≡ asks_next s (next_call plan a s) a → b ≡ moves_all p plan (replicate n (Move.Call s)) w
next_again p plan s i n w a b is e f = behind p plan (replicate i (Move.Call s)) (Move.Call s ∷ []) (replicate n (Move.Call s)) w a b (ap (λ k. replicate k (Move.Call s)) is ∙ replicate_more i (Move.Call s)) e f

scripts_more : (k s : ℕ) (scripts : List (List ControlCall)) (script : List ControlCall) → slice_get scripts s ≡ Some script → rest_of_scripts k (take (suc s) scripts) ≡ rest_of_scripts k (take s scripts) ++ replicate (length script) (Move.Call (k + s))
scripts_more k s [] script e = absurd (cc)
scripts_more k zero (y ∷ ys) script e = let q : y ≡ script = cc in let z : k ≡ k + 0 = omega arith in append-nil (replicate (length y) (Move.Call k)) ∙ (λ i. replicate (length (q i)) (Move.Call (z i)))
scripts_more k (suc s) (y ∷ ys) script e = let z : suc k + s ≡ k + suc s = omega arith in
    ap (λ xs. replicate (length y) (Move.Call k) ++ xs) (scripts_more (suc k) s ys script e ∙ ap (λ n. rest_of_scripts (suc k) (take s ys) ++ replicate (length script) (Move.Call n)) z)
    ∙ sym (append_assoc (replicate (length y) (Move.Call k)) (rest_of_scripts (suc k) (take s ys)) (replicate (length script) (Move.Call (k + suc s))))

pub next_script : (p : Parts) (plan : Workload) (s n k : ℕ) (script : List ControlCall) (w a b : World) → n ≡ suc s → k ≡ length script → slice_get plan.scripts s ≡ Some script → a ≡ moves_all p plan (rest_of_scripts 0 (take s plan.scripts)) w → b ≡ moves_all p plan (replicate k (Move.Call s)) a
    → b ≡ moves_all p plan (rest_of_scripts 0 (take n plan.scripts)) w
next_script p plan s n k script w a b is as-many at e f =
    let z : 0 + s ≡ s = omega arith in
    behind p plan (rest_of_scripts 0 (take s plan.scripts)) (replicate k (Move.Call s)) (rest_of_scripts 0 (take n plan.scripts)) w a b
    (ap (λ j. rest_of_scripts 0 (take j plan.scripts)) is ∙ (scripts_more 0 s plan.scripts script at ∙ (λ i. rest_of_scripts 0 (take s plan.scripts) ++ replicate (sym as-many i) (Move.Call (z i))))) e f

threads_more : (bound k t : ℕ) (starts : List Start) → t < length starts → rest_of_threads bound k (take (suc t) starts) ≡ rest_of_threads bound k (take t starts) ++ Move.Turn (k + t) bound ∷ []
threads_more bound k t [] h = absurd (omega arith)
threads_more bound k zero (y ∷ ys) h = let z : k ≡ k + 0 = omega arith in ap (λ n. Move.Turn n bound ∷ []) z
threads_more bound k (suc t) (y ∷ ys) h = let z : suc k + t ≡ k + suc t = omega arith in
    ap (λ xs. Move.Turn k bound ∷ xs) (threads_more bound (suc k) t ys (omega arith) ∙ ap (λ n. rest_of_threads bound (suc k) (take t ys) ++ Move.Turn n bound ∷ []) z)

pub next_thread : (p : Parts) (plan : Workload) (t n : ℕ) (w a b : World) → n ≡ suc t → t < length plan.threads → a ≡ moves_all p plan (rest_of_threads plan.steps 0 (take t plan.threads)) w → b ≡ turn p plan.steps t plan.steps a → b ≡ moves_all p plan (rest_of_threads plan.steps 0 (take n plan.threads)) w
next_thread p plan t n w a b is low e f =
    let z : 0 + t ≡ t = omega arith in
    behind p plan (rest_of_threads plan.steps 0 (take t plan.threads)) (Move.Turn t plan.steps ∷ []) (rest_of_threads plan.steps 0 (take n plan.threads)) w a b
    (ap (λ k. rest_of_threads plan.steps 0 (take k plan.threads)) is ∙ (threads_more plan.steps 0 t plan.threads low ∙ ap (λ k. rest_of_threads plan.steps 0 (take t plan.threads) ++ Move.Turn k plan.steps ∷ []) z)) e f

-- the threads as they begin
pub next_begun : {X Y Z : Type 0} (f : X → Z) (h : Y → Z) (vs : List X) (xs : List Y) (i n : ℕ) (v : X) (x : Y) → n ≡ suc i → slice_get xs i ≡ Some x → f v ≡ h x → map f vs ≡ map h (take i xs) → map f (vs ++ v ∷ []) ≡ map h (take n xs)
next_begun f h vs xs i n v x is at e m = map-append f vs (v ∷ []) ∙ ((λ j. m j ++ e j ∷ []) ∙ (sym (map-append h (take i xs) (x ∷ [])) ∙ (ap (map h) (sym (take_next xs i x at)) ∙ ap (λ k. map h (take k xs)) (sym is))))
