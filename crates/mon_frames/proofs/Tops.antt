-- The innermost call is the last of the vector.
use Rattle.std.proofs.Common.{◌≡◌, ℕ, ◌+◌, ◌-◌, ◌<◌, List, [], ◌∷◌, ◌++◌, length, take, get_or, sym, ap, ◌∙◌, arith, length-append, reverse}
use Rattle.std.specs.Prelude.{slice_set, Some}
use Rattle.std.proofs.lemmas.List.{reverse-append, take_more}
use Rattle.std.proofs.Math.Seq.{set-append_seam}
use Rattle.mon_frames.specs.declared.frame.Frame.{Frame}
use Rattle.mon_frames.specs.declared.call.Call.{Call}
use Rattle.mon_frames.specs.declared.call.Origin.{Origin}
use Rattle.mon_frames.specs.Views.{with_top, top_of, origin_of, handled_in, last_or}
use Rattle.mon_frames.proofs.Lists.{ends_of, get_seam}

-- the last call with another frame is the innermost with it
pub with_top_set : (xs : List Call) (n : ℕ) (call : Call) (w : Frame) → 0 < length xs → n ≡ length xs - 1 → call ≡ get_or xs n call → reverse (slice_set xs n (record { frame = w; origin = call.origin })) ≡ with_top (reverse xs) w
with_top_set xs n call w h e is =
    let s = ends_of xs h in
    let new : Call = record { frame = w; origin = call.origin } in
    let at : n ≡ length s.front = omega (arith, ap length s.is, length-append s.front (s.last ∷ [])) in
    let found : call ≡ s.last = is ∙ ap (λ (l : List Call). get_or l n call) s.is ∙ ap (λ m. get_or (s.front ++ s.last ∷ []) m call) at ∙ get_seam s.front s.last call in
    ap (λ (l : List Call). reverse (slice_set l n new)) s.is
    ∙ ap (λ m. reverse (slice_set (s.front ++ s.last ∷ []) m new)) at
    ∙ ap (λ (l : List Call). reverse l) (set-append_seam s.front s.last [] new)
    ∙ reverse-append s.front (new ∷ [])
    ∙ ap (λ (o : Origin). record { frame = w; origin = o } ∷ reverse s.front) (ap (λ (c : Call). c.origin) found)
    ∙ ap (λ (l : List Call). with_top l w) (sym (reverse-append s.front (s.last ∷ [])))
    ∙ ap (λ (l : List Call). with_top (reverse l) w) (sym s.is)

-- the last call is the innermost
pub reversed_ends : (xs : List Call) (n : ℕ) (call : Call) → 0 < length xs → n ≡ length xs - 1 → call ≡ get_or xs n call → (others : List Call) × (reverse xs ≡ call ∷ others)
reversed_ends xs n call h e is =
    let s = ends_of xs h in
    let at : n ≡ length s.front = omega (arith, ap length s.is, length-append s.front (s.last ∷ [])) in
    let found : call ≡ s.last = is ∙ ap (λ (l : List Call). get_or l n call) s.is ∙ ap (λ m. get_or (s.front ++ s.last ∷ []) m call) at ∙ get_seam s.front s.last call in
    (reverse s.front, ap (λ (l : List Call). reverse l) s.is ∙ reverse-append s.front (s.last ∷ []) ∙ ap (λ (c : Call). c ∷ reverse s.front) (sym found))

pub top_last : (xs : List Call) (n : ℕ) (call : Call) → 0 < length xs → n ≡ length xs - 1 → call ≡ get_or xs n call → top_of (reverse xs) ≡ Some call.frame
top_last xs n call h e is = ap (λ (l : List Call). top_of l) (reversed_ends xs n call h e is).1

pub origin_last : (xs : List Call) (n : ℕ) (call : Call) → 0 < length xs → n ≡ length xs - 1 → call ≡ get_or xs n call → origin_of (reverse xs) ≡ Some call.origin
origin_last xs n call h e is = ap (λ (l : List Call). origin_of l) (reversed_ends xs n call h e is).1

-- what one more call handles, further in
pub handled_more : (xs : List Call) (i : ℕ) (call : Call) → i < length xs → call ≡ get_or xs i call → handled_in (reverse (take (i + 1) xs)) ≡ last_or call.frame.handling (handled_in (reverse (take i xs)))
handled_more xs i call h e =
    ap (λ (l : List Call). handled_in (reverse l)) (take_more xs i call h)
    ∙ ap (λ (l : List Call). handled_in l) (reverse-append (take i xs) (get_or xs i call ∷ []))
    ∙ ap (λ (c : Call). last_or c.frame.handling (handled_in (reverse (take i xs)))) (sym e)
