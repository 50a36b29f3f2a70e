-- The innermost frame.
use Rattle.std.proofs.Common.{◌≡◌, ◌<◌, ◌+◌, ℕ, true, false, List, [], ◌∷◌, length, refl, ap, subst, arith}
use Rattle.std.specs.Prelude.{Some, nat_lt}
use Rattle.std.proofs.lemmas.Bool.Decides.{nat_tests}
use Rattle.mon_frames.specs.declared.frame.Frame.{Frame}
use Rattle.mon_frames.specs.declared.call.Call.{Call}
use Rattle.mon_frames.specs.Views.{top_of, with_top}
use Rattle.mon_interp.specs.Moving.{Stands}

pub one_stands : (calls : List Call) → Stands calls → 0 < length calls
one_stands [] h = absurd h
one_stands (call ∷ calls) h = omega arith

pub stands_within : (calls : List Call) (f : Frame) → Stands calls → top_of calls ≡ Some f → f.index < 65536
stands_within [] f h e = absurd h
stands_within (call ∷ calls) f h e = let same : call.frame ≡ f = cc in subst (λ (g : Frame). g.index < 65536) same h

pub with_same : (calls : List Call) (f : Frame) → top_of calls ≡ Some f → with_top calls f ≡ calls
with_same [] f e = refl
with_same (call ∷ calls) f e = let same : f ≡ call.frame = cc in ap (λ (g : Frame). record call { frame = g } ∷ calls) same

pub top_with : (calls : List Call) (f g : Frame) → top_of calls ≡ Some f → top_of (with_top calls g) ≡ Some g
top_with [] f g e = absurd cc
top_with (call ∷ calls) f g e = refl

pub stands_with : (calls : List Call) (f g : Frame) → top_of calls ≡ Some f → g.index < 65536 → Stands (with_top calls g)
stands_with [] f g e h = absurd cc
stands_with (call ∷ calls) f g e h = h

-- whether there is one
pub one_more_than_none : (n : ℕ) → nat_lt 0 (1 + n) ≡ true
one_more_than_none n = grind (arith, nat_tests)

above_none : (n : ℕ) → 0 < n → nat_lt 0 n ≡ true
above_none n h = grind (arith, nat_tests)

pub some_call : (calls : List Call) → 0 < length calls → nat_lt 0 (length calls) ≡ true
some_call calls h = above_none (length calls) h

pub no_call : (calls : List Call) → length calls ≡ 0 → nat_lt 0 (length calls) ≡ false
no_call [] e = refl
no_call (call ∷ calls) e = absurd (omega (arith, e))
