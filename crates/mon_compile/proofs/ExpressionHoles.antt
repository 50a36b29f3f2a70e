-- Jumps over an expression are written behind it.
use Rattle.std.proofs.Common.{◌≡◌, ℕ, ◌+◌, List, [], ◌∷◌, ◌++◌, length, sym, ap, ◌∙◌, arith, append_assoc, length-append}
use Rattle.std.specs.Prelude.{slice_set}
use Rattle.std.proofs.Math.Seq.{set-append_seam}
use Rattle.mon_events.specs.declared.op.Op.{Op}
use Rattle.mon_compile.specs.declared.assembly.Instruction.{Instruction}
use Rattle.mon_compile.specs.declared.assembly.Argument.TheVariants.{Number, Destination}
use Rattle.mon_compile.specs.declared.assembly.Label.TheVariants.{At}
use Rattle.mon_compile.specs.Contexts.{Spot, put, none, above, bare}
use Rattle.mon_compile.specs.Expressions.{Coder, short_code, conditional_code}

-- an instruction in the middle is written anew
pub written : (front back code : List Instruction) (x y : Instruction) (hole : ℕ) → code ≡ front ++ (x ∷ back) → hole ≡ length front → slice_set code hole y ≡ front ++ (y ∷ back)
written front back code x y hole e h = ap (λ l. slice_set l hole y) e ∙ ap (λ n. slice_set (front ++ (x ∷ back)) n y) h ∙ set-append_seam front x back y

pub short_written : (a b : Coder) (jump : Op) (s up higher : Spot) (c0 c1 c2 c3 c4 c5 : List Instruction) (x y : Instruction) (hole end : ℕ) → up ≡ above 1 s → higher ≡ above 2 s → c1 ≡ c0 ++ a s (length c0) → c2 ≡ c1 ++ (put up Op.Copy (Number 1) ∷ []) → hole ≡ length c2 → c3 ≡ c2 ++ (x ∷ [])
    → c4 ≡ c3 ++ (put up Op.PopTop none ∷ []) → c5 ≡ c4 ++ b s (length c4) → end ≡ length c5 → y ≡ put higher jump (Destination (At end)) → slice_set c5 hole y ≡ c0 ++ short_code a b jump s (length c0)
short_written a b jump s up higher c0 c1 c2 c3 c4 c5 x y hole end u1 u2 e1 e2 m e3 e4 e5 me ey =
    let left = a s (length c0) in
    let from = length c0 + length left + 3 in
    let right = b s from in
    let copy = put (above 1 s) Op.Copy (Number 1) in
    let pop = put (above 1 s) Op.PopTop none in
    let target : ℕ → Instruction = λ n. put (above 2 s) jump (Destination (At n)) in
    let f2 : c2 ≡ c1 ++ (copy ∷ []) = e2 ∙ ap (λ (z : Spot). c1 ++ (put z Op.Copy (Number 1) ∷ [])) u1 in
    let f4 : c4 ≡ c3 ++ (pop ∷ []) = e4 ∙ ap (λ (z : Spot). c3 ++ (put z Op.PopTop none ∷ [])) u1 in
    let l1 : length c1 ≡ length c0 + length left = ap length e1 ∙ length-append c0 left in
    let l2 : length c2 ≡ length c1 + 1 = ap length f2 ∙ length-append c1 (copy ∷ []) in
    let l3 : length c3 ≡ length c2 + 1 = ap length e3 ∙ length-append c2 (x ∷ []) in
    let l4 : length c4 ≡ length c3 + 1 = ap length f4 ∙ length-append c3 (pop ∷ []) in
    let start : length c4 ≡ from = omega (arith, l1, l2, l3, l4) in
    let f5 : c5 ≡ c4 ++ right = e5 ∙ ap (λ n. c4 ++ b s n) start in
    let l5 : length c5 ≡ length c4 + length right = ap length f5 ∙ length-append c4 right in
    let there : end ≡ from + length right = omega (arith, me, l5, start) in
    let all : c5 ≡ ((c2 ++ (x ∷ [])) ++ (pop ∷ [])) ++ right = f5 ∙ ap (λ l. l ++ right) (f4 ∙ ap (λ l. l ++ (pop ∷ [])) e3) in
    let flat : ((c2 ++ (x ∷ [])) ++ (pop ∷ [])) ++ right ≡ c2 ++ (x ∷ (pop ∷ right)) = simp append_assoc in
    let y_is : y ≡ target (from + length right) = ey ∙ ap (λ (z : Spot). put z jump (Destination (At end))) u2 ∙ ap target there in
    let front : c2 ≡ (c0 ++ left) ++ (copy ∷ []) = f2 ∙ ap (λ l. l ++ (copy ∷ [])) e1 in
    let back = target (from + length right) ∷ (pop ∷ right) in
    let end_flat : ((c0 ++ left) ++ (copy ∷ [])) ++ back ≡ c0 ++ (left ++ (copy ∷ back)) = simp append_assoc in
    written c2 (pop ∷ right) c5 x y hole (all ∙ flat) m ∙ ap (λ (i : Instruction). c2 ++ (i ∷ (pop ∷ right))) y_is ∙ ap (λ l. l ++ back) front ∙ end_flat

pub conditional_written : (a t b : Coder) (s up low : Spot) (c0 c1 c2 c3 c4 c5 c6 : List Instruction) (x x' y y' : Instruction) (branch jump other end : ℕ) → up ≡ above 1 s → low ≡ above 1 (bare s) → c1 ≡ c0 ++ t s (length c0) → branch ≡ length c1 → c2 ≡ c1 ++ (x ∷ [])
    → c3 ≡ c2 ++ a s (length c2) → jump ≡ length c3 → c4 ≡ c3 ++ (x' ∷ []) → other ≡ length c4 → c5 ≡ c4 ++ b s (length c4) → end ≡ length c5 → y ≡ put up Op.PopJumpIfFalse (Destination (At other)) → c6 ≡ slice_set c5 branch y
    → y' ≡ put low Op.JumpForward (Destination (At end)) → slice_set c6 jump y' ≡ c0 ++ conditional_code a t b s (length c0)
conditional_written a t b s up low c0 c1 c2 c3 c4 c5 c6 x x' y y' branch jump other end u1 u2 e1 m1 e2 e3 m2 e4 m3 e5 m4 ey e6 ey' =
    let test = t s (length c0) in
    let from = length c0 + length test + 1 in
    let left = a s from in
    let far = from + length left + 1 in
    let right = b s far in
    let branching : ℕ → Instruction = λ n. put (above 1 s) Op.PopJumpIfFalse (Destination (At n)) in
    let jumping : ℕ → Instruction = λ n. put (above 1 (bare s)) Op.JumpForward (Destination (At n)) in
    let l1 : length c1 ≡ length c0 + length test = ap length e1 ∙ length-append c0 test in
    let l2 : length c2 ≡ length c1 + 1 = ap length e2 ∙ length-append c1 (x ∷ []) in
    let start : length c2 ≡ from = omega (arith, l1, l2) in
    let f3 : c3 ≡ c2 ++ left = e3 ∙ ap (λ n. c2 ++ a s n) start in
    let l3 : length c3 ≡ length c2 + length left = ap length f3 ∙ length-append c2 left in
    let l4 : length c4 ≡ length c3 + 1 = ap length e4 ∙ length-append c3 (x' ∷ []) in
    let further : length c4 ≡ far = omega (arith, l3, l4, start) in
    let f5 : c5 ≡ c4 ++ right = e5 ∙ ap (λ n. c4 ++ b s n) further in
    let l5 : length c5 ≡ length c4 + length right = ap length f5 ∙ length-append c4 right in
    let y_is : y ≡ branching far = ey ∙ ap (λ (z : Spot). put z Op.PopJumpIfFalse (Destination (At other))) u1 ∙ ap branching (m3 ∙ further) in
    let there : end ≡ far + length right = omega (arith, m4, l5, further) in
    let y'_is : y' ≡ jumping (far + length right) = ey' ∙ ap (λ (z : Spot). put z Op.JumpForward (Destination (At end))) u2 ∙ ap jumping there in
    let all : c5 ≡ ((((c1 ++ (x ∷ [])) ++ left) ++ (x' ∷ [])) ++ right) = f5 ∙ ap (λ l. l ++ right) (e4 ∙ ap (λ l. l ++ (x' ∷ [])) (f3 ∙ ap (λ l. l ++ left) e2)) in
    let flat : ((((c1 ++ (x ∷ [])) ++ left) ++ (x' ∷ [])) ++ right) ≡ c1 ++ (x ∷ (left ++ (x' ∷ right))) = simp append_assoc in
    let first : c6 ≡ c1 ++ (branching far ∷ (left ++ (x' ∷ right))) = e6 ∙ written c1 (left ++ (x' ∷ right)) c5 x y branch (all ∙ flat) m1 ∙ ap (λ (i : Instruction). c1 ++ (i ∷ (left ++ (x' ∷ right)))) y_is in
    let front = c1 ++ (branching far ∷ left) in
    let again : c1 ++ (branching far ∷ (left ++ (x' ∷ right))) ≡ front ++ (x' ∷ right) = sym (append_assoc c1 (branching far ∷ left) (x' ∷ right)) in
    let place : jump ≡ length front = omega (arith, m2, l3, l2, length-append c1 (branching far ∷ left)) in
    let last = jumping (far + length right) ∷ right in
    let rest = branching far ∷ (left ++ last) in
    written front right c6 x' y' jump (first ∙ again) place ∙ ap (λ (i : Instruction). front ++ (i ∷ right)) y'_is ∙ append_assoc c1 (branching far ∷ left) last ∙ ap (λ l. l ++ rest) e1 ∙ append_assoc c0 test rest
