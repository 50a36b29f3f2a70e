-- How long a part with jumps is, by its parts.
use Rattle.std.proofs.Common.{◌≡◌, ℕ, ◌+◌, ◌≤◌, List, [], ◌∷◌, ◌++◌, length, ap, sym, ◌∙◌, arith, length-append}
use Rattle.std.specs.Prelude.{slice_set}
use Rattle.std.proofs.lemmas.List.{length-set}
use Rattle.mon_events.specs.declared.op.Op.{Op}
use Rattle.mon_compile.specs.declared.assembly.Instruction.{Instruction}
use Rattle.mon_compile.specs.declared.assembly.Argument.TheVariants.{Number, Destination}
use Rattle.mon_compile.specs.declared.assembly.Label.TheVariants.{At}
use Rattle.mon_compile.specs.Contexts.{FromAt, Spot, put, none, above, bare}
use Rattle.mon_compile.specs.Open.{changed_from}
use Rattle.mon_compile.proofs.Settled.{changed_length}
use Rattle.mon_compile.specs.Expressions.{Coder, two_code, short_code, conditional_code}

-- what is written anew is as long as before
pub written_size : (c d : List Instruction) (at : ℕ) (y : Instruction) → slice_set c at y ≡ d → length d ≡ length c
written_size c d at y e = ap length (sym e) ∙ length-set c at y

pub changed_size : (f : Instruction → Instruction) (from : ℕ) (c d : List Instruction) → changed_from f from c ≡ d → length d ≡ length c
changed_size f from c d e = ap length (sym e) ∙ changed_length f from c

pub two_size : (a b : Coder) (op : Op) (number : ℕ) (s up : Spot) (c0 c1 c2 : List Instruction) → up ≡ above 1 s → c1 ≡ c0 ++ a s (length c0) → c2 ≡ c1 ++ b up (length c1) → length (c0 ++ two_code a b op number s (length c0)) ≡ length c2 + 1
two_size a b op number s up c0 c1 c2 hu e1 e2 =
    let left = a s (length c0) in
    let right = b (above 1 s) (length c0 + length left) in
    let l1 : length c1 ≡ length c0 + length left = ap length e1 ∙ length-append c0 left in
    let f2 : c2 ≡ c1 ++ right = e2 ∙ ap (λ (z : Spot). c1 ++ b z (length c1)) hu ∙ ap (λ n. c1 ++ b (above 1 s) n) l1 in
    let last = put (above 2 s) op (Number number) ∷ [] in
    omega (arith, l1, ap length f2 ∙ length-append c1 right, length-append c0 (two_code a b op number s (length c0)), length-append left (right ++ last), length-append right last)

pub short_size : (a b : Coder) (jump : Op) (s : Spot) (c0 c1 c2 c3 c4 c5 : List Instruction) (x y z : Instruction) → c1 ≡ c0 ++ a s (length c0) → c2 ≡ c1 ++ (x ∷ []) → c3 ≡ c2 ++ (y ∷ []) → c4 ≡ c3 ++ (z ∷ []) → c5 ≡ c4 ++ b s (length c4)
    → length (c0 ++ short_code a b jump s (length c0)) ≡ length c5
short_size a b jump s c0 c1 c2 c3 c4 c5 x y z e1 e2 e3 e4 e5 =
    let left = a s (length c0) in
    let from = length c0 + length left + 3 in
    let right = b s from in
    let l4 : length c4 ≡ from = omega (arith, ap length e1 ∙ length-append c0 left, ap length e2 ∙ length-append c1 (x ∷ []), ap length e3 ∙ length-append c2 (y ∷ []), ap length e4 ∙ length-append c3 (z ∷ [])) in
    let f5 : c5 ≡ c4 ++ right = e5 ∙ ap (λ n. c4 ++ b s n) l4 in
    let rest = put (above 1 s) Op.Copy (Number 1) ∷ (put (above 2 s) jump (Destination (At (from + length right))) ∷ (put (above 1 s) Op.PopTop none ∷ right)) in
    omega (arith, l4, ap length f5 ∙ length-append c4 right, length-append c0 (short_code a b jump s (length c0)), length-append left rest)

pub conditional_size : (a t b : Coder) (s : Spot) (c0 c1 c2 c3 c4 c5 : List Instruction) (x y : Instruction) → c1 ≡ c0 ++ t s (length c0) → c2 ≡ c1 ++ (x ∷ []) → c3 ≡ c2 ++ a s (length c2) → c4 ≡ c3 ++ (y ∷ []) → c5 ≡ c4 ++ b s (length c4)
    → length (c0 ++ conditional_code a t b s (length c0)) ≡ length c5
conditional_size a t b s c0 c1 c2 c3 c4 c5 x y e1 e2 e3 e4 e5 =
    let test = t s (length c0) in
    let from = length c0 + length test + 1 in
    let left = a s from in
    let far = from + length left + 1 in
    let right = b s far in
    let l2 : length c2 ≡ from = omega (arith, ap length e1 ∙ length-append c0 test, ap length e2 ∙ length-append c1 (x ∷ [])) in
    let f3 : c3 ≡ c2 ++ left = e3 ∙ ap (λ n. c2 ++ a s n) l2 in
    let l4 : length c4 ≡ far = omega (arith, l2, ap length f3 ∙ length-append c2 left, ap length e4 ∙ length-append c3 (y ∷ [])) in
    let f5 : c5 ≡ c4 ++ right = e5 ∙ ap (λ n. c4 ++ b s n) l4 in
    let far_jump = put (above 1 (bare s)) Op.JumpForward (Destination (At (far + length right))) in
    let rest = put (above 1 s) Op.PopJumpIfFalse (Destination (At far)) ∷ (left ++ (far_jump ∷ right)) in
    omega (arith, l4, ap length f5 ∙ length-append c4 right, length-append c0 (conditional_code a t b s (length c0)), length-append test rest, length-append left (far_jump ∷ right))

pub augmented_size : (e : Coder) (s up : Spot) (first x y z : Instruction) (c0 c1 c2 : List Instruction) → up ≡ above 1 s → c1 ≡ c0 ++ (first ∷ []) → c2 ≡ c1 ++ e up (length c1) → length (c0 ++ (x ∷ (e (above 1 s) (length c0 + 1) ++ (y ∷ (z ∷ []))))) ≡ length c2 + 2
augmented_size e s up first x y z c0 c1 c2 hu e1 e2 =
    let code = e (above 1 s) (length c0 + 1) in
    let l1 : length c1 ≡ length c0 + 1 = ap length e1 ∙ length-append c0 (first ∷ []) in
    let f2 : c2 ≡ c1 ++ code = e2 ∙ ap (λ (k : Spot). c1 ++ e k (length c1)) hu ∙ ap (λ n. c1 ++ e (above 1 s) n) l1 in
    omega (arith, l1, ap length f2 ∙ length-append c1 code, length-append c0 (x ∷ (code ++ (y ∷ (z ∷ [])))), length-append code (y ∷ (z ∷ [])))

pub bare_size : (part : FromAt) (x y : Instruction) (c0 c1 c2 : List Instruction) → c1 ≡ c0 ++ (x ∷ []) → c2 ≡ c1 ++ part (length c1) → length c2 ≤ length (c0 ++ (y ∷ part (length c0 + 1)))
bare_size part x y c0 c1 c2 e1 e2 =
    let l1 : length c1 ≡ length c0 + 1 = ap length e1 ∙ length-append c0 (x ∷ []) in
    let code = part (length c0 + 1) in
    let f2 : c2 ≡ c1 ++ code = e2 ∙ ap (λ n. c1 ++ part n) l1 in
    omega (arith, l1, ap length f2 ∙ length-append c1 code, length-append c0 (y ∷ code))
