-- The instructions from an index on are changed one by one.
use Rattle.std.proofs.Common.{◌≡◌, ℕ, zero, suc, ◌+◌, ◌<◌, List, [], ◌∷◌, ◌++◌, length, map, get_or, refl, ap, ◌∙◌, arith}
use Rattle.std.specs.Prelude.{slice_set}
use Rattle.std.proofs.lemmas.List.{length-map}
use Rattle.mon_compile.specs.declared.assembly.Instruction.{Instruction}
use Rattle.mon_compile.specs.Open.{changed_from}

change_at : (f : Instruction → Instruction) (code : List Instruction) (i : ℕ) (d : Instruction) → i < length code → changed_from f (suc i) (slice_set code i (f (get_or code i d))) ≡ changed_from f i code
change_at f [] i d h = absurd (omega arith)
change_at f (x ∷ code) zero d h = refl
change_at f (x ∷ code) (suc i) d h = ap (λ l. x ∷ l) (change_at f code i d (omega arith))

pub change_one : (f : Instruction → Instruction) (code : List Instruction) (i : ℕ) (d : Instruction) → i < length code → changed_from f (i + 1) (slice_set code i (f (get_or code i d))) ≡ changed_from f i code
change_one f code i d h = let e : i + 1 ≡ suc i = omega arith in ap (λ n. changed_from f n (slice_set code i (f (get_or code i d)))) e ∙ change_at f code i d h

pub changed_end : (f : Instruction → Instruction) (code : List Instruction) (i : ℕ) → i ≡ length code → changed_from f i code ≡ code
changed_end f code i e = ap (λ n. changed_from f n code) e ∙ at_end f code where
  at_end : (f : Instruction → Instruction) (code : List Instruction) → changed_from f (length code) code ≡ code
  at_end f [] = refl
  at_end f (x ∷ code) = ap (λ l. x ∷ l) (at_end f code)

pub changed_behind : (f : Instruction → Instruction) (front back : List Instruction) → changed_from f (length front) (front ++ back) ≡ front ++ map f back
changed_behind f [] back = refl
changed_behind f (x ∷ front) back = ap (λ l. x ∷ l) (changed_behind f front back)

pub changed_length : (f : Instruction → Instruction) (n : ℕ) (code : List Instruction) → length (changed_from f n code) ≡ length code
changed_length f zero code = length-map code f
changed_length f (suc n) [] = refl
changed_length f (suc n) (x ∷ code) = ap (λ k. suc k) (changed_length f n code)
