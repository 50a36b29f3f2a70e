-- What the integers' checked methods give, as the operators' answers.
use Rattle.std.proofs.Common.{◌≡◌, ◌≢◌, ℕ, zero, suc, ◌+◌, ◌-◌, ◌*◌, ◌/◌, ◌%◌, ◌<◌, Option, Some, None, true, false, inl, inr, refl, ap, ◌∙◌, arith, w64}
use Rattle.std.specs.Prelude.{ℤ, pos, negsuc, ◌+ℤ◌, ◌-ℤ◌, ◌<ℤ◌, FitsSigned}
use Rattle.std.specs.Int.{int_div_euclid, int_rem_euclid}
use Rattle.std.proofs.lemmas.Bool.{cases_eq}
use Rattle.std.proofs.lemmas.Int.{ints}
use Rattle.std.proofs.lemmas.Nat.{div-add-mod', mod_below, div-mul-add, mod-mul-add}
use Rattle.std.proofs.Math.Nat.{suc-mul, mul-suc}
use Rattle.std.specs.Option.{SomeIff}
use Rattle.std.proofs.lemmas.Bool.Decides.{nat_tests}
use Rattle.mon_values.specs.Integers.{is_in_range, floor_div, floor_mod}
use Rattle.mon_values.specs.Arithmetic.{in_range, value_or_overflow}

pub range_test : (z : ℤ) → FitsSigned w64 z → is_in_range z ≡ true
range_test (pos n) h = grind (arith, nat_tests)
range_test (negsuc n) h = grind (arith, nat_tests)

pub range_fails : (z : ℤ) → (FitsSigned w64 z → ⊥) → is_in_range z ≡ false
range_fails (pos n) h = grind (arith, nat_tests)
range_fails (negsuc n) h = grind (arith, nat_tests)

pub checked : (r : Option ℤ) (z : ℤ) → SomeIff r (FitsSigned w64 z) z → value_or_overflow r ≡ in_range z
checked None z h = rw (range_fails z h) refl
checked (Some x) z h = rw (range_test z h.0, h.1) refl

-- a quotient and its remainder at the next number
pub data NextQuotient (m d : ℕ) : Type 0 where
  Whole : suc m % suc d ≡ 0 → m % suc d ≡ d → suc m / suc d ≡ m / suc d + 1 → NextQuotient m d
  Part : suc m % suc d ≡ m % suc d + 1 → m % suc d < d → suc m / suc d ≡ m / suc d → NextQuotient m d

next_quotient : (m d : ℕ) → NextQuotient m d
next_quotient m d =
    let split : m / suc d * suc d + m % suc d ≡ m = div-add-mod' m (suc d) in
    let below : m % suc d < suc d = mod_below m (suc d) (omega arith) in
    elim (cases_eq (m % suc d) d) [
      | inl e ↦
          let all : suc m ≡ (m / suc d + 1) * suc d + 0 = omega (arith, suc-mul (m / suc d) (suc d)) in
          Whole (ap (λ n. n % suc d) all ∙ mod-mul-add (m / suc d + 1) (suc d) 0 (omega arith)) e (ap (λ n. n / suc d) all ∙ div-mul-add (m / suc d + 1) (suc d) 0 (omega arith))
      | inr n ↦
          let small : m % suc d < d = omega arith in
          let all : suc m ≡ m / suc d * suc d + (m % suc d + 1) = omega arith in
          Part (ap (λ n. n % suc d) all ∙ mod-mul-add (m / suc d) (suc d) (m % suc d + 1) (omega arith)) small (ap (λ n. n / suc d) all ∙ div-mul-add (m / suc d) (suc d) (m % suc d + 1) (omega arith))
    ]

zero_over : (d : ℕ) → 0 / suc d ≡ 0
zero_over d = let all : 0 ≡ 0 * suc d + 0 = omega arith in ap (λ n. n / suc d) all ∙ div-mul-add 0 (suc d) 0 (omega arith)

zero_left : (d : ℕ) → 0 % suc d ≡ 0
zero_left d = let all : 0 ≡ 0 * suc d + 0 = omega arith in ap (λ n. n % suc d) all ∙ mod-mul-add 0 (suc d) 0 (omega arith)

-- rounding down, by the quotient whose remainder is not negative
pub floor_above : (a b : ℤ) → pos 0 <ℤ b → floor_div a b ≡ int_div_euclid a b
floor_above (pos n) (pos d) h = refl
floor_above (negsuc n) (pos d) h = refl
floor_above a (negsuc d) h = absurd (omega (arith, ints))

pub floor_whole : (a b : ℤ) → b <ℤ pos 0 → int_rem_euclid a b ≡ pos 0 → floor_div a b ≡ int_div_euclid a b
floor_whole a (pos d) h r = absurd (omega (arith, ints))
floor_whole (pos zero) (negsuc d) h r = omega (arith, ints, zero_over d)
floor_whole (pos (suc m)) (negsuc d) h r = elim (next_quotient m d) [ Whole a e q ↦ omega (arith, ints, q) | Part a s q ↦ absurd (omega (arith, ints, r, a)) ]
floor_whole (negsuc m) (negsuc d) h r = elim (next_quotient m d) [ Whole a e q ↦ omega (arith, ints, q) | Part a s q ↦ absurd (omega (arith, ints, r, s)) ]

pub floor_part : (a b : ℤ) → b <ℤ pos 0 → int_rem_euclid a b ≢ pos 0 → floor_div a b ≡ int_div_euclid a b -ℤ pos 1
floor_part a (pos d) h r = absurd (omega (arith, ints))
floor_part (pos zero) (negsuc d) h r = absurd (r (ap pos (zero_left d)))
floor_part (pos (suc m)) (negsuc d) h r = elim (next_quotient m d) [ Whole a e q ↦ absurd (r (ap pos a)) | Part a s q ↦ omega (arith, ints, q) ]
floor_part (negsuc m) (negsuc d) h r =
    elim (next_quotient m d) [ Whole a e q ↦ (let z : suc d - 1 - m % suc d ≡ 0 = omega (arith, e) in absurd (r (ap pos z))) | Part a s q ↦ omega (arith, ints, q) ]

pub mod_above : (a b : ℤ) → pos 0 <ℤ b → floor_mod a b ≡ int_rem_euclid a b
mod_above (pos n) (pos d) h = omega (arith, ints, div-add-mod' n d)
mod_above (negsuc n) (pos d) h = let below : n % d < d = mod_below n d (omega (arith, ints)) in omega (arith, ints, div-add-mod' n d, suc-mul (n / d) d)
mod_above a (negsuc d) h = absurd (omega (arith, ints))

pub mod_whole : (a b : ℤ) → b <ℤ pos 0 → int_rem_euclid a b ≡ pos 0 → floor_mod a b ≡ pos 0
mod_whole a (pos d) h r = absurd (omega (arith, ints))
mod_whole (pos zero) (negsuc d) h r = rw (zero_over d) (omega (arith, ints))
mod_whole (pos (suc m)) (negsuc d) h r =
    elim (next_quotient m d) [ Whole a e q ↦ omega (arith, ints, div-add-mod' m (suc d), suc-mul (m / suc d) (suc d), e) | Part a s q ↦ absurd (omega (arith, ints, r, a)) ]
mod_whole (negsuc m) (negsuc d) h r =
    elim (next_quotient m d) [ Whole a e q ↦ omega (arith, ints, div-add-mod' (suc m) (suc d), a) | Part a s q ↦ absurd (omega (arith, ints, r, s)) ]

pub mod_part : (a b : ℤ) → b <ℤ pos 0 → int_rem_euclid a b ≢ pos 0 → floor_mod a b ≡ int_rem_euclid a b +ℤ b
mod_part a (pos d) h r = absurd (omega (arith, ints))
mod_part (pos zero) (negsuc d) h r = absurd (r (ap pos (zero_left d)))
mod_part (pos (suc m)) (negsuc d) h r =
    elim (next_quotient m d) [ Whole a e q ↦ absurd (r (ap pos a)) | Part a s q ↦ omega (arith, ints, div-add-mod' m (suc d), suc-mul (m / suc d) (suc d), a) ]
mod_part (negsuc m) (negsuc d) h r =
    elim (next_quotient m d) [
      | Whole a e q ↦ (let z : suc d - 1 - m % suc d ≡ 0 = omega (arith, e) in absurd (r (ap pos z)))
      | Part a s q ↦ omega (arith, ints, div-add-mod' (suc m) (suc d), a, s)
    ]

-- by a negative divisor no quotient is the least integer
pub quotient_above : (a b : ℤ) → FitsSigned w64 a → b <ℤ pos 0 → negsuc 9223372036854775807 <ℤ int_div_euclid a b
quotient_above a (pos d) f h = absurd (omega (arith, ints))
quotient_above (pos n) (negsuc d) f h = omega (arith, ints, mul-suc (n / suc d) d, div-add-mod' n (suc d))
quotient_above (negsuc m) (negsuc d) f h = omega (arith, ints)
