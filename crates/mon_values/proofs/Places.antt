-- Places of a range, and the integers there.
use Rattle.std.proofs.Common.{◌≡◌, ℕ, zero, suc, ◌+◌, ◌*◌, ◌/◌, ◌%◌, ◌^◌, ◌<◌, ◌≤◌, Some, ap, sym, ◌∙◌, arith, inl, inr, w64}
use Rattle.std.specs.Prelude.{ℤ, pos, negsuc, ◌+ℤ◌, ◌-ℤ◌, ◌*ℤ◌, ◌≤ℤ◌, ◌<ℤ◌, neg_ℤ, FitsSigned}
use Rattle.std.specs.Int.{div_ceil, cast_signed, cast_unsigned, int_wrap}
use Rattle.std.proofs.lemmas.Bool.{cases_eq}
use Rattle.std.proofs.lemmas.Bool.Decides.{nat_tests}
use Rattle.std.proofs.lemmas.Int.{ints, int_wrap_fits, wrapping_add-bits, wrapping_mul_is, int_wrap-add_right, int_wrap-mul_left, to_z-of_z}
use Rattle.std.proofs.lemmas.Nat.{div-add-mod', mod_below, mul-le}
use Rattle.std.proofs.Math.Nat.{suc-mul, mod-eq_of_lt}
use Rattle.mon_values.specs.Integers.{times}
use Rattle.mon_values.specs.Indexing.{place_of}
use Rattle.mon_values.specs.Ranges.{range_length, range_item}

pub place_below : (index : ℤ) (count place : ℕ) → place_of index count ≡ Some place → place < count
place_below (pos n) count place e = grind (arith, nat_tests)
place_below (negsuc n) count place e = grind (arith, nat_tests)

-- so many steps stay below the span
steps_below : (place span k : ℕ) → place < div_ceil span (suc k) → place * suc k < span
steps_below place span k h =
    let split : span / suc k * suc k + span % suc k ≡ span = div-add-mod' span (suc k) in
    elim (cases_eq (span % suc k) 0) [
      | inl e ↦
          let small : suc place ≤ span / suc k = omega arith in
          let most : suc place * suc k ≤ span / suc k * suc k = mul-le (suc place) (suc k) (span / suc k) (suc k) small (omega arith) in
          omega (arith, suc-mul place (suc k))
      | inr n ↦
          let small : place ≤ span / suc k = omega arith in
          let most : place * suc k ≤ span / suc k * suc k = mul-le place (suc k) (span / suc k) (suc k) small (omega arith) in
          omega arith
    ]

fits_between : (z low high : ℤ) → FitsSigned w64 low → FitsSigned w64 high → low ≤ℤ z → z ≤ℤ high → FitsSigned w64 z
fits_between (pos n) low (pos m) f g h k = record { sfits = omega (arith, ints) }
fits_between (pos n) low (negsuc m) f g h k = absurd (omega (arith, ints))
fits_between (negsuc n) (negsuc m) high f g h k = record { sfits = omega (arith, ints) }
fits_between (negsuc n) (pos m) high f g h k = absurd (omega (arith, ints))

below_times : (z : ℤ) (m : ℕ) → m < times z → pos m <ℤ z
below_times (pos n) m h = omega (arith, ints)
below_times (negsuc n) m h = absurd (omega arith)

pub item_fits : (start stop step : ℤ) (place : ℕ) → FitsSigned w64 start → FitsSigned w64 stop → place < range_length start stop step → FitsSigned w64 (range_item start step place)
item_fits start stop (pos zero) place f g h = absurd (omega arith)
item_fits start stop (pos (suc k)) place f g h =
    let below : pos (place * suc k) <ℤ (stop -ℤ start) = below_times (stop -ℤ start) (place * suc k) (steps_below place (times (stop -ℤ start)) k h) in
    fits_between (start +ℤ pos (place * suc k)) start stop f g (omega (arith, ints)) (omega (arith, ints))
item_fits start stop (negsuc k) place f g h =
    let below : pos (place * suc k) <ℤ (start -ℤ stop) = below_times (start -ℤ stop) (place * suc k) (steps_below place (times (start -ℤ stop)) k h) in
    fits_between (start +ℤ neg_ℤ (pos (place * suc k))) stop start g f (omega (arith, ints)) (omega (arith, ints))

wrap_pos : (n : ℕ) → n < 2 ^ 64 → int_wrap w64 (pos n) ≡ cast_signed w64 n
unfolding int_wrap
wrap_pos n h = let same : n % 2 ^ 64 ≡ n = mod-eq_of_lt h in ap (cast_signed w64) same

pub item_is : (start stop step cast : ℤ) (place : ℕ) → FitsSigned w64 start → FitsSigned w64 stop → FitsSigned w64 step → FitsSigned w64 cast → place < 2 ^ 64 → place < range_length start stop step
    → cast ≡ cast_signed w64 place → cast_signed w64 ((cast_unsigned w64 start + (cast_unsigned w64 cast * cast_unsigned w64 step) % 2 ^ 64) % 2 ^ 64) ≡ range_item start step place
item_is start stop step cast place f g s fits small h is =
    let product : ℕ = (cast_unsigned w64 cast * cast_unsigned w64 step) % 2 ^ 64 in
    let low : cast_unsigned w64 start < 2 ^ 64 = omega (arith, ints) in
    let high : product < 2 ^ 64 = mod_below (cast_unsigned w64 cast * cast_unsigned w64 step) (2 ^ 64) (omega arith) in
    let back : cast_signed w64 (cast_unsigned w64 start) ≡ start = to_z-of_z w64 start f in
    let wrapped : cast_signed w64 product ≡ int_wrap w64 (pos place *ℤ step) =
    wrapping_mul_is w64 cast step fits s ∙ ap (λ z. int_wrap w64 (z *ℤ step)) (is ∙ sym (wrap_pos place small)) ∙ int_wrap-mul_left w64 (pos place) step in
    wrapping_add-bits w64 (cast_unsigned w64 start) product low high
    ∙ ap (λ z. int_wrap w64 (z +ℤ cast_signed w64 product)) back
    ∙ ap (λ z. int_wrap w64 (start +ℤ z)) wrapped
    ∙ int_wrap-add_right w64 start (pos place *ℤ step)
    ∙ int_wrap_fits w64 (start +ℤ pos place *ℤ step) (item_fits start stop step place f g h)
