use Rattle.std.proofs.Common.{◌≡◌, ◌≢◌, arith, ap, sym, ◌∙◌, rules, w64}
use Rattle.std.specs.Prelude.{FitsSigned, pos, negsuc, ◌<ℤ◌, ◌-ℤ◌}
use Rattle.std.specs.Int.{int_div_euclid, int_rem_euclid}
use Rattle.std.proofs.lemmas.Int.{to_z-of_z, ints}
use Rattle.mon_values.specs.Integers.{floor_div}
use Rattle.mon_values.proofs.Arithmetics.{floor_whole, floor_part, quotient_above}
use Rattle.mon_values.proofs.arith.floor_quotient.Goals as goal

pub returns-then-rem_euclid-eq0 : goal.returns-then-rem_euclid-eq0
returns-then-rem_euclid-eq0 c =
    let fits_a : FitsSigned w64 c.args.a = c.ranges.a in
    let fits_b : FitsSigned w64 c.args.b = c.ranges.b in
    let below : c.args.b <ℤ pos 0 = omega (arith, ints) in
    let value : c.div_euclid-quotient.result ≡ int_div_euclid c.args.a c.args.b = simp to_z-of_z at c.div_euclid-quotient.ensures in
    let left : c.rem_euclid.result ≡ int_rem_euclid c.args.a c.args.b = simp to_z-of_z at c.rem_euclid.ensures.value in
    let none_left : c.rem_euclid.result ≡ pos 0 = omega (arith, ints) in
    let same : floor_div c.args.a c.args.b ≡ c.div_euclid-quotient.result = floor_whole c.args.a c.args.b below (sym left ∙ none_left) ∙ sym value in
    omega (arith, ints, same)

pub returns : goal.returns
returns c =
    let fits_a : FitsSigned w64 c.args.a = c.ranges.a in
    let fits_b : FitsSigned w64 c.args.b = c.ranges.b in
    let below : c.args.b <ℤ pos 0 = omega (arith, ints) in
    let value : c.div_euclid-quotient.result ≡ int_div_euclid c.args.a c.args.b = simp to_z-of_z at c.div_euclid-quotient.ensures in
    let left : c.rem_euclid.result ≡ int_rem_euclid c.args.a c.args.b = simp to_z-of_z at c.rem_euclid.ensures.value in
    let some_left : c.rem_euclid.result ≢ pos 0 = λ e. omega (arith, ints) in
    let above : negsuc 9223372036854775807 <ℤ int_div_euclid c.args.a c.args.b = quotient_above c.args.a c.args.b fits_a below in
    let same : floor_div c.args.a c.args.b ≡ c.div_euclid-quotient.result -ℤ pos 1 = floor_part c.args.a c.args.b below (λ e. some_left (left ∙ e)) ∙ ap (λ q. q -ℤ pos 1) (sym value) in
    let q : FitsSigned w64 c.div_euclid-quotient.result = search rules in
    let above_q : negsuc 9223372036854775807 <ℤ c.div_euclid-quotient.result = rw value above in
    omega (arith, ints, same)
