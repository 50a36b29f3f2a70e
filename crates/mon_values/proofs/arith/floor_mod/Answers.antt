use Rattle.std.proofs.Common.{◌≡◌, ◌≢◌, arith, ap, sym, ◌∙◌, w64}
use Rattle.std.specs.Prelude.{FitsSigned, pos, ◌<ℤ◌, ◌+ℤ◌}
use Rattle.std.specs.Int.{int_rem_euclid}
use Rattle.std.proofs.lemmas.Int.{to_z-of_z, ints}
use Rattle.mon_values.specs.Integers.{floor_mod}
use Rattle.mon_values.proofs.Arithmetics.{mod_whole, mod_part}
use Rattle.mon_values.proofs.arith.floor_mod.Goals as goal

pub returns-then-remainder-eq0 : goal.returns-then-remainder-eq0
returns-then-remainder-eq0 c =
    let fits_a : FitsSigned w64 c.args.a = c.ranges.a in
    let fits_b : FitsSigned w64 c.args.b = c.ranges.b in
    let below : c.args.b <ℤ pos 0 = omega (arith, ints) in
    let value : c.rem_euclid-remainder.result ≡ int_rem_euclid c.args.a c.args.b = simp to_z-of_z at c.rem_euclid-remainder.ensures.value in
    let zero_left : c.rem_euclid-remainder.result ≡ pos 0 = omega (arith, ints) in
    sym (mod_whole c.args.a c.args.b below (sym value ∙ zero_left))

pub returns : goal.returns
returns c =
    let fits_a : FitsSigned w64 c.args.a = c.ranges.a in
    let fits_b : FitsSigned w64 c.args.b = c.ranges.b in
    let below : c.args.b <ℤ pos 0 = omega (arith, ints) in
    let value : c.rem_euclid-remainder.result ≡ int_rem_euclid c.args.a c.args.b = simp to_z-of_z at c.rem_euclid-remainder.ensures.value in
    let some_left : c.rem_euclid-remainder.result ≢ pos 0 = λ e. omega (arith, ints) in
    let same : floor_mod c.args.a c.args.b ≡ c.rem_euclid-remainder.result +ℤ c.args.b = mod_part c.args.a c.args.b below (λ e. some_left (value ∙ e)) ∙ ap (λ r. r +ℤ c.args.b) (sym value) in
    omega (arith, ints, same)
