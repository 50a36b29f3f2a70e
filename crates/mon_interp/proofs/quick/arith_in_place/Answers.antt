use Rattle.std.proofs.Common.{rules, refl}
use Rattle.std.specs.Prelude.{◌+ℤ◌, ◌-ℤ◌, ◌*ℤ◌}
use Rattle.mon_values.specs.declared.operator.ArithOp.TheVariants.{Add, Sub, Mul}
use Rattle.mon_interp.proofs.InPlace.{gave}
use Rattle.mon_interp.proofs.quick.arith_in_place.Goals as goal

pub returns-in-Add : goal.returns-in-Add
returns-in-Add c = rw c.in-Add.is (gave Add c.checked_add.result c.args.a c.args.b (c.args.a +ℤ c.args.b) refl (search rules))

pub returns-in-Sub : goal.returns-in-Sub
returns-in-Sub c = rw c.in-Sub.is (gave Sub c.checked_sub.result c.args.a c.args.b (c.args.a -ℤ c.args.b) refl (search rules))

pub returns-in-Mul : goal.returns-in-Mul
returns-in-Mul c = rw c.in-Mul.is (gave Mul c.checked_mul.result c.args.a c.args.b (c.args.a *ℤ c.args.b) refl (search rules))
