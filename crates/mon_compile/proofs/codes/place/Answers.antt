use Rattle.std.proofs.Common.{◌∙◌, length, ap, sym, arith}
use Rattle.mon_compile.proofs.Bound.{parameters_few}
use Rattle.mon_compile.proofs.Programs.{locations_length}
use Rattle.mon_compile.proofs.codes.place.Goals as goal

pub marked-requires : goal.marked-requires
marked-requires c = sym (ap length (c.as_slice.ensures ∙ c.in_ok-locations.ensures) ∙ locations_length 0 0 c.args.code.now)

pub overflow_cast-result : goal.overflow_cast-result
overflow_cast-result c = omega (arith, parameters_few c.args.function.now, ap length c.requires.locals, c.requires.few_locals, c.len.ensures)
