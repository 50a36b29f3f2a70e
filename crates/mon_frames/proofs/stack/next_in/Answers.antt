use Rattle.std.proofs.Common.{◌≡◌, ◌<◌, List, length, refl, arith}
use Rattle.std.specs.Prelude.{slice_get, Some}
use Rattle.std.proofs.lemmas.Option.{slice_get_read}
use Rattle.mon_values.specs.declared.value.Value.{Value}
use Rattle.mon_frames.proofs.Taking.{taken}
use Rattle.mon_frames.proofs.stack.next_in.Goals as goal

pub returns-in-Some : goal.returns-in-Some
returns-in-Some c =
    let xs : List (List Value) = c.args.iterators.now.items in
    let within : c.args.at < length xs = omega (arith, c.in-Some.ensures.variant.0 refl, c.args.iterators.now.ok.0) in
    let found : slice_get xs c.args.at ≡ Some c.in-Some.iteration.now = slice_get_read xs (length xs) c.args.at c.in-Some.iteration.now refl within c.in-Some.ensures.value in
    taken c.next.result xs c.args.at c.in-Some.iteration.now c.next.new.self found c.next.ensures
