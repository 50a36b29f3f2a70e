use Rattle.std.proofs.Common.{[], ◌∷◌, ap, drop, arith, rules}
use Rattle.std.specs.List.{flat_map}
use Rattle.std.proofs.lemmas.List.{drop_all}
use Rattle.mon_values.specs.Printing.{escaped}
use Rattle.mon_values.proofs.Writing.{chars_more, stopped_before, ended, both_or}
use Rattle.mon_values.proofs.print.write_quoted.Goals as goal

pub returns-then-is_full : goal.returns-then-is_full
returns-then-is_full c =
    stopped_before c.loop-c.out c.args.out.now (flat_map (escaped c.args.quote) (drop c.loop-c.c-index c.args.text.now)) (c.args.quote ∷ flat_map (escaped c.args.quote) c.args.text.now) (c.args.quote ∷ []) c.loop-c.invariant (c.if-is_full.ensures.0 (search rules))

pub loop-c-preserved : goal.loop-c-preserved
loop-c-preserved c =
    chars_more (escaped c.args.quote) c.args.text.now c.loop-c.c-index c.c-item.result c.loop-c.out c.args.out.now c.write_escaped.new.out (c.args.quote ∷ flat_map (escaped c.args.quote) c.args.text.now) c.loop-c.invariant c.loop-c-test.true c.c-item.is c.in_ok-write_escaped.ensures

pub returns : goal.returns
returns c =
    let past = ap (flat_map (escaped c.args.quote)) (drop_all c.loop-c.c-index c.args.text.now (omega arith)) in
    let body = ended c.loop-c.out c.args.out.now (flat_map (escaped c.args.quote) (drop c.loop-c.c-index c.args.text.now)) (c.args.quote ∷ flat_map (escaped c.args.quote) c.args.text.now) c.loop-c.invariant past in
    both_or c.push-2.result c.args.out.now c.loop-c.out c.push-2.new.self (c.args.quote ∷ flat_map (escaped c.args.quote) c.args.text.now) (c.args.quote ∷ []) body c.push-2.ensures
