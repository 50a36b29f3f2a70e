use Rattle.std.proofs.Common.{◌≤◌, ◌∙◌, length, arith}
use Rattle.std.specs.Prelude.{Result, Ok, Err, OnErr}
use Rattle.mon_outside.proofs.Pieces.{writes_more, prefix_more}
use Rattle.mon_outside.proofs.sink.write_all.Goals as goal

on_err : {T E P : Type 0} (r : Result T E) → P → OnErr r P
on_err (Ok x) p = tt
on_err (Err e) p = p

pub returns-in_err-write-clause-err : goal.returns-in_err-write-clause-err
returns-in_err-write-clause-err g c =
    let ahead : c.loop-at.at ≤ c.min-end.result = omega arith in
    let within : c.min-end.result ≤ length c.args.text.now = omega arith in
    on_err _ (prefix_more _ _ _ c.args.text.now c.loop-at.at c.min-end.result ahead within c.loop-at.invariant.so_far c.in_err-write.ensures.err)

pub loop-at-preserved : goal.loop-at-preserved
loop-at-preserved g c = record {
  within = omega arith;
  so_far = writes_more _ _ _ c.args.text.now c.loop-at.at c.min-end.result (omega arith) c.loop-at.invariant.so_far c.in_ok-write.ensures.ok;
  count = c.in_ok-write.ensures.ok_count ∙ c.loop-at.invariant.count;
}
