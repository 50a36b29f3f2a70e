use Rattle.std.proofs.Common.{◌≡◌, ◌∙◌, ap, sym, ◌+◌, length, slice_set, arith}
use Rattle.mon_compile.specs.declared.assembly.Instruction.{Instruction}
use Rattle.mon_compile.specs.Open as opened
use Rattle.mon_compile.proofs.Settled.{change_one, changed_length}
use Rattle.mon_compile.proofs.settle.settle.Goals as goal

pub loop-i-preserved : goal.loop-i-preserved
loop-i-preserved c =
    let f = opened.settled c.args.unknown c.args.done in
    let as_long : length c.loop-i.code.items ≡ length c.args.code.now.items
    = sym (changed_length f c.loop-i.i c.loop-i.code.items) ∙ ap length c.loop-i.invariant ∙ changed_length f c.args.from c.args.code.now.items in
    ap (λ (y : Instruction). opened.changed_from f (c.loop-i.i + 1) (slice_set c.loop-i.code.items c.loop-i.i y)) (c.settle_one.ensures ∙ ap f c.index_mut.ensures.value)
    ∙ change_one f c.loop-i.code.items c.loop-i.i c.index_mut.result.now (omega (arith, c.loop-i-test.true, c.len-i-end.ensures, c.args.code.now.ok.0, as_long))
    ∙ c.loop-i.invariant
