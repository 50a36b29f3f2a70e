use Rattle.std.proofs.Common.{◌≡◌, ◌∙◌, ℕ, suc, ◌+◌, max, slice_get, ap, sym, arith}
use Rattle.mon_run.proofs.Turning.{read_at}
use Rattle.mon_run.proofs.Adding.{next_most}
use Rattle.mon_run.proofs.script_calls.most_calls.Goals as goal

pub loop-script-preserved : goal.loop-script-preserved
loop-script-preserved c =
    let i : ℕ = c.loop-script.script-index in let e : i + 1 ≡ suc i = omega arith in
    let at = read_at c.as_slice-script-items.result.now i c.script-item.result c.loop-script-test.true c.script-item.is in
    let same = c.as_slice-script-items.ensures in
    let step = next_most c.args.plan.now.scripts i (i + 1) c.loop-script.most c.script-item.result e (ap (λ xs. slice_get xs i) (sym same) ∙ at) c.loop-script.invariant in
    c.max-most.ensures ∙ (ap (λ n. max n c.loop-script.most) c.len.ensures ∙ step)
