use Rattle.std.proofs.Common.{◌≡◌, ◌∙◌, ℕ, suc, ◌+◌, slice_get, ap, sym, arith}
use Rattle.mon_history.specs.declared.calls.Who.{Who}
use Rattle.mon_run.proofs.Adding.{made_longer}
use Rattle.mon_run.proofs.Early.{next_asked, next_zero}
use Rattle.mon_run.proofs.Governing.{same_shares, same_sizes}
use Rattle.mon_run.proofs.Moving.{names_code, call_fits}
use Rattle.mon_run.proofs.Turning.{read_at, ok_of}
use Rattle.mon_run.proofs.script_calls.make_before.Goals as goal

pub make_call-answer-requires-clause-code : goal.make_call-answer-requires-clause-code
make_call-answer-requires-clause-code g c =
    let i : ℕ = c.loop-call.call-index in
    let at = ap (λ xs. slice_get xs i) (sym c.as_slice-call-items.ensures) ∙ read_at c.as_slice-call-items.result.now i c.call-item.result c.loop-call-test.true c.call-item.is in
    names_code c.args.lent.now.program.now c.loop-call.control.codes c.call-item.result c.loop-call.invariant.governs.codes (call_fits c.args.lent.now.program.now c.args.lent.now.plan.now.before i c.call-item.result c.requires.fits at)

pub loop-call-preserved : goal.loop-call-preserved
loop-call-preserved g c =
    let i : ℕ = c.loop-call.call-index in let e : i + 1 ≡ suc i = omega arith in
    let at = ap (λ xs. slice_get xs i) (sym c.as_slice-call-items.ensures) ∙ read_at c.as_slice-call-items.result.now i c.call-item.result c.loop-call-test.true c.call-item.is in
    let v = c.loop-call.idle.chair.me.0 in let old = c.loop-call.invariant in let new = c.make_call-answer.ensures in
    let made = ok_of c.make_call-answer.result.0 c.in_default.field-0 _ c.in_default.is new.made in
    let all : v.tickets ≡ v.threads = old.shares.tickets ∙ (c.requires.tickets ∙ sym old.shares.threads) in
    record {
      gate = new.gate;
      shares = same_shares _ _ _ old.shares new.shares;
      sizes = same_sizes _ _ _ old.sizes new.sizes;
      governs = new.governs;
      asked_are = next_asked _ _ c.args.lent.now.plan.now.before i (i + 1) _ _ e at old.asked_are made;
      zero = next_zero _ _ Who.Before _ _ all old.zero made;
      many = made_longer _ _ Who.Before _ _ made ∙ ap (λ n. n + 1) old.many;
    }
