use Rattle.std.proofs.Common.{◌≡◌, ℕ, suc, ◌+◌, List, length, ap, sym, arith}
use Rattle.mon_history.specs.declared.calls.ControlCall.{ControlCall}
use Rattle.mon_run.specs.Controlling.{calls_due}
use Rattle.mon_run.proofs.Adding.{due_here, due_next, due_round, next_round}
use Rattle.mon_run.proofs.Governing.{same_shares, same_sizes}
use Rattle.mon_run.proofs.Moving.{script_fits}
use Rattle.mon_run.proofs.Turning.{ok_of}
use Rattle.mon_run.proofs.script_calls.make_round.Goals as goal

pub make_one-answer-requires-clause-fits : goal.make_one-answer-requires-clause-fits
make_one-answer-requires-clause-fits g c = script_fits c.args.lent.now.program.now c.args.lent.now.plan.now.scripts c.loop-s.s c.in-Some.script.now c.requires.fits (sym c.in-Some.ensures.value)

pub make_one-answer-requires-clause-few : goal.make_one-answer-requires-clause-few
make_one-answer-requires-clause-few g c =
    let here = due_here c.args.round c.loop-s.s c.args.lent.now.plan.now.scripts c.in-Some.script.now (sym c.in-Some.ensures.value) in
    omega (arith, here, c.loop-s.invariant.few)

pub loop-s-preserved : goal.loop-s-preserved
loop-s-preserved g c =
    let s : ℕ = c.loop-s.s in let e : s + 1 ≡ suc s = omega arith in let old = c.loop-s.invariant in let new = c.make_one-answer.ensures in
    let is = c.in_default-answer.is in
    record {
      gate = new.gate;
      shares = same_shares _ _ _ old.shares new.shares;
      sizes = same_sizes _ _ _ old.sizes new.sizes;
      governs = new.governs;
      grown = next_round _ _ _ c.args.round s (s + 1) c.args.lent.now.plan.now.scripts c.in-Some.script.now e (sym c.in-Some.ensures.value) old.grown (ok_of c.make_one-answer.result.0 c.in_default-answer.field-0 _ is new.made);
      few =
          let made = ok_of c.make_one-answer.result.0 c.in_default-answer.field-0 _ is new.few in
          let next = due_next c.args.round s (s + 1) (c.args.round + 1) c.args.lent.now.plan.now.scripts c.in-Some.script.now e (omega arith) (sym c.in-Some.ensures.value) in
          omega (arith, made, next, old.few);
    }

pub returns-clause-few : goal.returns-clause-few
returns-clause-few g c =
    let scripts : List (List ControlCall) = c.args.lent.now.plan.now.scripts in let r : ℕ = c.args.round in
    let end : c.loop-s.s ≡ length scripts = omega (arith, c.loop-s-test.false, c.loop-s.auto.s-end, c.len-s-end.ensures) in
    let whole = due_round r (r + 1) scripts (omega arith) in
    omega (arith, ap (λ k. calls_due r k scripts) end, whole, c.loop-s.invariant.few)
