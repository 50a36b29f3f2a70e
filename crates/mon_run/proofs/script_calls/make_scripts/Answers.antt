use Rattle.std.proofs.Common.{rules, ◌≡◌, ℕ, suc, ◌+◌, arith}
use Rattle.mon_run.proofs.Adding.{next_rounds, no_rounds}
use Rattle.mon_run.proofs.Governing.{same_shares, same_sizes}
use Rattle.mon_run.proofs.Turning.{ok_of}
use Rattle.mon_run.proofs.script_calls.make_scripts.Goals as goal

pub loop-round-init : goal.loop-round-init
loop-round-init g c = record {
  gate = c.requires.gate;
  shares = (search rules);
  sizes = (search rules);
  governs = c.requires.governs;
  grown = no_rounds c.args.control.now.journal c.args.lent.now.plan.now.scripts;
  few = c.requires.few;
}

pub loop-round-preserved : goal.loop-round-preserved
loop-round-preserved g c =
    let n : ℕ = c.loop-round.round in let e : n + 1 ≡ suc n = omega arith in let old = c.loop-round.invariant in let new = c.make_round-answer.ensures in
    let is = c.in_default.is in
    record {
      gate = new.gate;
      shares = same_shares _ _ _ old.shares new.shares;
      sizes = same_sizes _ _ _ old.sizes new.sizes;
      governs = new.governs;
      grown = next_rounds _ _ _ n (n + 1) c.args.lent.now.plan.now.scripts e old.grown (ok_of c.make_round-answer.result.0 c.in_default.field-0 _ is new.made);
      few = ok_of c.make_round-answer.result.0 c.in_default.field-0 _ is new.few;
    }
