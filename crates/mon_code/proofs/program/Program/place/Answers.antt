use Rattle.std.proofs.Common.{◌≡◌, ◌∙◌, ◌≤◌, List, length, ap, subst, arith}
use Rattle.mon_code.specs.Programs.{Parts}
use Rattle.mon_code.specs.declared.program.Code.{Code}
use Rattle.mon_code.proofs.Codes.{Ahead, ahead_first, ahead_next, count_fits, stands_here, none_left, codes_few}
use Rattle.mon_code.proofs.program.Program.place.Goals as goal

pub loop-k-init : goal.loop-k-init
loop-k-init c = subst (λ (p : Parts). Ahead p.bases c.as_slice-code-items.result.now 0 c.args.location c.args.location) c.self.view_is (ahead_first c.self.inside.bases c.self.inside.codes _ _ c.as_slice-code-items.ensures c.self.invariant.codes)

pub overflow_cast-count : goal.overflow_cast-count
overflow_cast-count c =
    let same : length c.self.inside.bases ≡ length c.args.self.now.bases = ap (λ (p : Parts). length p.bases) c.self.view_is in
    let few : c.len-count.result ≤ 65536
    = count_fits c.args.self.now.bases c.as_slice-code-items.result.now c.loop-k.k c.code-item.result c.args.location c.loop-k.left c.len-count.result c.loop-k-test.true c.code-item.is c.len-count.ensures (omega (arith, same, c.self.invariant.small))
    c.loop-k.invariant in
    omega (arith, few)

pub overflow_cast-result : goal.overflow_cast-result
overflow_cast-result c =
    let same : length c.as_slice-code-items.result.now ≡ length c.self.inside.codes = ap (λ (cs : List Code). length cs) c.as_slice-code-items.ensures in
    omega (arith, same, c.loop-k-test.true, c.self.invariant.small, codes_few c.self.inside.bases 0 c.self.inside.codes c.self.invariant.codes)

pub returns-then-left-count : goal.returns-then-left-count
returns-then-left-count c =
    stands_here c.args.self.now c.as_slice-code-items.result.now c.loop-k.k c.code-item.result c.args.location c.loop-k.left c.len-count.result (c.as_slice-code-items.ensures ∙ ap (λ (p : Parts). p.codes) c.self.view_is) c.loop-k-test.true c.code-item.is c.len-count.ensures
    c.if-left-count.true c.loop-k.invariant

pub loop-k-preserved : goal.loop-k-preserved
loop-k-preserved c =
    ahead_next c.args.self.now.bases c.as_slice-code-items.result.now c.loop-k.k c.code-item.result c.args.location c.loop-k.left c.len-count.result c.loop-k-test.true c.code-item.is c.len-count.ensures (omega (arith, c.if-left-count.false)) c.loop-k.invariant

pub unreachable-requires : goal.unreachable-requires
unreachable-requires c = none_left c.args.self.now.bases c.as_slice-code-items.result.now c.loop-k.k c.args.location c.loop-k.left (omega (arith, c.loop-k-test.false)) c.requires c.loop-k.invariant
