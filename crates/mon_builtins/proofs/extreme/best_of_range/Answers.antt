use Rattle.std.proofs.Common.{◌≡◌, ◌<◌, ◌-◌, sym, ap, ◌∙◌, arith, w64, ℕ, ℤ, rules}
use Rattle.std.specs.Prelude.{Ok, FitsSigned}
use Rattle.std.proofs.lemmas.Int.{to_z-of_z}
use Rattle.mon_values.specs.declared.value.Value.{Int}
use Rattle.mon_values.specs.Ranges.{range_length, range_item}
use Rattle.mon_builtins.specs.Extremes.{is_first}
use Rattle.mon_builtins.proofs.Bests.{best_none, best_first, best_last, has_step}
use Rattle.mon_builtins.proofs.extreme.best_of_range.Goals as goal

pub returns-then-count-eq0 : goal.returns-then-count-eq0
returns-then-count-eq0 c =
    let a : FitsSigned w64 c.args.start = c.ranges.start in
    let b : FitsSigned w64 c.args.stop = c.ranges.stop in
    let s : FitsSigned w64 c.args.step = c.ranges.step in
    let counted : c.range_len-count.result ≡ range_length c.args.start c.args.stop c.args.step = simp to_z-of_z at c.range_len-count.ensures in
    sym (best_none c.args.wanted c.args.start c.args.stop c.args.step (sym counted ∙ c.if-count-eq0.true))

pub returns-then-is_first : goal.returns-then-is_first
returns-then-is_first c =
    let a : FitsSigned w64 c.args.start = c.ranges.start in
    let b : FitsSigned w64 c.args.stop = c.ranges.stop in
    let s : FitsSigned w64 c.args.step = c.ranges.step in
    let n : ℕ = range_length c.args.start c.args.stop c.args.step in
    let counted : c.range_len-count.result ≡ n = simp to_z-of_z at c.range_len-count.ensures in
    let some : 0 < n = omega (arith, counted, c.if-count-eq0.false) in
    let asked : c.is_first.result ≡ is_first c.args.wanted c.args.step = simp to_z-of_z at c.is_first.ensures in
    ap (λ (z : ℤ). Ok (Int z)) (to_z-of_z w64 c.args.start a) ∙ sym (best_first c.args.wanted c.args.start c.args.step n some (sym asked ∙ c.if-is_first.true))

pub returns : goal.returns
returns c =
    let a : FitsSigned w64 c.args.start = c.ranges.start in
    let b : FitsSigned w64 c.args.stop = c.ranges.stop in
    let s : FitsSigned w64 c.args.step = c.ranges.step in
    let r : FitsSigned w64 c.range_item.result = search rules in
    let n : ℕ = range_length c.args.start c.args.stop c.args.step in
    let counted : c.range_len-count.result ≡ n = simp to_z-of_z at c.range_len-count.ensures in
    let some : 0 < n = omega (arith, counted, c.if-count-eq0.false) in
    let asked : c.is_first.result ≡ is_first c.args.wanted c.args.step = simp to_z-of_z at c.is_first.ensures in
    let item : c.range_item.result ≡ range_item c.args.start c.args.step (c.range_len-count.result - 1) = simp to_z-of_z at c.range_item.ensures in
    let at : range_item c.args.start c.args.step (c.range_len-count.result - 1) ≡ range_item c.args.start c.args.step (n - 1) = ap (λ k. range_item c.args.start c.args.step (k - 1)) counted in
    ap (λ (z : ℤ). Ok (Int z)) (to_z-of_z w64 c.range_item.result r ∙ item ∙ at)
    ∙ sym (best_last c.args.wanted c.args.start c.args.step n some (has_step c.args.start c.args.stop c.args.step some) (sym asked ∙ c.if-is_first.false))
