use Rattle.std.proofs.Common.{◌≡◌, ◌∙◌, ℕ, ◌≤◌, List, length, take, take_all, subst}
use Rattle.mon_compile.proofs.Bound.{few_locals, many_locals}
use Rattle.mon_compile.proofs.bindings.bindings.Goals as goal

all_taken : (names found parameters : List (List ℕ)) (k : ℕ) → names ≡ take k parameters → found ≡ parameters → length found ≤ k → names ≡ parameters
all_taken names found parameters k is same h = is ∙ take_all k parameters (subst (λ (l : List (List ℕ)). length l ≤ k) same h)

pub returns-clause-few : goal.returns-clause-few
returns-clause-few c =
    few_locals c.args.most c.args.function.now _ _ _ (all_taken _ _ _ _ c.loop-name.invariant c.as_slice-name-items.ensures c.loop-name-test.false) c.as_slice.ensures c.in_ok-bind_block.ensures

pub returns-clause-many : goal.returns-clause-many
returns-clause-many c =
    many_locals c.args.most c.args.function.now _ _ _ (all_taken _ _ _ _ c.loop-name.invariant c.as_slice-name-items.ensures c.loop-name-test.false) c.as_slice.ensures c.in_ok-bind_block.ensures
