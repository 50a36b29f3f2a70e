use Rattle.std.proofs.Common.{◌≡◌, ◌∙◌, ◌<◌, ◌+◌, ℕ, [], ◌∷◌, map, length, false, nat_lt, refl, ap, sym, arith}
use Rattle.std.proofs.lemmas.Bool.Decides.{nat_tests}
use Rattle.mon_compile.specs.Faults as spec
use Rattle.mon_compile.specs.Functions.{locals_of}
use Rattle.mon_compile.proofs.Least.{least_both}
use Rattle.mon_compile.proofs.misplaced.misplaced_in.Goals as goal

many : (n line : ℕ) → 255 < n → spec.unless (nat_lt n (spec.most_locals + 1)) line ≡ line ∷ []
many n line h =
    let here : nat_lt n (spec.most_locals + 1) ≡ false = grind (arith, nat_tests) in
    ap (λ b. spec.unless b line) here

pub returns : goal.returns
returns c =
    let f = c.args.function.now in
    let n = length (locals_of f) in
    least_both (spec.unless (nat_lt n (spec.most_locals + 1)) f.line) (spec.all_loose (map spec.loose_of f.body) false) (spec.misplaced_in f) _ _ _ refl
    (ap spec.least (sym (many n f.line (c.in_ok-locals.ensures.many (omega (arith, c.len.ensures, c.if-len-le-MOST_LOCALS.false))))))
    (c.loose_in_block-loose.ensures ∙ ap (λ b. spec.least (spec.all_loose (map spec.loose_of b) false)) c.as_slice.ensures)
    c.earlier.ensures
